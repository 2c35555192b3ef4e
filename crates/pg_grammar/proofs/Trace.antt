-- What the machine does with symbols, and how deep each that it takes is nested.
use Rattle.std.proofs.Common.{◌≡◌, ℕ, ◌<◌, ◌≤◌, Bool, true, false, ◌||◌, cond, List, [], ◌∷◌, ◌++◌, Option, None, Some, nat_le, sym as flip, ◌∙◌, ap, ap₂, refl, arith, append_assoc}
use Rattle.std.proofs.lemmas.Bool.Decides.{nat_tests}
use Rattle.pg_grammar.specs.Shapes.{Op, level, left_min, Sym, Name, Number, FalseWord, SuccWord, Sign, NotSign, QuantSign, Open, Close, Comma, Colon, NatSign, Other, Shape, strength, closed}
use Rattle.pg_grammar.specs.Machine.{Frame, InParen, InNext, InArg, InNeg, InQuant, InBinary, State, Wants, Has, place, wanted, is_paren, leaving, takes, goes_on, Operand, reduced, settled, on_sign, on_close, on_end, when, step, ended, nesting, depth}
use Rattle.pg_grammar.proofs.Ends.{StopsAt, Stops}

-- the depths of the symbols that are taken, the shape that they are, and the symbols that are left
pub record Trace : Type 0 where
  pub depths : List ℕ
  pub end : Option Shape
  pub rest : List Sym

abbrev pub added : List ℕ → Trace → Trace
added ds t = record { depths = ds ++ t.depths; end = t.end; rest = t.rest }

abbrev pub with_trace : List Sym → Option Shape → (State → Trace) → Option State → Trace
with_trace syms end go None = record { depths = []; end = end; rest = syms }
with_trace syms end go (Some next) = added (depth next ∷ []) (go next)

abbrev pub trace : State → List Sym → Trace
trace state [] = record { depths = []; end = ended state; rest = [] }
trace state (sym ∷ rest) = with_trace (sym ∷ rest) (ended state) (λ next. trace next rest) (step state sym)

pub added-added : (a b : List ℕ) (t : Trace) → added a (added b t) ≡ added (a ++ b) t
added-added a b t = ap (λ l. let r : Trace = record { depths = l; end = t.end; rest = t.rest } in r) (flip (append_assoc a b t.depths))

pub tested : (syms : List Sym) (end : Option Shape) (test : Bool) (next : State) (rest : List Sym) → test ≡ true
    → with_trace syms end (λ x. trace x rest) (when test next) ≡ added (depth next ∷ []) (trace next rest)
tested syms end test next rest e = ap (λ b. with_trace syms end (λ x. trace x rest) (when b next)) e

-- ---- tests

pub takes-yes : (min : ℕ) (left : Shape) (op : Op) → min ≤ level op → left_min op ≤ strength left → closed left ≡ true → takes min left op ≡ true
takes-yes min left op a b c =
    let x : nat_le min (level op) ≡ true = grind (arith, nat_tests, a) in
    let y : nat_le (left_min op) (strength left) ≡ true = grind (arith, nat_tests, b) in
    rw (x, y, c) refl

takes-not : (min : ℕ) (left : Shape) (op : Op) → level op < min → takes min left op ≡ false
takes-not min left op a =
    let x : nat_le min (level op) ≡ false = grind (arith, nat_tests, a) in
    rw x refl

or-right : (a b : Bool) → b ≡ true → (a || b) ≡ true
or-right true b e = refl
or-right false b e = e

-- ---- an operand and its frames

pub settled-has : (frames : List Frame) (s : Shape) → wanted frames ≤ 100 → settled frames s ≡ Has frames s
settled-has [] s le = refl
settled-has (InParen at ∷ frames) s le = refl
settled-has (InNext at ∷ frames) s le = absurd (omega (arith, le))
settled-has (InArg f ∷ frames) s le = absurd (omega (arith, le))
settled-has (InNeg at ∷ frames) s le = refl
settled-has (InQuant at q b ∷ frames) s le = refl
settled-has (InBinary at op l ∷ frames) s le = refl

pub settled-depth : (frames : List Frame) (s : Shape) → depth (settled frames s) ≡ nesting frames
settled-depth [] s = refl
settled-depth (InParen at ∷ frames) s = refl
settled-depth (InNext at ∷ frames) s = refl
settled-depth (InArg f ∷ frames) s = refl
settled-depth (InNeg at ∷ frames) s = refl
settled-depth (InQuant at q b ∷ frames) s = refl
settled-depth (InBinary at op l ∷ frames) s = refl

abbrev here : List Frame → Shape → Operand
here frames s = record { frames = frames; shape = s }

reduced-here : (op : Op) (frames : List Frame) (s : Shape) → takes (wanted frames) s op ≡ true → reduced (Some op) frames s ≡ here frames s
reduced-here op [] s e = refl
reduced-here op (frame ∷ frames) s e =
    ap (λ b. cond b (here (frame ∷ frames) s) (reduced (Some op) frames (leaving frame s))) (or-right (is_paren frame) (takes (place frame) s op) e)

reduced-out : (sign : Option Op) (frame : Frame) (frames : List Frame) (s : Shape) → is_paren frame ≡ false → goes_on sign (place frame) s ≡ false
    → reduced sign (frame ∷ frames) s ≡ reduced sign frames (leaving frame s)
reduced-out sign frame frames s e g = ap₂ (λ a b. cond (a || b) (here (frame ∷ frames) s) (reduced sign frames (leaving frame s))) e g

-- the sign goes on the operand that stands in these frames
pub sign-here : (at : ℕ) (op : Op) (frames : List Frame) (s : Shape) → takes (wanted frames) s op ≡ true → on_sign at op (reduced (Some op) frames s) ≡ Some (Wants (InBinary at op s ∷ frames))
sign-here at op frames s e =
    ap (on_sign at op) (reduced-here op frames s e) ∙ ap (λ b. when b (Wants (InBinary at op s ∷ frames))) e

leave-step : (frame : Frame) (frames : List Frame) (s : Shape) (sym : Sym) → is_paren frame ≡ false → StopsAt (place frame) sym → step (Has (frame ∷ frames) s) sym ≡ step (Has frames (leaving frame s)) sym
leave-step frame frames s (Name x) e h = absurd h
leave-step frame frames s (Number n) e h = absurd h
leave-step frame frames s (FalseWord at) e h = absurd h
leave-step frame frames s (Open at) e h = absurd h
leave-step frame frames s (Sign at op) e h = ap (on_sign at op) (reduced-out (Some op) frame frames s e (takes-not (place frame) s op h))
leave-step frame frames s Close e h = ap on_close (reduced-out None frame frames s e refl)
leave-step frame frames s (SuccWord at) e h = refl
leave-step frame frames s (NotSign at) e h = refl
leave-step frame frames s (QuantSign at q) e h = refl
leave-step frame frames s Comma e h = refl
leave-step frame frames s Colon e h = refl
leave-step frame frames s NatSign e h = refl
leave-step frame frames s Other e h = refl

leave-end : (frame : Frame) (frames : List Frame) (s : Shape) → is_paren frame ≡ false → ended (Has (frame ∷ frames) s) ≡ ended (Has frames (leaving frame s))
leave-end frame frames s e = ap on_end (reduced-out None frame frames s e refl)

-- an operand that nothing goes on leaves its frame
pub leave : (frame : Frame) (frames : List Frame) (s : Shape) (rest : List Sym) → is_paren frame ≡ false → Stops (place frame) rest
    → trace (Has (frame ∷ frames) s) rest ≡ trace (Has frames (leaving frame s)) rest
leave frame frames s [] e h = ap (λ end. let t : Trace = record { depths = []; end = end; rest = [] } in t) (leave-end frame frames s e)
leave frame frames s (sym ∷ rest) e h =
    ap₂ (λ end o. with_trace (sym ∷ rest) end (λ next. trace next rest) o) (leave-end frame frames s e) (leave-step frame frames s sym e h)
