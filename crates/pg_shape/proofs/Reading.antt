-- One symbol more, and the operand that leaves a frame.
use Rattle.std.proofs.Common.{◌≡◌, ℕ, ◌==◌, Bool, true, false, cond, List, [], ◌∷◌, Option, Some, None, nat_lt, sym as flip, ◌∙◌, ap, refl, arith, ◌<◌}
use Rattle.std.proofs.lemmas.Bool.Decides.{nat_tests}
use Rattle.pg_grammar.specs.Shapes.{Sym, Shape}
use Rattle.pg_grammar.specs.Faults.{Fault, Expected, Deep, Long, Part, Lost, Refused}
use Rattle.pg_grammar.specs.Machine.{Frame, InParen, InNext, InArg, InNeg, InQuant, InBinary, close_in, State, Has, is_paren, leaving, settled, depth, stopped, with_next, whole}
use Rattle.pg_shape.specs.Frames.{wants_atom, want_atom}
use Rattle.pg_shape.specs.Answers.{judged}

-- ---- one token more

refused-by : (deep long : Bool) (syms : List Sym) (go : Part) (fault : Fault) → cond deep (Some Deep) (cond long (Some Long) None) ≡ Some fault
    → whole (cond deep (Lost Deep syms) (cond long (Lost Long syms) go)) ≡ Refused fault syms
refused-by true long syms go fault e = let x : Deep ≡ fault = cc in ap (λ f. Refused f syms) x
refused-by false true syms go fault e = let x : Long ≡ fault = cc in ap (λ f. Refused f syms) x
refused-by false false syms go fault e = cc

stopped-at : (sym : Sym) (rest : List Sym) (end : Option Shape) → whole (stopped (sym ∷ rest) end) ≡ Refused Expected (sym ∷ rest)
stopped-at sym rest None = refl
stopped-at sym rest (Some s) = refl

pub refused_next : (room : ℕ) (sym : Sym) (rest : List Sym) (end : Option Shape) (go : State → Part) (o : Option State) (fault : Fault) → judged room o ≡ Some fault
    → whole (with_next 100 room (sym ∷ rest) end go o) ≡ Refused fault (sym ∷ rest)
refused_next room sym rest end go None fault e =
    let x : Expected ≡ fault = cc in
    stopped-at sym rest end ∙ ap (λ f. Refused f (sym ∷ rest)) x
refused_next room sym rest end go (Some next) fault e = refused-by (nat_lt 100 (depth next)) (room == 0) (sym ∷ rest) (go next) fault e

taken-by : (deep long : Bool) (syms : List Sym) (go : Part) → cond deep (Some Deep) (cond long (Some Long) None) ≡ None → cond deep (Lost Deep syms) (cond long (Lost Long syms) go) ≡ go
taken-by true long syms go e = cc
taken-by false true syms go e = cc
taken-by false false syms go e = refl

pub taken_next : (room : ℕ) (syms : List Sym) (end : Option Shape) (go : State → Part) (o : Option State) (next : State) → o ≡ Some next → judged room o ≡ None
    → with_next 100 room syms end go o ≡ go next
taken_next room syms end go o next e j =
    ap (with_next 100 room syms end go) e ∙ taken-by (nat_lt 100 (depth next)) (room == 0) syms (go next) (flip (ap (judged room) e) ∙ j)

no-fault : (deep long : Bool) → cond deep (Some Deep) (cond long (Some Long) None) ≡ None → long ≡ false
no-fault true long e = cc
no-fault false true e = cc
no-fault false false e = refl

-- what is taken has room
pub has_room : (room : ℕ) (o : Option State) (next : State) → o ≡ Some next → judged room o ≡ None → 0 < room
has_room room o next e j =
    let some : (room == 0) ≡ false = no-fault (nat_lt 100 (depth next)) (room == 0) (flip (ap (judged room) e) ∙ j) in
    grind (arith, nat_tests, some)

-- ---- a closing parenthesis

pub not_closing : (f : Frame) (frames : List Frame) (s : Shape) → is_paren f ≡ false → close_in (f ∷ frames) s ≡ None
not_closing (InParen at) frames s e = cc
not_closing _ frames s e = refl

-- ---- an atom

pub settled_stays : (frames : List Frame) (s : Shape) → want_atom frames ≡ false → settled frames s ≡ Has frames s
settled_stays [] s e = refl
settled_stays (InParen at ∷ frames) s e = refl
settled_stays (InNext at ∷ frames) s e = cc
settled_stays (InArg f ∷ frames) s e = cc
settled_stays (InNeg at ∷ frames) s e = refl
settled_stays (InQuant at q b ∷ frames) s e = refl
settled_stays (InBinary at op l ∷ frames) s e = refl

leaves-frame : (f : Frame) (frames : List Frame) (s : Shape) → wants_atom f ≡ true → settled (f ∷ frames) s ≡ Has frames (leaving f s)
leaves-frame (InParen at) frames s e = cc
leaves-frame (InNext at) frames s e = refl
leaves-frame (InArg f) frames s e = refl
leaves-frame (InNeg at) frames s e = cc
leaves-frame (InQuant at q b) frames s e = cc
leaves-frame (InBinary at op l) frames s e = cc

pub settled_leaves : (frames outer : List Frame) (f : Frame) (s : Shape) → frames ≡ f ∷ outer → want_atom frames ≡ true → settled frames s ≡ Has outer (leaving f s)
settled_leaves frames outer f s parts e = ap (λ l. settled l s) parts ∙ leaves-frame f outer s (flip (ap want_atom parts) ∙ e)

pub ruleset settles = (settled_stays, settled_leaves)
