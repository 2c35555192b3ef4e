-- What is spelled is taken, symbol by symbol, each as deep as it is nested.
use Rattle.std.proofs.Common.{◌≡◌, ℕ, suc, ◌≤◌, true, List, [], ◌∷◌, ◌++◌, None, Some, nat_le, sym as flip, ◌∙◌, ap, refl, arith, append_assoc}
use Rattle.std.proofs.lemmas.List.{append-nil}
use Rattle.std.proofs.lemmas.Bool.Decides.{nat_tests}
use Rattle.pg_grammar.specs.Shapes.{Sym, Name, Number, FalseWord, SuccWord, Sign, NotSign, QuantSign, Open, Close, Comma, Shape, Named, Numeral, Falsum, Paren, Next, App, Neg, Quant, Binary, binders, spelled, strength, can_apply, IsShape}
use Rattle.pg_grammar.specs.Nesting.{right_depth, binder_depths, depths}
use Rattle.pg_grammar.specs.Machine.{Frame, InParen, InNext, InArg, InNeg, InQuant, InBinary, Wants, Has, Binds, Unnamed, start, wanted, settled, ended, nesting, depth}
use Rattle.pg_grammar.proofs.Table.{level-right, level-left, right-fits}
use Rattle.pg_grammar.proofs.Ends.{Ends, ends-close, ends-nil, ends-sign, ends-strong, ends-apply, apply-strong}
use Rattle.pg_grammar.proofs.Trace.{Trace, added, with_trace, trace, added-added, tested, takes-yes, settled-has, settled-depth, sign-here, leave}
use Rattle.pg_grammar.proofs.Names.{binders-taken}

-- an argument is taken as an operand of its frame
arg-step : (frames : List Frame) (f x : Shape) (rest : List Sym) → can_apply f ≡ true → 101 ≤ strength x
    → trace (Has frames f) (spelled x ++ rest) ≡ trace (Wants (InArg f ∷ frames)) (spelled x ++ rest)
arg-step frames f (Named x) rest c h = tested (Name x ∷ rest) (ended (Has frames f)) (can_apply f) (Has frames (App f (Named x))) rest c
arg-step frames f (Numeral n) rest c h = tested (Number n ∷ rest) (ended (Has frames f)) (can_apply f) (Has frames (App f (Numeral n))) rest c
arg-step frames f (Falsum at) rest c h = tested (FalseWord at ∷ rest) (ended (Has frames f)) (can_apply f) (Has frames (App f (Falsum at))) rest c
arg-step frames f (Paren at s) rest c h =
    let more : List Sym = (spelled s ++ Close ∷ []) ++ rest in
    tested (Open at ∷ more) (ended (Has frames f)) (can_apply f) (Wants (InParen at ∷ InArg f ∷ frames)) more c
arg-step frames f (Next at s) rest c h = absurd (omega (arith, h))
arg-step frames f (App g s) rest c h = absurd (omega (arith, h))
arg-step frames f (Neg at s) rest c h = absurd (omega (arith, h))
arg-step frames f (Quant at q b s) rest c h = absurd (omega (arith, h))
arg-step frames f (Binary at op l r) rest c h = absurd (omega (arith, h, level-right op, right-fits op))

atom-taken : (frames : List Frame) (s : Shape) (rest : List Sym) → added (depth (settled frames s) ∷ []) (trace (settled frames s) rest) ≡ added (nesting frames ∷ []) (trace (settled frames s) rest)
atom-taken frames s rest = ap (λ d. added (d ∷ []) (trace (settled frames s) rest)) (settled-depth frames s)

-- the same with the operand in its frames, where these don't want an atom
unsettled : (frames : List Frame) (s : Shape) (ds : List ℕ) (rest : List Sym) → wanted frames ≤ 100 → added ds (trace (Has frames s) rest) ≡ added ds (trace (settled frames s) rest)
unsettled frames s ds rest le = ap (λ state. added ds (trace state rest)) (flip (settled-has frames s le))

taken : (s : Shape) → IsShape s → (frames : List Frame) → wanted frames ≤ strength s → (rest : List Sym) → Ends s rest
    → trace (Wants frames) (spelled s ++ rest) ≡ added (depths (nesting frames) s) (trace (settled frames s) rest)
taken (Named x) h frames le rest ends = atom-taken frames (Named x) rest
taken (Numeral n) h frames le rest ends = atom-taken frames (Numeral n) rest
taken (Falsum at) h frames le rest ends = atom-taken frames (Falsum at) rest
taken (Paren at s) h frames le rest ends =
    let n : ℕ = nesting frames in
    let t : Trace = trace (settled frames (Paren at s)) rest in
    ap (λ l. added (n ∷ []) (trace (Wants (InParen at ∷ frames)) l)) (append_assoc (spelled s) (Close ∷ []) rest)
    ∙ ap (added (n ∷ []))
    (taken s h (InParen at ∷ frames) (omega arith) (Close ∷ rest) (ends-close s rest)
    ∙ ap (added (depths (suc n) s)) (atom-taken frames (Paren at s) rest)
    ∙ added-added (depths (suc n) s) (n ∷ []) t)
taken (Next at s) h frames le rest ends =
    let n : ℕ = nesting frames in
    let test : nat_le (wanted frames) 100 ≡ true = grind (arith, nat_tests, le) in
    tested (SuccWord at ∷ (spelled s ++ rest)) None (nat_le (wanted frames) 100) (Wants (InNext at ∷ frames)) (spelled s ++ rest) test
    ∙ ap (added (n ∷ [])) (taken s h.1 (InNext at ∷ frames) h.0 rest (ends-strong s rest h.0))
    ∙ unsettled frames (Next at s) (n ∷ depths n s) rest le
taken (App f x) h frames le rest ends =
    let n : ℕ = nesting frames in
    ap (trace (Wants frames)) (append_assoc (spelled f) (spelled x) rest)
    ∙ taken f h.2 frames (omega (arith, le, apply-strong f h.0)) (spelled x ++ rest) (ends-apply f (spelled x ++ rest) h.0)
    ∙ ap (added (depths n f))
    (ap (λ state. trace state (spelled x ++ rest)) (settled-has frames f le) ∙ arg-step frames f x rest h.0 h.1 ∙ taken x h.3 (InArg f ∷ frames) h.1 rest (ends-strong x rest h.1))
    ∙ added-added (depths n f) (depths n x) (trace (Has frames (App f x)) rest)
    ∙ unsettled frames (App f x) (depths n f ++ depths n x) rest le
taken (Neg at s) h frames le rest ends =
    let n : ℕ = nesting frames in
    let test : nat_le (wanted frames) 40 ≡ true = grind (arith, nat_tests, le) in
    tested (NotSign at ∷ (spelled s ++ rest)) None (nat_le (wanted frames) 40) (Wants (InNeg at ∷ frames)) (spelled s ++ rest) test
    ∙ ap (added (n ∷ [])) (taken s h.1 (InNeg at ∷ frames) h.0 rest ends.1 ∙ ap (added (depths (suc n) s)) (leave (InNeg at) frames s rest refl ends.0))
    ∙ unsettled frames (Neg at s) (n ∷ depths (suc n) s) rest (omega (arith, le))
taken (Quant at q b s) h frames le rest ends =
    let n : ℕ = nesting frames in
    let more : List Sym = (binders b ++ Comma ∷ spelled s) ++ rest in
    let test : nat_le (wanted frames) 100 ≡ true = grind (arith, nat_tests, le) in
    tested (QuantSign at q ∷ more) None (nat_le (wanted frames) 100) (Binds frames at q Unnamed) more test
    ∙ ap (added (n ∷ []))
    (ap (trace (Binds frames at q Unnamed)) (append_assoc (binders b) (Comma ∷ spelled s) rest)
    ∙ binders-taken frames at q b (spelled s ++ rest)
    ∙ ap (λ t. added (binder_depths (suc n) b) (added (suc n ∷ []) t))
    (taken s h (InQuant at q b ∷ frames) (omega arith) rest ends.1 ∙ ap (added (depths (suc n) s)) (leave (InQuant at q b) frames s rest refl ends.0))
    ∙ added-added (binder_depths (suc n) b) (suc n ∷ depths (suc n) s) (trace (Has frames (Quant at q b s)) rest))
    ∙ unsettled frames (Quant at q b s) (n ∷ (binder_depths (suc n) b ++ suc n ∷ depths (suc n) s)) rest le
taken (Binary at op l r) h frames le rest ends =
    let n : ℕ = nesting frames in
    let m : ℕ = right_depth op n in
    let more : List Sym = spelled r ++ rest in
    let fits : wanted frames ≤ 100 = omega (arith, le, level-right op, right-fits op) in
    ap (trace (Wants frames)) (append_assoc (spelled l) (Sign at op ∷ spelled r) rest)
    ∙ taken l h.2 frames (omega (arith, le, level-left op, h.0)) (Sign at op ∷ more) (ends-sign l at op more h.2 h.0 h.4)
    ∙ ap (added (depths n l))
    (ap (λ state. trace state (Sign at op ∷ more)) (settled-has frames l fits)
    ∙ ap (λ o. with_trace (Sign at op ∷ more) (ended (Has frames l)) (λ next. trace next more) o) (sign-here at op frames l (takes-yes (wanted frames) l op le h.0 h.4))
    ∙ ap (added (n ∷ [])) (taken r h.3 (InBinary at op l ∷ frames) h.1 rest ends.1 ∙ ap (added (depths m r)) (leave (InBinary at op l) frames r rest refl ends.0)))
    ∙ added-added (depths n l) (n ∷ depths m r) (trace (Has frames (Binary at op l r)) rest)
    ∙ unsettled frames (Binary at op l r) (depths n l ++ n ∷ depths m r) rest fits

abbrev pub all_taken : Shape → Trace
all_taken s = record { depths = depths 0 s; end = Some s; rest = [] }

pub spelled-taken : (s : Shape) → IsShape s → trace start (spelled s) ≡ all_taken s
spelled-taken s h =
    ap (trace start) (flip (append-nil (spelled s))) ∙ taken s h [] (omega arith) [] (ends-nil s)
    ∙ ap (λ l. let t : Trace = record { depths = l; end = Some s; rest = [] } in t) (append-nil (depths 0 s))
