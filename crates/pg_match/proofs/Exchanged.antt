-- Lists of terms with a new term for an old one.
use Rattle.std.proofs.Common.{◌≡◌, ℕ, ◌+◌, ◌-◌, ◌^◌, ◌<◌, min, List, [], ◌∷◌, ◌++◌, take, length, get_or, refl, ap, sym, ◌∙◌, arith}
use Rattle.pg_logic.specs.Tree.{Tm, Tms, none, arg, nodes, nodes_all}
use Rattle.pg_terms.specs.declared.term.Term.{Term}
use Rattle.pg_terms.specs.View.{term, args}
use Rattle.pg_terms.proofs.Lists.{push, args-push, args-more, nodes_all-push}
use Rattle.pg_moves.specs.Replaced.{replaced, replaced_all}

replaced_push : (old new : Tm) (ts : Tms) (t : Tm) → replaced_all old new (push ts t) ≡ push (replaced_all old new ts) (replaced old new t)
replaced_push old new none t = refl
replaced_push old new (arg s ts) t = ap (arg (replaced old new s)) (replaced_push old new ts t)

-- one turn of the sum
pub nodes_turn : (old n : Tm) (ts : List Term) (i : ℕ) (t : Term) (sum here : ℕ) → i < length ts → t ≡ get_or ts i t →
    sum ≡ min (nodes_all (replaced_all old n (args (take i ts)))) (2 ^ 64 - 1) → here ≡ min (nodes (replaced old n (term t))) (2 ^ 64 - 1) →
    min (sum + here) (2 ^ 64 - 1) ≡ min (nodes_all (replaced_all old n (args (take (i + 1) ts)))) (2 ^ 64 - 1)
nodes_turn old n ts i t sum here lt is before now =
    let e = ap (λ us. nodes_all (replaced_all old n us)) (args-more ts i t lt is) ∙ ap nodes_all (replaced_push old n (args (take i ts)) (term t))
    ∙ nodes_all-push (replaced_all old n (args (take i ts))) (replaced old n (term t)) in
    omega (arith, e, before, now)

-- one turn of the change
pub replaced_turn : (old n : Tm) (ts : List Term) (i : ℕ) (t : Term) (rs new : List Term) (r : Term) → i < length ts → t ≡ get_or ts i t →
    new ≡ rs ++ r ∷ [] → args rs ≡ replaced_all old n (args (take i ts)) → term r ≡ replaced old n (term t) →
    args new ≡ replaced_all old n (args (take (i + 1) ts))
replaced_turn old n ts i t rs new r lt is made before now =
    ap args made ∙ args-push rs r ∙ ap (λ us. push us (term r)) before ∙ ap (push (replaced_all old n (args (take i ts)))) now
    ∙ sym (replaced_push old n (args (take i ts)) (term t)) ∙ ap (replaced_all old n) (sym (args-more ts i t lt is))
