-- The axioms, one after the other.
use Rattle.std.proofs.Common.{◌≡◌, ℕ, zero, suc, ◌+◌, List, [], ◌∷◌, ◌++◌, map, take, Some, refl, ap, sym, ◌∙◌, arith}
use Rattle.std.specs.Prelude.{slice_get, option_map}
use Rattle.pg_logic.specs.Tree.{Fm}
use Rattle.pg_logic.specs.Axioms.{Axiom}
use Rattle.pg_terms.specs.declared.formula.Formula.{Formula}
use Rattle.pg_terms.specs.View.{formula, formulas}

abbrev pub sayings : List Axiom → List Fm
sayings xs = map (λ (x : Axiom). x.says) xs

take_more : (xs : List Axiom) (i : ℕ) (b : Fm) → option_map (λ (x : Axiom). x.says) (slice_get xs i) ≡ Some b → sayings (take (suc i) xs) ≡ sayings (take i xs) ++ b ∷ []
take_more [] i b e = absurd (cc)
take_more (x ∷ xs) zero b e = let same : x.says ≡ b = cc in ap (λ b. b ∷ []) same
take_more (x ∷ xs) (suc i) b e = ap (λ l. x.says ∷ l) (take_more xs i b e)

formulas_more : (fs : List Formula) (a : Formula) → formulas (fs ++ a ∷ []) ≡ formulas fs ++ formula a ∷ []
formulas_more [] a = refl
formulas_more (f ∷ fs) a = ap (λ l. formula f ∷ l) (formulas_more fs a)

pub one_more : (xs : List Axiom) (i : ℕ) (fs gs : List Formula) (a : Formula) → gs ≡ fs ++ a ∷ [] → formulas fs ≡ sayings (take i xs) →
    option_map (λ (x : Axiom). x.says) (slice_get xs i) ≡ Some (formula a) → formulas gs ≡ sayings (take (i + 1) xs)
one_more xs i fs gs a added e is =
    let next : suc i ≡ i + 1 = omega arith in
    ap formulas added ∙ formulas_more fs a ∙ ap (λ l. l ++ formula a ∷ []) e ∙ sym (take_more xs i (formula a) is) ∙ ap (λ n. sayings (take n xs)) next
