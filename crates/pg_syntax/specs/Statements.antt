-- The closed formula of a statement, and what it means.
use Rattle.std.specs.Prelude.{ℕ, ◌+◌, ◌≡◌, ◌↔◌, true, List, [], ◌∷◌}
use Rattle.pg_logic.specs.Tree.{Fm, all, imp, closed_over_formula, is_tight_formula, nodes_of}
use Rattle.pg_logic.specs.Signature.{Signature, fits}
use Rattle.pg_logic.specs.Truth.{IsTrueOf}
use Rattle.pg_logic.specs.Sound.{Entails}
use Rattle.pg_terms.specs.View.{formula}
use Rattle.pg_syntax.specs.declared.statement.Binder.{Binder}
use Rattle.pg_syntax.specs.declared.statement.Binder.TheVariants.{Var, Hyp}

-- ∀ for a variable and → for a hypothesis, the first binder outermost, where so many variables stand before
abbrev pub closed_from : ℕ → List Binder → Fm → Fm
closed_from n [] target = target
closed_from n (Var x ∷ more) target = all x (closed_over_formula n (closed_from (n + 1) more target))
closed_from n (Hyp h a ∷ more) target = imp (formula a) (closed_from n more target)

abbrev pub closed : List Binder → Fm → Fm
closed binders target = closed_from 0 binders target

-- no formula has a loose bound variable
abbrev pub AreTight : List Binder → Fm → Type 0
AreTight [] target = is_tight_formula 0 target ≡ true
AreTight (Var x ∷ more) target = AreTight more target
AreTight (Hyp h a ∷ more) target = (is_tight_formula 0 (formula a) ≡ true) × AreTight more target

-- binders and nodes together
abbrev pub total : List Binder → Fm → ℕ
total [] target = nodes_of target
total (Var x ∷ more) target = total more target + 1
total (Hyp h a ∷ more) target = nodes_of (formula a) + total more target + 1

-- how many variables the binders bring, and which hypotheses
abbrev pub variables : List Binder → ℕ
variables [] = 0
variables (Var x ∷ more) = variables more + 1
variables (Hyp h a ∷ more) = variables more

abbrev pub hypotheses : List Binder → List Fm
hypotheses [] = []
hypotheses (Var x ∷ more) = hypotheses more
hypotheses (Hyp h a ∷ more) = formula a ∷ hypotheses more

-- each hypothesis fits the variables before it, and the target all of them; so many stand before the binders
abbrev pub AreFitting : Signature → ℕ → List Binder → Fm → Type 0
AreFitting s n [] target = fits s n 0 target ≡ true
AreFitting s n (Var x ∷ more) target = AreFitting s (n + 1) more target
AreFitting s n (Hyp h a ∷ more) target = (fits s n 0 (formula a) ≡ true) × AreFitting s n more target

-- Over each signature that the statement fits, the formula has no free variable.
abbrev pub Closes : List Binder → Fm → Fm → Type 0
Closes binders target a = (s : Signature) → AreFitting s 0 binders target → fits s 0 0 a ≡ true

-- There it is true where the target is true under all numbers for the variables under which the hypotheses are true.
abbrev pub Means : List Binder → Fm → Fm → Type 0
Means binders target a = (s : Signature) → AreFitting s 0 binders target → IsTrueOf s [] a ↔ Entails s (variables binders) (hypotheses binders) target
