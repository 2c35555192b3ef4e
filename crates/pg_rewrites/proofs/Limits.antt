-- The first limit that goals with several targets pass.
use Rattle.std.proofs.Common.{◌≡◌, ◌≤◌, List, [], ◌∷◌, map, Option, Some, None, refl, ap, sym, ◌∙◌, subst}
use Rattle.std.specs.Prelude.{All, Ok, flat_map, option_map}
use Rattle.std.specs.List.{AllByRecursion}
use Rattle.std.specs.Option.{option_or}
use Rattle.std.proofs.lemmas.List.Elements.{All-from_recursion}
use Rattle.std.proofs.lemmas.List.Concat.{flat_map-cons}
use Rattle.pg_logic.specs.Tree.{Fm, falsum, nodes_of}
use Rattle.pg_moves.specs.Causes.{Cause}
use Rattle.pg_moves.specs.Goals.{Goal, Hyp, aimed}
use Rattle.pg_moves.specs.Measures.{first_over, formula_measures, goal_measures}
use Rattle.pg_reduction.specs.declared.cause.Cause as rust
use Rattle.pg_reduction.specs.Doing.{StopsWithin}
use Rattle.pg_reduction.specs.Limits.{told, Tells, IsFirst}
use Rattle.pg_reduction.specs.View.{cause_of}
use Rattle.pg_reduction.proofs.Large.{first-append}
use Rattle.pg_reduction.proofs.Passed.{or-none, front, split, passed, large, none-of, few-nodes}

-- ---- a limit that one of several targets passes

module _ (g : Goal) where
  abbrev before : Option Cause
  before = first_over (front g (map (λ (h : Hyp). h.formula) g.hyps))

  abbrev aims : List Fm → List Goal
  aims cs = map (λ a. aimed a g) cs

  abbrev measured : List Goal → Option Cause
  measured gs = first_over (flat_map goal_measures gs)

  one-target : (a : Fm) → first_over (goal_measures (aimed a g)) ≡ option_or before (first_over (formula_measures a))
  one-target a =
      split (aimed a g) (map (λ (h : Hyp). h.formula) g.hyps) (a ∷ []) refl ∙ ap (option_or before) (large a [] ∙ or-none (first_over (formula_measures a)))

  next-target : (a : Fm) (cs : List Fm) → measured (aims (a ∷ cs)) ≡ option_or (option_or before (first_over (formula_measures a))) (measured (aims cs))
  next-target a cs =
      ap first_over (flat_map-cons goal_measures (aimed a g) (aims cs)) ∙ first-append (goal_measures (aimed a g)) (flat_map goal_measures (aims cs)) ∙ ap (λ o. option_or o (measured (aims cs))) (one-target a)

  -- nothing else is too large
  targets : before ≡ None → (cs : List Fm) → measured (aims cs) ≡ passed cs
  targets n [] = refl
  targets n (a ∷ cs) =
      next-target a cs ∙ ap (λ o. option_or (option_or o (first_over (formula_measures a))) (measured (aims cs))) n ∙ ap (option_or (first_over (formula_measures a))) (targets n cs) ∙ sym (large a cs)

  -- something is before the first target
  pub limit-targets : (cs : List Fm) (lim first : rust.Cause) → Tells (passed cs) (Some lim) → IsFirst (first_over (goal_measures (aimed falsum g))) lim first → StopsWithin (Ok (aims cs)) first
  limit-targets cs lim first t is = go before refl cs t (subst (λ o. IsFirst o lim first) (one-target falsum) is)
    where
      go : (o : Option Cause) → before ≡ o → (cs : List Fm) → Tells (passed cs) (Some lim) → IsFirst (option_or before None) lim first → option_map told (measured (aims cs)) ≡ Some (cause_of first)
      go None e cs t is = let q : first ≡ lim = subst (λ o. IsFirst (option_or o None) lim first) e is in ap (option_map told) (targets e cs) ∙ sym t ∙ ap (λ c. Some (cause_of c)) (sym q)
      go (Some x) e [] t is = absurd (cc)
      go (Some x) e (a ∷ cs) t is =
          let q : told x ≡ cause_of first = subst (λ o. IsFirst (option_or o None) lim first) e is in
          ap (option_map told) (next-target a cs ∙ ap (λ o. option_or (option_or o (first_over (formula_measures a))) (measured (aims cs))) e) ∙ ap Some q

-- ---- no limit

-- none of the formulas passes a limit
pub few-all : (cs : List Fm) → None ≡ option_map told (first_over (flat_map formula_measures cs)) → All (λ a. nodes_of a ≤ 4096) cs
few-all cs e = All-from_recursion (λ a. nodes_of a ≤ 4096) cs (go cs e)
  where
    go : (cs : List Fm) → None ≡ option_map told (first_over (flat_map formula_measures cs)) → AllByRecursion (λ a. nodes_of a ≤ 4096) cs
    go [] e = tt
    go (a ∷ cs) e = let p = none-of (first_over (formula_measures a)) (first_over (flat_map formula_measures cs)) (e ∙ ap (option_map told) (large a cs)) in (few-nodes a p.0, go cs p.1)
