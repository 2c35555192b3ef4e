-- The name of the hypothesis of induction.
use Rattle.std.proofs.Common.{◌≡◌, ℕ, List, [], ◌∷◌, drop, ap, sym, ◌∙◌}
use Rattle.std.specs.Prelude.{Ok, codes}
use Rattle.pg_base.specs.Tokens.{Word}
use Rattle.pg_logic.specs.Declarations.{Name}
use Rattle.pg_moves.specs.Causes.{Tried, and_then}
use Rattle.pg_moves.specs.Goals.{Goal, with_hyp}
use Rattle.pg_moves.specs.Inducting.{base_goal, step_goal, step_names, induction_hyp}
use Rattle.pg_moves.specs.Lookup.{Lookup, new_name}
use Rattle.pg_inducts.specs.Steps.{by_hypothesis}

module _ (l : Lookup) (g rest : Goal) (k : ℕ) (ws us : List Word) (is : us ≡ drop 1 ws) where
  -- the second name
  abbrev pub second : Tried Name
  second = new_name l (step_names g k rest) us (codes "hd")

  pub hypothesis-made : (h : Name) → second ≡ Ok h → by_hypothesis l g k ws rest ≡ Ok (base_goal g k ∷ step_goal g k (with_hyp h (induction_hyp g k) rest) ∷ [])
  hypothesis-made h e =
      ap (λ us. and_then (new_name l (step_names g k rest) us (codes "hd")) (λ h. Ok (base_goal g k ∷ step_goal g k (with_hyp h (induction_hyp g k) rest) ∷ []))) (sym is)
      ∙ ap (λ q. and_then q (λ h. Ok (base_goal g k ∷ step_goal g k (with_hyp h (induction_hyp g k) rest) ∷ []))) e
