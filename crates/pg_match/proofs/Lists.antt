-- Lists of patterns and of subjects.
use Rattle.std.proofs.Common.{◌≡◌, ◌≢◌, ℕ, suc, List, [], ◌∷◌, length, Option, Some, None, refl, ap}
use Rattle.std.specs.Prelude.{option_and_then}
use Rattle.pg_terms.specs.declared.term.Term.{Term}
use Rattle.pg_terms.specs.View.{term, args}
use Rattle.pg_moves.specs.Instances.{Values}
use Rattle.pg_match.specs.Walks.{walk, walk_all}

-- lists of different lengths don't fit
pub walk_all-length : (d : ℕ) (vs : Values) (ps ss : List Term) → length ps ≢ length ss → walk_all d vs (args ps) (args ss) ≡ None
walk_all-length d vs [] [] h = absurd (h refl)
walk_all-length d vs [] (s ∷ ss) h = refl
walk_all-length d vs (p ∷ ps) [] h = refl
walk_all-length d vs (p ∷ ps) (s ∷ ss) h = rest (walk d vs (term p) (term s)) (λ vs. walk_all-length d vs ps ss (λ e. h (ap suc e)))
  where
    rest : (o : Option Values) → ((vs : Values) → walk_all d vs (args ps) (args ss) ≡ None) → option_and_then (λ vs. walk_all d vs (args ps) (args ss)) o ≡ None
    rest None go = refl
    rest (Some vs) go = go vs
