-- The places of moves.
use Rattle.std.proofs.Common.{◌≡◌, ℕ, ◌<◌, true, eqb, List, [], ◌∷◌, subst, inl, inr, lit<}
use Rattle.std.specs.List.{list_any}
use Rattle.std.proofs.lemmas.Bool.{eqb-true, false≢true, or_cases}
use Rattle.pg_worlds.specs.declared.tactic_name.TacticName.{TacticName}
use Rattle.pg_worlds.specs.declared.tactic_name.TacticName.TheVariants.{Rfl, Rw, Induction, Intro, Exact, Apply, Cases, Left, Right, Constructor, Use, Symm, Exfalso, Have, Revert, ByCases}
use Rattle.pg_worlds.specs.Moves.{place_of}

pub place_below : (t : TacticName) → place_of t < 16
place_below Rfl = lit< tt
place_below Rw = lit< tt
place_below Induction = lit< tt
place_below Intro = lit< tt
place_below Exact = lit< tt
place_below Apply = lit< tt
place_below Cases = lit< tt
place_below Left = lit< tt
place_below Right = lit< tt
place_below Constructor = lit< tt
place_below Use = lit< tt
place_below Symm = lit< tt
place_below Exfalso = lit< tt
place_below Have = lit< tt
place_below Revert = lit< tt
place_below ByCases = lit< tt

pub places_below : (ts : List TacticName) (k : ℕ) → list_any (λ t. eqb (place_of t) k) ts ≡ true → k < 16
places_below [] k e = absurd (false≢true e)
places_below (t ∷ ts) k e =
    elim (or_cases (eqb (place_of t) k) (list_any (λ s. eqb (place_of s) k) ts) e) [
      | inl here ↦ subst (λ n. n < 16) (eqb-true (place_of t) k here) (place_below t)
      | inr later ↦ places_below ts k later
    ]
