-- What reads in a row gave.
use Rattle.std.proofs.Common.{◌≡◌, ℕ, List, [], ◌++◌, take, Option, Some, None, sym as flip, ◌∙◌, ap, subst}
use Rattle.std.specs.Io.KnownBytes.{Consumes}
use Rattle.pg_base.specs.Outside.{EndsAt}
use Rattle.pg_messages.specs.Links.{IsEmptied}

-- a read that gave nothing is at the end
pub emptied : (old mid now : Option (List ℕ)) (piece got : List ℕ) (n : ℕ) → Consumes old mid piece → Consumes mid now (take n got) → n ≡ 0 → EndsAt mid n
    → Consumes old now piece × IsEmptied old now
emptied None mid now piece got n h k e ends = (tt, tt)
emptied (Some xs) None now piece got n h k e ends = absurd h
emptied (Some xs) (Some ys) None piece got n h k e ends = absurd k
emptied (Some xs) (Some ys) (Some zs) piece got n h k e ends =
    let same : ys ≡ zs = subst (λ (m : ℕ). ys ≡ take m got ++ zs) e k in
    let none : ys ≡ [] = ends.0 e in
    (h ∙ ap (λ r. piece ++ r) same, flip same ∙ none)
