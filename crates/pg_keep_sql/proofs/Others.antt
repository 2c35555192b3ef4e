-- A list with one element that is none of a kind.
use Rattle.std.proofs.Common.{◌≡◌, ◌<◌, ℕ, List, All, length, get_or, subst, sym}

pub one-other : {X : Type 0} (P : X → Type 0) (xs : List X) (i : ℕ) (x : X) → i < length xs → x ≡ get_or xs i x → ¬ P x
    → ¬ All P xs
one-other P xs i x lt at not all = not (subst P (sym at) (all i x lt))
