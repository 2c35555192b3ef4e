-- The worlds of a game, their order, and the loop that is in its way.
use Rattle.std.specs.Prelude.{◌≡◌, ◌≢◌, ◌↔◌, ℕ, ◌+◌, ◌<◌, ◌≤◌, Bool, false, not, ◌&&◌, List, [], ◌++◌, length, take, Some, IsTrue, slice_index, slice_index_or, EachIndex, find, flat_map, replicate}
use Rattle.std.specs.List.{list_all}
use Rattle.pg_worlds.specs.Flags.{has}

-- for each world, in file order: how many levels it has, and which worlds it needs
pub record Worlds : Type 0 where
  pub levels : List ℕ
  pub needs : List (List ℕ)

abbrev pub worlds_of : List ℕ → List (List ℕ) → Worlds
worlds_of levels needs = record { levels = levels; needs = needs }

abbrev pub world_count : Worlds → ℕ
world_count g = length g.needs

abbrev pub needs_of : Worlds → ℕ → List ℕ
needs_of g w = slice_index_or g.needs w []

-- two lists of one length, which is at most 64, and each needed world is one of them
pub record IsGraph (g : Worlds) : Type 0 where
  pub one_length : length g.levels ≡ world_count g
  pub at_most : world_count g ≤ 64
  pub in_range : (w v : ℕ) → IsTrue (has (needs_of g w) v) → v < world_count g

-- the world of each level, where the worlds come in this order, each with its levels one after the other
abbrev pub world_of_each : Worlds → List ℕ → List ℕ
world_of_each g order = flat_map (λ w. replicate (slice_index g.levels w) w) order

-- w is the first number below n that passes the test
abbrev pub IsFirstBelow : ℕ → (ℕ → Bool) → ℕ → Type 0
IsFirstBelow n test w = (w < n) × IsTrue (test w) × ((v : ℕ) → v < w → test v ≡ false)

-- w is not placed yet, and all its needs are
abbrev pub can_be_placed : Worlds → (ℕ → Bool) → ℕ → Bool
can_be_placed g placed w = not (placed w) && list_all placed (needs_of g w)

abbrev pub HasEveryWorld : Worlds → List ℕ → Type 0
HasEveryWorld g ws = (w : ℕ) → w < world_count g → IsTrue (has ws w)

-- each is the first world in file order that can be placed behind those before it
abbrev pub IsFirstEachTime : Worlds → List ℕ → Type 0
IsFirstEachTime g order = EachIndex order (λ i. IsFirstBelow (world_count g) (can_be_placed g (has (take i order))) (slice_index order i))

-- every world is in the list, and each is the first in file order that can be placed behind those before it
pub record IsWorldOrder (g : Worlds) (order : List ℕ) : Type 0 where
  pub every_world : HasEveryWorld g order
  pub first_each_time : IsFirstEachTime g order

-- a list of worlds, each behind all that it needs
abbrev pub IsBehindNeeds : Worlds → List ℕ → Type 0
IsBehindNeeds g ws = EachIndex ws (λ i. (slice_index ws i < world_count g) × IsTrue (list_all (has (take i ws)) (needs_of g (slice_index ws i))))

-- An order has each world once, behind its needs, and there is no other order.
abbrev pub WorldOrderLaw : Type 0
WorldOrderLaw =
    (g : Worlds) (order : List ℕ) → IsWorldOrder g order
    → IsBehindNeeds g order
    × ((i j : ℕ) → i < j → j < length order → slice_index order i ≢ slice_index order j)
    × ((other : List ℕ) → IsWorldOrder g other → other ≡ order)

-- a world can be placed where such a list has it
abbrev pub CanBePlaced : Worlds → ℕ → Type 0
CanBePlaced g w = (ws : List ℕ) × IsBehindNeeds g ws × IsTrue (has ws w)

-- no such list has every world
abbrev pub HasNoOrder : Worlds → Type 0
HasNoOrder g = (ws : List ℕ) → IsBehindNeeds g ws → HasEveryWorld g ws → ⊥

-- From `start` the first need that can't be placed is followed until a world comes twice.
-- The worlds met are `lead` and then `loop`, no two of them are the same, and the last one leads back to the first of `loop`.
pub record IsLoopFrom (g : Worlds) (can : ℕ → Bool) (start : ℕ) (loop : List ℕ) : Type 0 where
  pub lead : List ℕ
  pub some_world : 0 < length loop
  pub starts : slice_index (lead ++ loop) 0 ≡ start
  pub follows : EachIndex (lead ++ loop) (λ i. find (λ v. not (can v)) (needs_of g (slice_index (lead ++ loop) i)) ≡ Some (slice_index (lead ++ loop ++ loop) (i + 1)))
  pub met_once : (i j : ℕ) → i < j → j < length (lead ++ loop) → slice_index (lead ++ loop) i ≢ slice_index (lead ++ loop) j

-- the loop that is met from the first world that can't be placed; `can` tells which worlds can
pub record IsLoop (g : Worlds) (loop : List ℕ) : Type 0 where
  pub can : ℕ → Bool
  pub decides : (w : ℕ) → w < world_count g → IsTrue (can w) ↔ CanBePlaced g w
  pub start : ℕ
  pub first : IsFirstBelow (world_count g) (λ w. not (can w)) start
  pub met : IsLoopFrom g can start loop
