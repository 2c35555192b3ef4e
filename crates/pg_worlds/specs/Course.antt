-- The levels of a game in their order, and which of them stand before a level.
use Rattle.std.specs.Prelude.{◌≡◌, ◌↔◌, ◌⊎◌, ℕ, zero, suc, ◌+◌, ◌<◌, ◌≤◌, ◌^◌, ◌==◌, nat_lt, Bool, false, ◌&&◌, ◌||◌, List, [], ◌∷◌, length, map, Option, None, IsTrue, slice_index_or}
use Rattle.std.specs.List.{list_any}
use Rattle.pg_worlds.specs.declared.tactic_name.TacticName.{TacticName}
use Rattle.pg_worlds.specs.Flags.{has, flag}
use Rattle.pg_worlds.specs.Worlds.{Worlds, needs_of, world_of_each, IsGraph, IsWorldOrder}

-- what a level says of its inventory; `own` is the number of its own statement
pub record Level : Type 0 where
  pub world : ℕ
  pub new_tactics : List TacticName
  pub new_theorems : List ℕ
  pub own : ℕ
  pub sampled : Bool
  pub disabled_tactics : List TacticName
  pub disabled_theorems : List ℕ
  pub only_tactics : Option (List TacticName)
  pub only_theorems : Option (List ℕ)

abbrev pub no_level : Level
no_level =
    record {
      world = 0;
      new_tactics = [];
      new_theorems = [];
      own = 0;
      sampled = false;
      disabled_tactics = [];
      disabled_theorems = [];
      only_tactics = None;
      only_theorems = None;
    }

-- the worlds, their order, and the levels in the order of levels
pub record Plan : Type 0 where
  pub worlds : Worlds
  pub order : List ℕ
  pub levels : List Level

abbrev pub level_at : Plan → ℕ → Level
level_at p k = slice_index_or p.levels k no_level

abbrev pub world_of : Plan → ℕ → ℕ
world_of p k = (level_at p k).world

-- the worlds come in an order of the graph, each with its levels one after the other, and each level has a number of 16 bits
pub record IsPlan (p : Plan) : Type 0 where
  pub graph : IsGraph p.worlds
  pub ordered : IsWorldOrder p.worlds p.order
  pub by_world : map (λ (l : Level). l.world) p.levels ≡ world_of_each p.worlds p.order
  pub numbered : length p.levels ≤ 2 ^ 16

-- a world needs another directly, or through a world that it needs
pub data Needs (g : Worlds) (a : ℕ) : ℕ → Type 0 where
  directly : (b : ℕ) → IsTrue (has (needs_of g a) b) → Needs g a b
  through : (b c : ℕ) → Needs g a b → IsTrue (has (needs_of g b) c) → Needs g a c

-- level k stands before: its world is needed, or it is an earlier level of the same world
abbrev pub IsBefore : Plan → ℕ → ℕ → Type 0
IsBefore p level k =
    (k < length p.levels)
    × (Needs p.worlds (world_of p level) (world_of p k) ⊎ ((world_of p k ≡ world_of p level) × (k < level)))

-- every level before it is won
abbrev pub IsOpen : Plan → List Bool → ℕ → Type 0
IsOpen p won level = (k : ℕ) → IsBefore p level k → IsTrue (flag won k)

-- the first of the levels before it, in the order of levels, that isn't won
abbrev pub IsFirstMissing : Plan → List Bool → ℕ → ℕ → Type 0
IsFirstMissing p won level k = IsBefore p level k × (flag won k ≡ false) × ((j : ℕ) → j < k → IsBefore p level j → IsTrue (flag won j))

-- just the levels before it are won
abbrev pub IsLeastWon : Plan → ℕ → List Bool → Type 0
IsLeastWon p level won = (length won ≡ length p.levels) × ((k : ℕ) → IsTrue (flag won k) ↔ IsBefore p level k)

-- whether at most n needs, each of the world that the one before leads to, lead from world a to world b
abbrev pub leads_to : Worlds → (n a b : ℕ) → Bool
leads_to g zero a b = false
leads_to g (suc n) a b = list_any (λ c. (c == b) || leads_to g n c b) (needs_of g a)

-- whether level k stands before; to a world that is needed lead no more needs than the order has worlds
abbrev pub is_before : Plan → (level k : ℕ) → Bool
is_before p level k = leads_to p.worlds (length p.order) (world_of p level) (world_of p k) || ((world_of p k == world_of p level) && nat_lt k level)

-- what the test says of n numbers from k on
abbrev pub flags_from : (ℕ → Bool) → (k n : ℕ) → List Bool
flags_from test k zero = []
flags_from test k (suc n) = test k ∷ flags_from test (k + 1) n

-- the flags of the levels, of which just those before it are won
abbrev pub least_won : Plan → ℕ → List Bool
least_won p level = flags_from (is_before p level) 0 (length p.levels)

-- a level of the world, before place n, isn't won
abbrev pub HasUnwon : Plan → List Bool → ℕ → ℕ → Type 0
HasUnwon p won n w = (k : ℕ) × (k < n) × (world_of p k ≡ w) × (flag won k ≡ false)

-- a level of a world that it needs isn't won
abbrev pub IsWaiting : Plan → List Bool → ℕ → Type 0
IsWaiting p won w = (b : ℕ) × Needs p.worlds w b × HasUnwon p won (length p.levels) b

-- just the open levels have their flag
abbrev pub AreOpen : Plan → List Bool → List Bool → Type 0
AreOpen p won flags = (length flags ≡ length p.levels) × ((k : ℕ) → IsTrue (flag flags k) ↔ ((k < length p.levels) × IsOpen p won k))
