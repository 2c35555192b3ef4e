-- Which moves and theorems a player has: sets, computed anew from the won levels.
use Rattle.std.specs.Prelude.{ℕ, Bool, true, false, not, ◌&&◌, ◌||◌, List, [], ◌∷◌, Option, None, Some, ◌==◌, if◌then◌else◌}
use Rattle.std.specs.List.{list_any}
use Rattle.pg_worlds.specs.declared.tactic_name.TacticName.{TacticName}
use Rattle.pg_worlds.specs.Flags.{has, flag}
use Rattle.pg_worlds.specs.Moves.{place_of}
use Rattle.pg_worlds.specs.Course.{Level, Plan, least_won, level_at}

-- a set of moves and a set of theorem numbers, each by its test
pub record Inventory : Type 0 where
  pub tactic : TacticName → Bool
  pub theorem : ℕ → Bool

abbrev pub nothing : Inventory
nothing = record { tactic = λ _. false; theorem = λ _. false }

-- whether the list has the move
abbrev pub has_move : List TacticName → TacticName → Bool
has_move ts t = list_any (λ s. place_of s == place_of t) ts

-- what an Only command lets through: all, where there is none
abbrev pub is_allowed : {X : Type 0} → (List X → X → Bool) → Option (List X) → X → Bool
is_allowed member None x = true
is_allowed member (Some xs) x = member xs x

-- the levels whose flag stands
abbrev pub won_levels : List Level → List Bool → List Level
won_levels [] flags = []
won_levels (l ∷ ls) [] = []
won_levels (l ∷ ls) (b ∷ bs) = (if b then l ∷ won_levels ls bs else won_levels ls bs)

-- what one won level unlocks: its new moves and theorems, and its own statement
abbrev pub unlocked_by : Level → Inventory
unlocked_by l = record { tactic = has_move l.new_tactics; theorem = λ k. (l.own == k) || has l.new_theorems k }

-- what is in either of two inventories
abbrev pub joined : Inventory → Inventory → Inventory
joined a b = record { tactic = λ t. a.tactic t || b.tactic t; theorem = λ k. a.theorem k || b.theorem k }

-- what some levels unlock
abbrev pub unlocked_by_all : List Level → Inventory
unlocked_by_all ls = record { tactic = λ t. list_any (λ l. (unlocked_by l).tactic t) ls; theorem = λ k. list_any (λ l. (unlocked_by l).theorem k) ls }

-- Unlocked: what the won levels unlock
abbrev pub unlocked : Plan → List Bool → Inventory
unlocked p won = unlocked_by_all (won_levels p.levels won)

-- In a level its own New moves come in, and out go its Disabled ones and those that its Only command doesn't name.
abbrev pub tactic_within : Level → (TacticName → Bool) → TacticName → Bool
tactic_within l has_it t = (has_it t || has_move l.new_tactics t) && not (has_move l.disabled_tactics t) && is_allowed has_move l.only_tactics t

-- The same of theorems; out goes the level's own statement besides.
abbrev pub theorem_within : Level → (ℕ → Bool) → ℕ → Bool
theorem_within l has_it k = (has_it k || has l.new_theorems k) && not (has l.disabled_theorems k) && is_allowed has l.only_theorems k && not (l.own == k)

-- what a level makes of an inventory
abbrev pub within : Level → Inventory → Inventory
within l a = record { tactic = tactic_within l a.tactic; theorem = theorem_within l a.theorem }

-- Available in a level, at the won levels
abbrev pub available : Plan → List Bool → ℕ → Inventory
available p won level = within (level_at p level) (unlocked p won)

-- the statements of levels without a sample
abbrev pub is_unsampled : Plan → ℕ → Bool
is_unsampled p k = list_any (λ (l : Level). not l.sampled && (l.own == k)) p.levels

-- the inventory without the statements of levels that have no sample
abbrev pub sampled_only : Plan → Inventory → Inventory
sampled_only p a = record { tactic = a.tactic; theorem = λ k. a.theorem k && not (is_unsampled p k) }

-- The least that any player has in a level who may play it: what is available where just those levels are won that have
-- to be, without the statements of levels that have no sample.
abbrev pub least_available : Plan → ℕ → Inventory
least_available p level = sampled_only p (available p (least_won p level) level)

-- an inventory as it is kept: a flag for each move by its place, and one for each theorem by its number
pub record Held : Type 0 where
  pub tactics : List Bool
  pub theorems : List Bool

abbrev pub inventory : Held → Inventory
inventory h = record { tactic = λ t. flag h.tactics (place_of t); theorem = flag h.theorems }
