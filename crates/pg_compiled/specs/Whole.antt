-- Games whose worlds and levels fit together, and the plan that such a game has.
use Rattle.std.specs.Prelude.{ℕ, ◌≡◌, ◌<◌, ◌≤◌, ◌^◌, List, [], ◌∷◌, length, map, slice_index}
use Rattle.pg_worlds.specs.Worlds.{IsWorldOrder}
use Rattle.pg_worlds.specs.Course.{IsPlan}
use Rattle.pg_gametext.specs.Placed.{Placed}
use Rattle.pg_gametext.specs.Before.{worlds}
use Rattle.pg_gametext.specs.Checks.{command_faults}
use Rattle.pg_gametext.specs.Game.{Game, WorldText, Need, links, link_words, unknown_worlds, game_of}
use Rattle.pg_compiled.specs.Plan.{graph_of, levels_of_world, plan_of}

-- a world that is needed is one of so many
abbrev pub AreBelow : ℕ → List Need → Type 0
AreBelow n [] = Unit {0}
AreBelow n (m ∷ ms) = (m.before < n) × AreBelow n ms

-- At most 64 worlds, each with as many levels as it says, needs of worlds that are there, and at most 2^16 levels in all.
pub record IsWhole (g : Game) : Type 0 where
  pub worlds : length g.worlds ≤ 64
  pub needs : AreBelow (length g.worlds) g.needs
  pub counted : (w : ℕ) → w < length g.worlds → length (levels_of_world g.levels w) ≡ slice_index (map (λ (t : WorldText). t.levels) g.worlds) w
  pub levels : length g.levels ≤ 2 ^ 16

-- In an order of its worlds such a game has a plan.
abbrev pub PlanLaw : Type 0
PlanLaw = (order : List ℕ) (g : Game) → IsWhole g → IsWorldOrder (graph_of g) order → IsPlan (plan_of order g)

-- no command has a fault, each behind those before it; the nearest first
abbrev pub AreFaultless : List Placed → Type 0
AreFaultless [] = Unit {0}
AreFaultless (c ∷ before) = (command_faults before c ≡ []) × AreFaultless before

-- each world of a `Dependency` is there
abbrev pub AreKnown : List Placed → Type 0
AreKnown all = unknown_worlds (worlds all) (link_words (links all)) ≡ []

-- The game of commands without a fault is whole.
abbrev pub WholeLaw : Type 0
WholeLaw = (all : List Placed) → AreFaultless all → AreKnown all → IsWhole (game_of all)
