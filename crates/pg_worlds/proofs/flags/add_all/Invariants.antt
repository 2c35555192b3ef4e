use Rattle.std.proofs.Common.{◌≡◌, ℕ, ◌||◌, ◌==◌, take}
use Rattle.std.specs.List.{list_any}
use Rattle.pg_worlds.specs.Flags.{flag}
use Rattle.pg_worlds.proofs.flags.add_all.Given as goal

-- the flags of the names that were passed stand besides
abbrev pub invariant-loop-name : goal.invariant-loop-name
invariant-loop-name g l = (k : ℕ) → flag l.flags k ≡ (flag l.initial.flags k || list_any (λ x. g.T.Numbered.number_of x == k) (take l.name-index l.names))
