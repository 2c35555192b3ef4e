use Rattle.std.proofs.Common.{◌≡◌, ◌<◌, ◌≤◌, ℕ, ◌==◌, true, take, vec_len}
use Rattle.std.specs.List.{list_any}
use Rattle.pg_worlds.specs.Flags.{flag}
use Rattle.pg_worlds.proofs.flags.make_room.Given as goal

-- there is room for the names that were passed
abbrev pub invariant-loop-name : goal.invariant-loop-name
invariant-loop-name g l =
    ((k : ℕ) → flag l.flags.items k ≡ flag l.initial.flags.items k)
    × ((k : ℕ) → list_any (λ x. g.T.Numbered.number_of x == k) (take l.name-index l.names) ≡ true → k < vec_len l.flags)
    × (vec_len l.initial.flags ≤ vec_len l.flags)
