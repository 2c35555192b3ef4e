use Rattle.std.proofs.Common.{◌≡◌, ◌+◌, ◌-◌, ◌≤◌, ℕ, vec_len}
use Rattle.pg_worlds.specs.Flags.{flag}
use Rattle.pg_worlds.proofs.flags.lengthen.Given as goal

-- the flags stay, and there are no fewer places
abbrev pub invariant-loop-flags : goal.invariant-loop-flags
invariant-loop-flags l = ((k : ℕ) → flag l.flags.items k ≡ flag l.initial.flags.items k) × (vec_len l.initial.flags ≤ vec_len l.flags)

abbrev pub decreases-loop-flags : goal.decreases-loop-flags
decreases-loop-flags l = l.number + 1 - vec_len l.flags
