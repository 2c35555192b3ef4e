use Rattle.std.proofs.Common.{◌≡◌, ◌-◌, ◌^◌, ℕ, min, length, drop}
use Rattle.pg_terms.specs.View.{args}
use Rattle.pg_match.specs.Walks.{lent, walk_all}
use Rattle.pg_match.proofs.walking.+walk.Given as goal

abbrev pub invariant-walk_all-loop-p : goal.invariant-walk_all-loop-p
invariant-walk_all-loop-p l =
    (d : ℕ) → l.depth ≡ min d (2 ^ 64 - 1) →
    walk_all d (lent l.values) (args (drop (length l.yielded) l.patterns)) (args (drop (length l.yielded) l.subjects)) ≡ walk_all d (lent l.initial.values) (args l.patterns) (args l.subjects)
