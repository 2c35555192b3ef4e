use Rattle.std.proofs.Common.{◌≡◌, ◌++◌, replicate}
use Rattle.pg_worlds.proofs.graph.push_times.Given as goal

abbrev pub invariant-loop : goal.invariant-loop
invariant-loop l = l.worlds.items ≡ l.initial.worlds.items ++ replicate l.counter l.world
