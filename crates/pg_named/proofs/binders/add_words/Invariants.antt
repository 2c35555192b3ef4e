use Rattle.std.proofs.Common.{◌≡◌, ◌++◌, drop, map, reverse}
use Rattle.pg_script.specs.View.{words}
use Rattle.pg_gametext.specs.Before.{bound_name}
use Rattle.pg_named.specs.View.{given}
use Rattle.pg_named.proofs.binders.add_words.Given as goal

abbrev pub invariant-loop-index : goal.invariant-loop-index
invariant-loop-index l = map given (reverse l.bound.items) ≡ map bound_name (words (drop l.index l.tokens)) ++ map given (reverse l.initial.bound.items)
