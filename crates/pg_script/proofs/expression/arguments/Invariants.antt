use Rattle.std.proofs.Common.{◌≡◌, length, map}
use Rattle.pg_script.specs.Joined.{joined}
use Rattle.pg_script.specs.Lines.{args_from}
use Rattle.pg_script.specs.View.{words, part}
use Rattle.pg_script.proofs.expression.arguments.Given as goal

abbrev pub invariant-loop-args : goal.invariant-loop-args
invariant-loop-args l =
    joined (map part l.args) (args_from l.end l.depth 0 (words l.left.tokens.now)) ≡ args_from l.end l.depth 0 (words l.tokens)

abbrev pub decreases-loop-args : goal.decreases-loop-args
decreases-loop-args l = length l.left.tokens.now
