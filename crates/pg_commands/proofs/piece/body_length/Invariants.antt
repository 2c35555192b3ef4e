use Rattle.std.proofs.Common.{◌≡◌, ◌+◌, drop}
use Rattle.pg_script.specs.View.{words}
use Rattle.pg_gametext.specs.Commands.{body_length}
use Rattle.pg_commands.proofs.piece.body_length.Given as goal

abbrev pub invariant-loop-count : goal.invariant-loop-count
invariant-loop-count l = l.count + body_length l.passed (words (drop l.count l.tokens)) ≡ body_length l.passed (words l.tokens)
