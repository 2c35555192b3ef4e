use Rattle.std.proofs.Common.{◌≡◌, ◌+◌, drop}
use Rattle.pg_script.specs.Blocks.{line_length}
use Rattle.pg_script.specs.View.{words}
use Rattle.pg_script.proofs.block.line_length.Given as goal

abbrev pub invariant-loop-token : goal.invariant-loop-token
invariant-loop-token l =
    (l.count + line_length l.column (words (drop l.token-index l.tokens)) ≡ line_length l.column (words l.tokens)) × (l.count ≡ l.token-index)
