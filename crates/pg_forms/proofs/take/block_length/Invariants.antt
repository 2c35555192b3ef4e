use Rattle.std.proofs.Common.{◌≡◌, ◌+◌, drop}
use Rattle.pg_gametext.specs.Forms.{length_before, ends_block}
use Rattle.pg_script.specs.View.{words}
use Rattle.pg_forms.proofs.take.block_length.Given as goal

abbrev pub invariant-loop-token : goal.invariant-loop-token
invariant-loop-token l =
    (l.count + length_before (ends_block l.column) (words (drop l.token-index l.tokens)) ≡ length_before (ends_block l.column) (words l.tokens)) × (l.count ≡ l.token-index)
