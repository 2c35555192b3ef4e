use Rattle.std.proofs.Common.{◌≡◌, ◌+◌, drop}
use Rattle.pg_gametext.specs.Forms.{length_before}
use Rattle.pg_script.specs.View.{words}
use Rattle.pg_forms.specs.Kinds.{fits}
use Rattle.pg_forms.proofs.take.length_before.Given as goal

abbrev pub invariant-loop-token : goal.invariant-loop-token
invariant-loop-token l =
    (l.count + length_before (fits l.kind) (words (drop l.token-index l.tokens)) ≡ length_before (fits l.kind) (words l.tokens)) × (l.count ≡ l.token-index)
