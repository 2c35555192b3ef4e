use Rattle.std.proofs.Common.{◌≡◌, ◌+◌, drop}
use Rattle.pg_gametext.specs.Forms.{names_length}
use Rattle.pg_script.specs.View.{words}
use Rattle.pg_forms.proofs.take.names_length.Given as goal

abbrev pub invariant-loop-token : goal.invariant-loop-token
invariant-loop-token l =
    (l.count + names_length (words (drop l.token-index l.tokens)) ≡ names_length (words l.tokens)) × (l.count ≡ l.token-index)
