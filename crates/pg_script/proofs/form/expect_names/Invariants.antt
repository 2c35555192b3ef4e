use Rattle.std.proofs.Common.{◌≡◌, drop}
use Rattle.pg_script.specs.Lines.{names_fault}
use Rattle.pg_script.specs.View.{words}
use Rattle.pg_script.proofs.form.expect_names.Given as goal

abbrev pub invariant-loop-token : goal.invariant-loop-token
invariant-loop-token l = names_fault (words (drop l.token-index l.tokens)) ≡ names_fault (words l.tokens)
