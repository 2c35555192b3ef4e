use Rattle.std.proofs.Common.{◌≡◌, drop}
use Rattle.pg_script.specs.Lines.{steps_fault}
use Rattle.pg_script.specs.View.{words}
use Rattle.pg_script.proofs.form.expect_steps.Given as goal

abbrev pub invariant-loop-token : goal.invariant-loop-token
invariant-loop-token l = steps_fault l.left (words (drop l.token-index l.tokens)) ≡ steps_fault l.room (words l.tokens)
