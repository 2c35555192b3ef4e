use Rattle.std.proofs.Common.{◌≡◌, ◌≤◌, drop}
use Rattle.pg_script.specs.Lines.{deep_fault}
use Rattle.pg_script.specs.View.{words}
use Rattle.pg_script.proofs.form.expect_shallow.Given as goal

abbrev pub invariant-loop-token : goal.invariant-loop-token
invariant-loop-token l = (deep_fault l.depth (words (drop l.token-index l.tokens)) ≡ deep_fault 0 (words l.tokens)) × (l.depth ≤ 100)
