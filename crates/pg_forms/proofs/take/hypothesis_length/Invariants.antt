use Rattle.std.proofs.Common.{◌≡◌, ◌≤◌, ◌+◌, drop}
use Rattle.pg_gametext.specs.Forms.{length_of_hypothesis}
use Rattle.pg_script.specs.View.{words}
use Rattle.pg_forms.proofs.take.hypothesis_length.Given as goal

abbrev pub invariant-loop-count : goal.invariant-loop-count
invariant-loop-count l =
    (l.count + length_of_hypothesis l.depth (words (drop l.count l.tokens)) ≡ length_of_hypothesis 0 (words l.tokens)) × (l.depth ≤ l.count)
