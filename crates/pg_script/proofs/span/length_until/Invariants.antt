use Rattle.std.proofs.Common.{◌≡◌, ◌≤◌, drop}
use Rattle.pg_script.specs.Lines.{length_until, more}
use Rattle.pg_script.specs.View.{words}
use Rattle.pg_script.proofs.span.length_until.Given as goal

abbrev pub invariant-loop-count : goal.invariant-loop-count
invariant-loop-count l =
    (more l.count (length_until l.until l.end l.base l.depth (words (drop l.count l.tokens))) ≡ length_until l.until l.end l.base l.base (words l.tokens))
    × (l.base ≤ l.depth) × (l.depth ≤ 100)
