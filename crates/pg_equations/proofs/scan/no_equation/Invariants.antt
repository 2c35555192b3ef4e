use Rattle.std.proofs.Common.{◌≡◌, ◌≤◌, drop, false}
use Rattle.pg_gametext.specs.Reading.{no_equation}
use Rattle.pg_script.specs.View.{words}
use Rattle.pg_equations.proofs.scan.no_equation.Given as goal

abbrev pub invariant-loop-token : goal.invariant-loop-token
invariant-loop-token l =
    (no_equation l.seen l.depth l.span.end (words (drop l.token-index l.span.tokens.now)) ≡ no_equation false 0 l.span.end (words l.span.tokens.now)) × (l.depth ≤ l.token-index)
