use Rattle.std.proofs.Common.{◌≡◌, ◌-◌, map}
use Rattle.pg_script.specs.Joined.{joined}
use Rattle.pg_script.specs.Lines.{rules_at}
use Rattle.pg_script.specs.View.{words, rule}
use Rattle.pg_script.proofs.form.rules_at.Given as goal

abbrev pub invariant-loop-turn : goal.invariant-loop-turn
invariant-loop-turn l = joined (map rule l.rules) (rules_at (l.room - l._turn) l.end (words l.left.tokens.now)) ≡ rules_at l.room l.end (words l.tokens)
