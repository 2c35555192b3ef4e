use Rattle.std.proofs.Common.{◌≡◌, ◌-◌, map}
use Rattle.pg_script.specs.Joined.{appended}
use Rattle.pg_script.specs.Lines.{terms_at}
use Rattle.pg_script.specs.View.{words, part}
use Rattle.pg_script.proofs.form.terms_at.Given as goal

abbrev pub invariant-loop-turn : goal.invariant-loop-turn
invariant-loop-turn l = appended (map part l.terms) (terms_at (l.room - l._turn) l.end (words l.left.tokens.now)) ≡ terms_at l.room l.end (words l.tokens)
