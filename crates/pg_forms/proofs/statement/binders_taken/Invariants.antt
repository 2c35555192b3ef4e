use Rattle.std.proofs.Common.{◌≡◌, ◌-◌, length, map}
use Rattle.pg_script.specs.View.{words}
use Rattle.pg_gametext.specs.Forms.{binders_taken}
use Rattle.pg_forms.specs.View.{binder}
use Rattle.pg_forms.specs.Binders.{with_binders}
use Rattle.pg_forms.proofs.statement.binders_taken.Given as goal

abbrev pub invariant-loop-turn : goal.invariant-loop-turn
invariant-loop-turn l =
    with_binders (map binder l.list.items) (binders_taken (length l.tokens - l._turn) l.end (words l.left.tokens.now)) ≡ binders_taken (length l.tokens) l.end (words l.tokens)
