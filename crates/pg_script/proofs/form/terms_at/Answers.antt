use Rattle.std.proofs.Common.{ap, map}
use Rattle.pg_base.specs.Tokens.{word}
use Rattle.pg_script.specs.Lines.{terms_at}
use Rattle.pg_script.specs.View.{words, part}
use Rattle.pg_script.proofs.Turns.{one_more, failed, terms_wrong, terms_last, terms_more}
use Rattle.pg_script.proofs.form.terms_at.Goals as goal

pub returns-in_default : goal.returns-in_default
returns-in_default c =
    terms_last c.args.room c.loop-turn._turn c.args.end (words c.loop-turn.left.tokens.now) (words c.in_ok-term.behind.now) (map part c.loop-turn.terms) (map part c.push.new.self) (part c.in_ok-term.term)
    (terms_at c.args.room c.args.end (words c.args.tokens.now)) c.loop-turn.invariant c.loop-turn-test.true c.in_ok-term.ensures (ap words c.in_default.ensures) (one_more part _ _ _ c.in_ok-push.ensures.ok)

pub loop-turn-preserved : goal.loop-turn-preserved
loop-turn-preserved c =
    terms_more c.args.room c.loop-turn._turn c.args.end (words c.loop-turn.left.tokens.now) (words c.in_ok-term.behind.now) (words c.in-Some.after.now) (word c.in-Some.field-0-0) (map part c.loop-turn.terms) (map part c.push.new.self) (part c.in_ok-term.term)
    (terms_at c.args.room c.args.end (words c.args.tokens.now)) c.loop-turn.invariant c.loop-turn-test.true c.in_ok-term.ensures (ap words c.in-Some.ensures) (one_more part _ _ _ c.in_ok-push.ensures.ok)

pub returns-in_err-term : goal.returns-in_err-term
returns-in_err-term c =
    failed (map part) (terms_at c.args.room c.args.end (words c.args.tokens.now)) c.in_err-term.field-0.0 _ c.from_residual.ensures
    (λ n. terms_wrong c.args.room c.loop-turn._turn c.args.end (words c.loop-turn.left.tokens.now) (map part c.loop-turn.terms) c.in_err-term.field-0.0
    (terms_at c.args.room c.args.end (words c.args.tokens.now)) c.loop-turn.invariant c.loop-turn-test.true (c.in_err-term.ensures n))
