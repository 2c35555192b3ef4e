use Rattle.std.proofs.Common.{map}
use Rattle.pg_script.specs.Lines.{rules_at}
use Rattle.pg_script.specs.View.{words, rule, with_rest}
use Rattle.pg_script.proofs.Turns.{one_more, failed, rules_wrong, rules_last, rules_more}
use Rattle.pg_script.proofs.form.rules_at.Goals as goal

pub returns-then-not-goes_on : goal.returns-then-not-goes_on
returns-then-not-goes_on c =
    rules_last c.args.room c.loop-turn._turn c.args.end (words c.loop-turn.left.tokens.now) (words c.in_ok-rule.behind.now) (words c.in_ok-goes_on.after.now) (map rule c.loop-turn.rules) (map rule c.push.new.self) (rule c.in_ok-rule.rule) c.in_ok-goes_on.goes_on
    (rules_at c.args.room c.args.end (words c.args.tokens.now)) c.loop-turn.invariant c.loop-turn-test.true c.in_ok-rule.ensures c.in_ok-goes_on.ensures c.if-not-goes_on.true (one_more rule _ _ _ c.in_ok-push.ensures.ok)

pub loop-turn-preserved : goal.loop-turn-preserved
loop-turn-preserved c =
    rules_more c.args.room c.loop-turn._turn c.args.end (words c.loop-turn.left.tokens.now) (words c.in_ok-rule.behind.now) (words c.in_ok-goes_on.after.now) (map rule c.loop-turn.rules) (map rule c.push.new.self) (rule c.in_ok-rule.rule) c.in_ok-goes_on.goes_on
    (rules_at c.args.room c.args.end (words c.args.tokens.now)) c.loop-turn.invariant c.loop-turn-test.true c.in_ok-rule.ensures c.in_ok-goes_on.ensures c.if-not-goes_on.false (one_more rule _ _ _ c.in_ok-push.ensures.ok)

pub returns-in_err-rule : goal.returns-in_err-rule
returns-in_err-rule c =
    failed (with_rest (map rule)) (rules_at c.args.room c.args.end (words c.args.tokens.now)) c.in_err-rule.field-0.0 _ c.from_residual.ensures
    (λ n. rules_wrong c.args.room c.loop-turn._turn c.args.end (words c.loop-turn.left.tokens.now) (map rule c.loop-turn.rules) c.in_err-rule.field-0.0
    (rules_at c.args.room c.args.end (words c.args.tokens.now)) c.loop-turn.invariant c.loop-turn-test.true (c.in_err-rule.ensures n))
