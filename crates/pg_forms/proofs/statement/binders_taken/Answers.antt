use Rattle.std.proofs.Common.{◌∙◌, ◌-◌, ◌+◌, ap, map, length, Some, None, []}
use Rattle.pg_script.specs.View.{words}
use Rattle.pg_gametext.specs.Forms.{binders_taken, binders_stuck}
use Rattle.pg_forms.specs.View.{binder}
use Rattle.pg_forms.specs.Binders.{turned}
use Rattle.pg_forms.proofs.Bindings.{ends, none_more, pushed, more_binders}
use Rattle.pg_forms.proofs.statement.binders_taken.Goals as goal

pub returns-in-Unclosed : goal.returns-in-Unclosed
returns-in-Unclosed c =
    let ws = words c.loop-turn.left.tokens.now in
    let all = length c.args.tokens.now in
    let more = binders_taken (all - (c.loop-turn._turn + 1)) c.args.end in
    let xs = c.loop-turn.list.items in
    ends all c.loop-turn._turn c.args.end ws (map binder xs) _ _ c.loop-turn.invariant c.loop-turn-test.true (c.binder_taken.ensures more ∙ ap (turned ws more) c.in-Unclosed.is)
    ∙ pushed xs c.push-in-Unclosed.new.self.items c.in-Unclosed.binder (binders_stuck c.in-Unclosed.at) c.in_ok-push-in-Unclosed.ensures.items
    ∙ none_more (map binder c.push-in-Unclosed.new.self.items) (Some c.in-Unclosed.at) []

pub returns-in-Stuck : goal.returns-in-Stuck
returns-in-Stuck c =
    let ws = words c.loop-turn.left.tokens.now in
    let all = length c.args.tokens.now in
    let more = binders_taken (all - (c.loop-turn._turn + 1)) c.args.end in
    let xs = c.loop-turn.list.items in
    ends all c.loop-turn._turn c.args.end ws (map binder xs) _ _ c.loop-turn.invariant c.loop-turn-test.true (c.binder_taken.ensures more ∙ ap (turned ws more) c.in-Stuck.is)
    ∙ none_more (map binder xs) (Some c.in-Stuck.at) []

pub returns-in-NoBinder : goal.returns-in-NoBinder
returns-in-NoBinder c =
    let ws = words c.loop-turn.left.tokens.now in
    let all = length c.args.tokens.now in
    let more = binders_taken (all - (c.loop-turn._turn + 1)) c.args.end in
    let xs = c.loop-turn.list.items in
    ends all c.loop-turn._turn c.args.end ws (map binder xs) _ _ c.loop-turn.invariant c.loop-turn-test.true (c.binder_taken.ensures more ∙ ap (turned ws more) c.in-NoBinder.is)
    ∙ none_more (map binder xs) None ws

pub loop-turn-preserved : goal.loop-turn-preserved
loop-turn-preserved c =
    let ws = words c.loop-turn.left.tokens.now in
    let all = length c.args.tokens.now in
    let more = binders_taken (all - (c.loop-turn._turn + 1)) c.args.end in
    more_binders all c.loop-turn._turn c.args.end ws (words c.in-Closed.rest.now) c.loop-turn.list.items c.push.new.self.items c.in-Closed.binder _ c.loop-turn.invariant c.loop-turn-test.true
    (c.binder_taken.ensures more ∙ ap (turned ws more) c.in-Closed.is) c.in_ok-push-in-Closed.ensures.items
