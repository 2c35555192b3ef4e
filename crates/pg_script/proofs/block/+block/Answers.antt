use Rattle.std.proofs.Common.{◌∙◌, Ok, ap, sym, map, length, subst}
use Rattle.std.proofs.lemmas.List.{length-map}
use Rattle.pg_base.specs.Tokens.{word}
use Rattle.pg_script.specs.Blocks.{ReadEntries, entries_at, block_at}
use Rattle.pg_script.specs.BlockView.{read_entries, rest_of}
use Rattle.pg_script.specs.View.{words, entry, Reads}
use Rattle.pg_script.proofs.Turns.{one_more, failed}
use Rattle.pg_script.proofs.Items.{entries_last, entries_more, entries_wrong, entries_broken, block_step}
use Rattle.pg_script.proofs.block.+block.Goals as goal

pub block_at-returns : goal.block_at-returns
block_at-returns t c =
    let P : ReadEntries → Type 0 = λ r. Reads read_entries r c.items_at.result in
    subst P (block_step c.args.budget c.args.whole.sample c.args.whole.end c.args.room (length c.args.tokens.now) (words c.args.tokens.now) _ (word c.in-Some.first) c.if-budget-eq0.false (ap words c.in-Some.ensures) (sym (length-map c.args.tokens.now word))) c.items_at.ensures

pub items_at-returns-in-None : goal.items_at-returns-in-None
items_at-returns-in-None t c =
    entries_last (block_at c.args.budget c.args.whole.sample c.args.whole.end) c.args.whole.sample c.args.column c.args.whole.end (length c.args.tokens.now) c.loop-turn._turn c.loop-turn.room_left (words c.loop-turn.left.tokens.now)
    (map entry c.loop-turn.items) (map entry c.push.new.self) (entry c.in_ok-item.item) c.in_ok-item.after (words c.in_ok-item.rest.now) _
    c.loop-turn.invariant c.loop-turn-test.true c.in_ok-item.ensures (c.in_ok-next_at.ensures ∙ ap (λ o. Ok (rest_of o)) c.in-None.is) (one_more entry _ _ _ c.in_ok-push.ensures.ok)

pub items_at-loop-turn-preserved : goal.items_at-loop-turn-preserved
items_at-loop-turn-preserved t c =
    entries_more (block_at c.args.budget c.args.whole.sample c.args.whole.end) c.args.whole.sample c.args.column c.args.whole.end (length c.args.tokens.now) c.loop-turn._turn c.loop-turn.room_left (words c.loop-turn.left.tokens.now)
    (map entry c.loop-turn.items) (map entry c.push.new.self) (entry c.in_ok-item.item) c.in_ok-item.after (words c.in_ok-item.rest.now) (words c.in-Some.next.now) _
    c.loop-turn.invariant c.loop-turn-test.true c.in_ok-item.ensures (c.in_ok-next_at.ensures ∙ ap (λ o. Ok (rest_of o)) c.in-Some.is) (one_more entry _ _ _ c.in_ok-push.ensures.ok)

pub items_at-returns-in_err-item : goal.items_at-returns-in_err-item
items_at-returns-in_err-item t c =
    let all : ReadEntries = entries_at (block_at c.args.budget c.args.whole.sample c.args.whole.end) c.args.whole.sample c.args.column c.args.whole.end (length c.args.tokens.now) c.args.room (words c.args.tokens.now) in
    failed read_entries all (c.in_err-item.field-0.0) _ c.from_residual.ensures
    (λ n. entries_wrong (block_at c.args.budget c.args.whole.sample c.args.whole.end) c.args.whole.sample c.args.column c.args.whole.end (length c.args.tokens.now) c.loop-turn._turn c.loop-turn.room_left (words c.loop-turn.left.tokens.now)
    (map entry c.loop-turn.items) c.in_err-item.field-0.0 all c.loop-turn.invariant c.loop-turn-test.true (c.in_err-item.ensures n))

pub items_at-returns-in_err-next_at : goal.items_at-returns-in_err-next_at
items_at-returns-in_err-next_at t c =
    let all : ReadEntries = entries_at (block_at c.args.budget c.args.whole.sample c.args.whole.end) c.args.whole.sample c.args.column c.args.whole.end (length c.args.tokens.now) c.args.room (words c.args.tokens.now) in
    failed read_entries all (c.in_err-next_at.field-0.0) _ c.from_residual-in_err-next_at.ensures
    (λ n. entries_broken (block_at c.args.budget c.args.whole.sample c.args.whole.end) c.args.whole.sample c.args.column c.args.whole.end (length c.args.tokens.now) c.loop-turn._turn c.loop-turn.room_left (words c.loop-turn.left.tokens.now)
    (map entry c.loop-turn.items) (entry c.in_ok-item.item) c.in_ok-item.after (words c.in_ok-item.rest.now) c.in_err-next_at.field-0.0 all c.loop-turn.invariant c.loop-turn-test.true c.in_ok-item.ensures (c.in_err-next_at.ensures n))
