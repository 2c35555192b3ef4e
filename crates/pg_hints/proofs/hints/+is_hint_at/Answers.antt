use Rattle.std.proofs.Common.{◌∙◌, ◌==◌, sym, true, false}
use Rattle.pg_hints.proofs.Counts.{one_here}
use Rattle.pg_hints.proofs.hints.+is_hint_at.Goals as goal

pub has_hint_at-returns-then-is_hint_at : goal.has_hint_at-returns-then-is_hint_at
has_hint_at-returns-then-is_hint_at t c =
    one_here (λ a. a == c.args.at) c.args.items.now c.loop-item.item-index c.item-item.result true _ c.loop-item-test.true c.item-item.is c.loop-item.invariant
    (sym c.if-is_hint_at.true ∙ c.is_hint_at.ensures)

pub has_hint_at-loop-item-preserved : goal.has_hint_at-loop-item-preserved
has_hint_at-loop-item-preserved t c =
    one_here (λ a. a == c.args.at) c.args.items.now c.loop-item.item-index c.item-item.result false _ c.loop-item-test.true c.item-item.is c.loop-item.invariant
    (sym c.if-is_hint_at.false ∙ c.is_hint_at.ensures)
