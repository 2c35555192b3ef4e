use Rattle.std.proofs.Common.{◌∙◌, sym, Ok, Err}
use Rattle.pg_hints.proofs.Counts.{turn}
use Rattle.pg_hints.proofs.hints.+left_behind.Goals as goal

pub left_behind_all-returns-in-Err : goal.left_behind_all-returns-in-Err
left_behind_all-returns-in-Err t c =
    turn c.args.room c.loop-item.left c.args.items.now c.loop-item.item-index c.item-item.result (Err c.in-Err.at) c.loop-item-test.true c.item-item.is c.loop-item.invariant
    (sym c.in-Err.is ∙ c.left_behind.ensures)

pub left_behind_all-loop-item-preserved : goal.left_behind_all-loop-item-preserved
left_behind_all-loop-item-preserved t c =
    turn c.args.room c.loop-item.left c.args.items.now c.loop-item.item-index c.item-item.result (Ok c.in-Ok.less) c.loop-item-test.true c.item-item.is c.loop-item.invariant
    (sym c.in-Ok.is ∙ c.left_behind.ensures)
