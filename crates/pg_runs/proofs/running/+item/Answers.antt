use Rattle.std.proofs.Common.{ℕ, arith, ◌+◌, refl}
use Rattle.pg_moves.specs.Runs.{run_items, focused, parts_among}
use Rattle.pg_goal.specs.View.{lookup_of}
use Rattle.pg_runs.specs.State.{goals_of}
use Rattle.pg_runs.specs.Running.{Runs}
use Rattle.pg_runs.proofs.Playing.{halted_at}
use Rattle.pg_runs.proofs.Blocks as blocks
use Rattle.pg_runs.proofs.Blocks.{E}
use Rattle.pg_runs.proofs.running.+item.Goals as goal

pub items-item-requires : goal.items-item-requires
items-item-requires m t c =
    let l = lookup_of c.args.lookup.now in
    let its = c.args.items.now in
    let i = c.loop-it.it-index in
    let it = c.it-item.result in
    λ k q. (
      blocks.below_at its i it c.loop-it-test.true c.it-item.is t c.decreases,
      (
        q,
        (
          c.requires.usable,
          (
            blocks.written_at its i it c.loop-it-test.true c.it-item.is c.requires.written,
            (
              blocks.room_at its i it c.loop-it-test.true c.it-item.is l c.args.state.now c.loop-it.state c.requires.room c.loop-it.invariant.1,
              blocks.few_at its i it c.loop-it-test.true c.it-item.is c.args.first c.loop-it.number c.requires.few c.loop-it.invariant.2,
            ),
          ),
        ),
      ),
    )

pub items-loop-it-preserved : goal.items-loop-it-preserved
items-loop-it-preserved m t c =
    let l = lookup_of c.args.lookup.now in
    let its = c.args.items.now in
    let i = c.loop-it.it-index in
    let it = c.it-item.result in
    blocks.item_goes its i it c.loop-it-test.true c.it-item.is l c.args.first c.loop-it.number c.in_ok-number.number c.args.state.now c.loop-it.state c.item.new.state
    c.loop-it.invariant.0 c.loop-it.invariant.1 c.loop-it.invariant.2 c.in_ok-number.ensures.runs c.in_ok-number.ensures.next

pub focus-items-requires : goal.focus-items-requires
focus-items-requires m t c =
    let l = lookup_of c.args.lookup.now in
    let k = parts_among (E c.args.block.now) in
    let inner = run_items l (E c.args.block.now) (c.args.number + 1) in
    λ k q. (
      omega (arith, c.decreases),
      (
        q,
        (
          c.requires.usable,
          (
            c.requires.written,
            (
              blocks.focus_room l c.args.number (parts_among (E c.args.block.now)) inner c.args.state.now c.in_ok-inner.inner c.in-Some.goal.now c.in_ok-copied.field-0 c.in-Some.ensures.value c.in_ok-copied.ensures c.in_ok-inner.ensures.goals c.requires.room,
              omega (arith, c.requires.few),
            ),
          ),
        ),
      ),
    )

pub focus-returns-in_err-next-clause-runs : goal.focus-returns-in_err-next-clause-runs
focus-returns-in_err-next-clause-runs m t c =
    let l = lookup_of c.args.lookup.now in
    let k = parts_among (E c.args.block.now) in
    let inner = run_items l (E c.args.block.now) (c.args.number + 1) in
    let a = c.args.state.now in
    blocks.handed ℕ (Runs l (focused c.args.number inner (goals_of a.goals)) k a a) c.from_residual-in_err-next.result c.in_err-next.field-0.0 c.from_residual-in_err-next.ensures
    (blocks.focus_halts l c.args.number k inner a c.in_ok-inner.inner c.in-Some.goal.now c.in_ok-copied.field-0 c.in-Some.ensures.value c.in_ok-copied.ensures c.in_ok-inner.ensures.goals ℕ c.in_err-next.field-0.0 c.items.new.state a c.in_err-next.ensures.runs)

pub focus-returns-clause-runs : goal.focus-returns-clause-runs
focus-returns-clause-runs m t c =
    let l = lookup_of c.args.lookup.now in
    let k = parts_among (E c.args.block.now) in
    let inner = run_items l (E c.args.block.now) (c.args.number + 1) in
    blocks.focus_closes l c.args.number k inner c.args.state.now c.in_ok-inner.inner c.in-Some.goal.now c.in_ok-copied.field-0 c.in-Some.ensures.value c.in_ok-copied.ensures c.in_ok-inner.ensures.goals
    c.items.new.state c.close_first.new.self c.in_ok-inner.ensures.frames c.in_ok-next.ensures.runs c.is_empty.result c.if-not-is_empty.false c.is_empty.ensures.0 c.in_ok-close_first.ensures.frames c.in_ok-close_first.ensures.goals

pub item-returns-in-Hint-clause-runs : goal.item-returns-in-Hint-clause-runs
item-returns-in-Hint-clause-runs m t c =
    let l = lookup_of c.args.lookup.now in
    blocks.hint_runs l c.args.number c.args.item.now c.in-Hint.field-0 c.args.state.now c.hint.new.state c.hint.result c.in-Hint.is (c.hint.ensures.runs l)

pub focus-returns-then-not-is_empty-clause-runs : goal.focus-returns-then-not-is_empty-clause-runs
focus-returns-then-not-is_empty-clause-runs m t c =
    let l = lookup_of c.args.lookup.now in
    let k = parts_among (E c.args.block.now) in
    let inner = run_items l (E c.args.block.now) (c.args.number + 1) in
    let a = c.args.state.now in
    halted_at ℕ l (focused c.args.number inner (goals_of a.goals)) k a c.stopped-then-not-is_empty.new.state c.stopped-then-not-is_empty.result _ c.stopped-then-not-is_empty.ensures
    (blocks.focus_open l c.args.number k inner a c.in_ok-inner.inner c.in-Some.goal.now c.in_ok-copied.field-0 c.in-Some.ensures.value c.in_ok-copied.ensures c.in_ok-inner.ensures.goals
    c.items.new.state _ c.in_ok-next.ensures.runs.0 c.is_empty.result c.if-not-is_empty.true c.is_empty.ensures.1 refl refl (blocks.told_open c.len.result c.counted-count.result c.items.new.state.goals c.len.ensures c.counted-count.ensures) refl)
