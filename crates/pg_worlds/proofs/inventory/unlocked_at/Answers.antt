use Rattle.std.proofs.Common.{◌∙◌, ap, arith}
use Rattle.pg_worlds.specs.Inventory.{inventory}
use Rattle.pg_worlds.proofs.Won.{unlocked_more, unlocked_same}
use Rattle.pg_worlds.proofs.inventory.unlocked_at.Goals as goal
use Rattle.pg_worlds.proofs.inventory.unlocked_at.Goals.{then-won-at+in_ok-add_won, else-won-at}

pub loop-at-preserved : goal.loop-at-preserved
loop-at-preserved c =
    elim c.if-won-at.branch [
      | then-won-at+in_ok-add_won w ↦
          ap inventory w.unlocked-is ∙ w.in_ok-add_won.ensures.ok ∙ unlocked_more c.args.course.now.levels c.args.won.now c.loop-at.at _ (omega (arith, c.count-at-end.ensures.count)) (omega (arith, c.count-at-end.ensures.count)) w.if-won-at.true c.loop-at.invariant
      | else-won-at w ↦
          ap inventory w.unlocked-is ∙ c.loop-at.invariant ∙ unlocked_same c.args.course.now.levels c.args.won.now c.loop-at.at (omega (arith, c.count-at-end.ensures.count)) (omega (arith, c.count-at-end.ensures.count)) w.if-won-at.false
    ]
