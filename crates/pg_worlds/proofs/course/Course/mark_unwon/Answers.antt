use Rattle.std.proofs.Common.{arith}
use Rattle.pg_worlds.proofs.Waiting.{marked}
use Rattle.pg_worlds.proofs.course.Course.mark_unwon.Goals as goal

pub returns-then-not-won-at : goal.returns-then-not-won-at
returns-then-not-won-at c = λ w. marked c.args.worlds.now c.world.result _ w _ (omega arith) c.world.ensures.world c.if-not-won-at.true
