use Rattle.std.proofs.Common.{◌<◌, arith}
use Rattle.pg_worlds.proofs.Earlier.{earlier}
use Rattle.pg_worlds.proofs.course.Course.first_missing.Goals as goal

pub returns-clause-first : goal.returns-clause-first
returns-clause-first c = λ k before.
    let l : k < c.args.level.0 = earlier c.args.self.now c.needed-needed.ensures.plan c.args.level.0 k c.requires.level before in
    c.loop-at.invariant k (omega arith) before
