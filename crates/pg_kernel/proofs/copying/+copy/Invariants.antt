use Rattle.std.proofs.Common.{◌+◌, ◌*◌, max}
use Rattle.pg_kernel.specs.declared.proof.Proof.{size-Proof}
use Rattle.pg_kernel.proofs.copying.+copy.Given as goal

abbrev pub decreases-copy : goal.decreases-copy
decreases-copy l = 4 * size-Proof l.p.now

abbrev pub decreases-one : goal.decreases-one
decreases-one l = 4 * size-Proof l.p.now + 1

abbrev pub decreases-two : goal.decreases-two
decreases-two l = 4 * max (size-Proof l.p.now) (size-Proof l.q.now) + 2

abbrev pub decreases-three : goal.decreases-three
decreases-three l = 4 * max (size-Proof l.p.now) (max (size-Proof l.q.now) (size-Proof l.r.now)) + 3
