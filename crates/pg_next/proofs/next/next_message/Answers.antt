use Rattle.std.proofs.Common.{sym as flip, subst, arith, ℕ, List, ◌+◌}
use Rattle.pg_messages.specs.Head.{IsWholeHead}
use Rattle.pg_messages.proofs.Laws.{waits-for-head}
use Rattle.pg_next.specs.View.{IsTold}
use Rattle.pg_next.proofs.Nexts.{ended-is, head-cut, next-told}
use Rattle.pg_next.proofs.next.next_message.Goals as goal

pub overflow_add-size : goal.overflow_add-size
overflow_add-size c =
    let is = ended-is c.args.bytes.now c.in-Ended.blank c.in-Ended.head c.in-Ended.ensures in
    omega (arith, is.1)

pub split_at-requires : goal.split_at-requires
split_at-requires c = (ended-is c.args.bytes.now c.in-Ended.blank c.in-Ended.head c.in-Ended.ensures).0

pub of_head-requires-clause-most : goal.of_head-requires-clause-most
of_head-requires-clause-most c = (ended-is c.args.bytes.now c.in-Ended.blank c.in-Ended.head c.in-Ended.ensures).1

pub returns-in-Open-clause-next : goal.returns-in-Open-clause-next
returns-in-Open-clause-next c = waits-for-head c.args.number c.args.bytes.now (flip c.in-Open.ensures)

pub returns-in-Some-clause-next : goal.returns-in-Some-clause-next
returns-in-Some-clause-next c =
    let bytes = c.args.bytes.now in
    let blank = c.in-Ended.blank in
    let n = c.in-Ended.head in
    let read = c.in-Some.ensures in
    let cut = head-cut bytes blank n c.split_at.result.0.now c.split_at-in-Ended.result.1.now c.split_at.ensures.front c.split_at-in-Ended.ensures.back in
    let is = subst (λ (b : List ℕ). IsWholeHead b read.0) cut read.1 in
    let told = subst (λ (r : List ℕ). IsTold c.args.number (blank + n) r read.0 c.of_head.result) c.split_at.ensures.back (c.of_head.ensures.told read.0 read.2) in
    next-told c.args.number bytes blank n read.0 c.of_head.result c.in-Ended.ensures is told
