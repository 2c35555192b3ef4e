use Rattle.std.proofs.Common.{arith}
use Rattle.std.proofs.lemmas.List.{length-take}
use Rattle.pg_run.proofs.Taking.{took-all, took-front, left-none, left-behind, left-kept, left-more}
use Rattle.pg_run.proofs.script.read_script.Goals as goal

pub returns-in_err-count-clause-part : goal.returns-in_err-count-clause-part
returns-in_err-count-clause-part g c = left-kept _ _ _ _ c.loop-chunk.invariant.taken c.in_err-count.ensures.bytes.0 (omega (arith, c.loop-chunk.invariant.size))

pub returns-then-count-eq0-clause-script : goal.returns-then-count-eq0-clause-script
returns-then-count-eq0-clause-script g c =
    took-all _ _ _ c.in_ok-count.count c.loop-chunk.invariant.taken c.in_ok-count.ensures.bytes.2 c.if-count-eq0.true (omega (arith, c.loop-chunk.invariant.size))

pub returns-then-count-eq0-clause-left : goal.returns-then-count-eq0-clause-left
returns-then-count-eq0-clause-left g c =
    left-none _ _ _ _ c.read.new.into c.in_ok-count.count c.loop-chunk.invariant.taken c.in_ok-count.ensures.bytes.1 c.in_ok-count.ensures.bytes.2
    c.if-count-eq0.true (omega (arith, c.loop-chunk.invariant.size))

pub returns-then-count-eq0-clause-part : goal.returns-then-count-eq0-clause-part
returns-then-count-eq0-clause-part g c =
    left-more _ _ _ c.loop-chunk.script.items c.read.new.into c.in_ok-count.count c.loop-chunk.invariant.taken c.in_ok-count.ensures.bytes.1 c.in_ok-count.ensures.bytes.0
    (omega (arith, c.if-count-eq0.true, c.loop-chunk.invariant.size))

pub returns-in_err-extend_from_slice-clause-part : goal.returns-in_err-extend_from_slice-clause-part
returns-in_err-extend_from_slice-clause-part g c =
    left-more _ _ _ c.loop-chunk.script.items c.read.new.into c.in_ok-count.count c.loop-chunk.invariant.taken c.in_ok-count.ensures.bytes.1 c.in_ok-count.ensures.bytes.0
    (omega (arith, c.in_ok-count.ensures.bytes.0, c.read.auto.into, length-take c.min-want.result c.loop-chunk.chunk, c.min-want.ensures, c.len-in-loop-chunk.ensures, c.loop-chunk.invariant.size))

pub returns-clause-left : goal.returns-clause-left
returns-clause-left g c = left-behind _ _ _ c.loop-chunk.invariant.taken (omega (arith, c.loop-chunk.invariant.size, c.loop-chunk-test.false, c.len.ensures))

pub returns-clause-script : goal.returns-clause-script
returns-clause-script g c = took-front _ _ _ c.loop-chunk.invariant.taken (omega (arith, c.loop-chunk.invariant.size, c.len.ensures))
