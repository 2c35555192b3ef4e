use Rattle.std.proofs.Common.{◌++◌, take, arith}
use Rattle.pg_messages.proofs.Going.{consumes-then}
use Rattle.pg_link.proofs.Emptied.{emptied}
use Rattle.pg_link.proofs.reading.fill.Goals as goal

pub returns-then-count-eq0-clause-fills : goal.returns-then-count-eq0-clause-fills
returns-then-count-eq0-clause-fills g c =
    let came = c.loop-piece.invariant.came in
    let read_out = emptied (g.L.Source.left c.args.link.now) (g.L.Source.left c.loop-piece.link) (g.L.Source.left c.read.new.self) came.0 c.read.new.into c.in-Ok.count
    came.1 c.in-Ok.ensures.bytes.1 c.if-count-eq0.true c.in-Ok.ensures.bytes.2 in
    ((came.0, read_out.0, came.2), omega (arith, c.len.ensures, c.loop-piece-test.true, c.loop-piece.buffer.ok), read_out.1)

pub returns-in_default-extend_from_slice-clause-fills : goal.returns-in_default-extend_from_slice-clause-fills
returns-in_default-extend_from_slice-clause-fills g c =
    let came = c.loop-piece.invariant.came in (
      came.0 ++ take c.in-Ok.count c.read.new.into,
      consumes-then (g.L.Source.left c.args.link.now) (g.L.Source.left c.loop-piece.link) (g.L.Source.left c.read.new.self) came.0 (take c.in-Ok.count c.read.new.into) came.1 c.in-Ok.ensures.bytes.1,
    )
