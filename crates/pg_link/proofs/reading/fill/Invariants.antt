use Rattle.std.proofs.Common.{◌≡◌, ◌≤◌, ◌-◌, vec_len}
use Rattle.pg_link.specs.Filling.{Came}
use Rattle.pg_link.proofs.reading.fill.Given as goal

abbrev pub invariant-loop-piece : goal.invariant-loop-piece
invariant-loop-piece g l = record {
  came : Came (g.L.Source.left l.initial.link) (g.L.Source.left l.link) l.initial.buffer.items l.buffer.items;
  fits : vec_len l.buffer ≤ 81920;
  written : g.L.Sink.written l.link ≡ g.L.Sink.written l.initial.link;
  write_faults : g.L.Sink.write_faults l.link ≡ g.L.Sink.write_faults l.initial.link;
  later : g.L.Source.read_faults l.initial.link ≤ g.L.Source.read_faults l.link;
}

abbrev pub decreases-loop-piece : goal.decreases-loop-piece
decreases-loop-piece g l = l.wanted - vec_len l.buffer
