use Rattle.std.proofs.Common.{◌≡◌, ◌≤◌, ◌-◌, length, take}
use Rattle.std.specs.Io.KnownBytes.{Appends}
use Rattle.pg_link.proofs.writing.write_all.Given as goal

abbrev pub invariant-loop-at : goal.invariant-loop-at
invariant-loop-at g l = record {
  wrote : Appends (g.L.Sink.written l.initial.out) (g.L.Sink.written l.out) (take l.at l.text);
  later : g.L.Sink.write_faults l.initial.out ≤ g.L.Sink.write_faults l.out;
  within : l.at ≤ length l.text;
  left : g.L.Source.left l.out ≡ g.L.Source.left l.initial.out;
  reads : g.L.Source.read_faults l.out ≡ g.L.Source.read_faults l.initial.out;
}

abbrev pub decreases-loop-at : goal.decreases-loop-at
decreases-loop-at g l = length l.text - l.at
