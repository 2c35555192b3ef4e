use Rattle.std.proofs.Common.{◌≡◌, ◌≤◌, ◌-◌, vec_len}
use Rattle.std.specs.Io.KnownBytes.{Consumes}
use Rattle.pg_run.proofs.script.read_script.Given as goal

abbrev pub invariant-loop-chunk : goal.invariant-loop-chunk
invariant-loop-chunk g l = record {
  taken : Consumes (g.L.Source.left l.initial.link) (g.L.Source.left l.link) l.script.items;
  written : g.L.Sink.written l.link ≡ g.L.Sink.written l.initial.link;
  writes : g.L.Sink.write_faults l.link ≡ g.L.Sink.write_faults l.initial.link;
  later : g.L.Source.read_faults l.initial.link ≤ g.L.Source.read_faults l.link;
  size : vec_len l.script ≤ 16385;
}

abbrev pub decreases-loop-chunk : goal.decreases-loop-chunk
decreases-loop-chunk g l = 16385 - vec_len l.script
