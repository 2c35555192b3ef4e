use Rattle.std.proofs.Common.{◌≤◌, ◌+◌, ◌*◌, ◌-◌, drop, vec_len}
use Rattle.pg_messages.specs.Links.{Going}
use Rattle.pg_serve.proofs.serving.serve.Given as goal

abbrev pub invariant-loop-message : goal.invariant-loop-message
invariant-loop-message g l = record {
  going : Going g.S.Service.answers l.initial.service l.service (g.L.Source.left l.initial.link) (g.L.Source.left l.link) (g.L.Sink.written l.initial.link) (g.L.Sink.written l.link)
      l.number (drop l.start l.buffer.items);
  reads : g.L.Source.read_faults l.initial.link ≤ g.L.Source.read_faults l.link;
  writes : g.L.Sink.write_faults l.initial.link ≤ g.L.Sink.write_faults l.link;
  few : l.number ≤ 999;
  small : vec_len l.buffer ≤ 81920;
  within : l.start ≤ vec_len l.buffer;
}

abbrev pub decreases-loop-message : goal.decreases-loop-message
decreases-loop-message g l = (999 - l.number) * 81921 + (81920 - (vec_len l.buffer - l.start))
