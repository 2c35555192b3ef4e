use Rattle.std.proofs.Common.{◌≡◌, ◌+◌, ◌&&◌, drop, map}
use Rattle.std.specs.List.{position_or_len}
use Rattle.std.specs.Str.{bytes_eq}
use Rattle.pg_moves.specs.Goals.{Hyp}
use Rattle.pg_goal.specs.View.{hyp_of}
use Rattle.pg_goal.proofs.goal.Goal.hypothesis_named.Given as goal

abbrev pub invariant-loop-hyp : goal.invariant-loop-hyp
invariant-loop-hyp l = record {
  counted : l.number ≡ l.hyp-index;
  before : position_or_len (λ (v : Hyp). v.live && bytes_eq l.name v.name) (map hyp_of l.self.hyps) ≡ l.hyp-index + position_or_len (λ (v : Hyp). v.live && bytes_eq l.name v.name) (map hyp_of (drop l.hyp-index l.self.hyps));
}
