use Rattle.std.proofs.Common.{◌≡◌, ◌++◌, drop, map, flat_map, string_bytes}
use Rattle.pg_arith.specs.View.{declarations}
use Rattle.pg_goal.specs.View.{goal_of, hyp_of}
use Rattle.pg_attempt.specs.Lines.{hyp_line}
use Rattle.pg_attempt.proofs.printing.push_hyps.Given as goal

abbrev pub invariant-loop-hyp : goal.invariant-loop-hyp
invariant-loop-hyp l =
    string_bytes l.text ++ flat_map (hyp_line (declarations l.sig) (goal_of l.goal)) (map hyp_of (drop l.hyp-index l.hyp-items))
    ≡ string_bytes l.initial.text ++ flat_map (hyp_line (declarations l.sig) (goal_of l.goal)) (map hyp_of l.hyp-items)
