use Rattle.std.proofs.Common.{◌≡◌, ◌++◌, drop, length, map, flat_map, string_bytes, codes, decimal}
use Rattle.pg_arith.specs.View.{declarations}
use Rattle.pg_goal.specs.View.{goal_of}
use Rattle.pg_attempt.specs.Lines.{goal_lines, line}
use Rattle.pg_attempt.proofs.printing.open_lines.Given as goal

abbrev pub invariant-loop-goal : goal.invariant-loop-goal
invariant-loop-goal l =
    string_bytes l.text ++ flat_map (goal_lines (declarations l.sig)) (map goal_of (drop l.goal-index l.goals))
    ≡ line (codes "open " ++ decimal (length l.goals)) ++ flat_map (goal_lines (declarations l.sig)) (map goal_of l.goals)
