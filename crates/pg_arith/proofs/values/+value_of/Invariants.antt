use Rattle.std.proofs.Common.{◌≡◌, ◌+◌, ◌*◌, ◌≤◌, [], ℕ, length, drop}
use Rattle.std.specs.List.{All}
use Rattle.pg_logic.specs.Valuing.{Got, run_recursed, runs_of}
use Rattle.pg_terms.specs.View.{term}
use Rattle.pg_arith.specs.Postfix.{run_steps}
use Rattle.pg_arith.specs.View.{plain_functions}
use Rattle.pg_arith.proofs.values.+value_of.Given as goal

abbrev pub decreases-value_at : goal.decreases-value_at
decreases-value_at l = 7 * length (plain_functions l.functions.now)

abbrev pub decreases-take_step : goal.decreases-take_step
decreases-take_step l = 7 * length (plain_functions l.functions.now) + 1

abbrev pub decreases-value_by : goal.decreases-value_by
decreases-value_by l = 7 * length (plain_functions l.functions.now) + 2

abbrev pub decreases-value_of : goal.decreases-value_of
decreases-value_of l = 7 * length (plain_functions l.functions.now) + 3

abbrev pub decreases-right_side : goal.decreases-right_side
decreases-right_side l = 7 * length (plain_functions l.functions.now) + 4

abbrev pub decreases-next_value : goal.decreases-next_value
decreases-next_value l = 7 * length (plain_functions l.functions.now) + 5

abbrev pub decreases-recursion : goal.decreases-recursion
decreases-recursion l = 7 * length (plain_functions l.functions.now) + 6

abbrev pub invariant-value_by-loop-step : goal.invariant-value_by-loop-step
invariant-value_by-loop-step l = record {
  rest : run_steps (runs_of l.limit (plain_functions l.functions)) l.limit l.free (drop l.step-index l.steps) l.values.items l.left
      ≡ run_steps (runs_of l.limit (plain_functions l.functions)) l.limit l.free l.steps [] l.initial.left;
  small : All (λ v. v ≤ l.limit) l.values.items;
}

abbrev pub invariant-recursion-loop-m : goal.invariant-recursion-loop-m
invariant-recursion-loop-m l = record {
  ran : (budget : ℕ) → run_recursed (runs_of l.limit (plain_functions l.functions)) l.limit (term l.r.base) (term l.r.step) l.front 0 budget ≡ Got l.initial.v l.initial.left →
      run_recursed (runs_of l.limit (plain_functions l.functions)) l.limit (term l.r.base) (term l.r.step) l.front l.m budget ≡ Got l.v l.left;
  small : l.v ≤ l.limit;
}
