-- What is known where an expression stands, and of what is given so far.
use Rattle.std.specs.Prelude.{◌≡◌, ◌≤◌}
use Rattle.pg_logic.specs.Tree.{nodes_of}
use Rattle.pg_logic.specs.Declarations.{signature_of}
use Rattle.pg_terms.specs.View.{formula}
use Rattle.pg_kernel.specs.View.{proof}
use Rattle.pg_moves.specs.Goals as moves
use Rattle.pg_moves.specs.Goals.{var_names}
use Rattle.pg_moves.specs.Lookup as moves_lookup
use Rattle.pg_moves.specs.Laws.{IsSound}
use Rattle.pg_moves.specs.Proofs.{Fits, sequent}
use Rattle.pg_goal.specs.declared.expression.Place.{Place}
use Rattle.pg_goal.specs.declared.expression.Given.{Given}
use Rattle.pg_goal.specs.View.{goal_of, lookup_of}
use Rattle.pg_goal.specs.Conditions.{IsCounted, IsProved}

-- what is looked up
abbrev pub look : Place → moves_lookup.Lookup
look p = lookup_of p.lookup.now

-- the goal
abbrev pub spot : Place → moves.Goal
spot p = goal_of p.goal.now

-- the names are those of the goal's variables, and the rest is as a caller promises
pub record IsReady (p : Place) : Type 0 where
  pub names : p.names.now.vars.items ≡ var_names (spot p)
  pub sound : IsSound (look p)
  pub counted : IsCounted (look p) (spot p)
  pub fits : Fits (signature_of (look p).declared) (sequent (spot p))

-- it is proved, and not too large
abbrev pub IsHeld : Place → Given → Type 0
IsHeld p x = IsProved (look p) (spot p) (formula x.formula) (proof x.proof) × (nodes_of (formula x.formula) ≤ 4096)
