-- The plain data that goals and look-ups stand for: an item list stands for its list, a box for what it holds.
use Rattle.std.specs.Prelude.{map}
use Rattle.pg_terms.specs.View.{formula, formulas}
use Rattle.pg_arith.specs.View.{declarations}
use Rattle.pg_worlds.specs.Inventory.{inventory}
use Rattle.pg_moves.specs.Goals as moves
use Rattle.pg_moves.specs.Lookup as moves_lookup
use Rattle.pg_goal.specs.declared.goal.Var.{Var}
use Rattle.pg_goal.specs.declared.goal.Hyp.{Hyp}
use Rattle.pg_goal.specs.declared.goal.Goal.{Goal}
use Rattle.pg_goal.specs.declared.lookup.Lookup.{Lookup}

-- a variable
abbrev pub var_of : Var → moves.Var
var_of v = record { name = v.name; live = v.live }

-- a hypothesis
abbrev pub hyp_of : Hyp → moves.Hyp
hyp_of h = record { name = h.name; formula = formula h.formula; live = h.live }

-- a goal
abbrev pub goal_of : Goal → moves.Goal
goal_of g = record { vars = map var_of g.vars; hyps = map hyp_of g.hyps; target = formula g.target }

-- what is looked up
abbrev pub lookup_of : Lookup → moves_lookup.Lookup
lookup_of l = record {
  declared = declarations l.sig.now;
  theorems = formulas l.theorems.now;
  names = l.names.now;
  available = inventory l.available.now;
}
