-- A formula with its measures.
use Rattle.std.specs.Prelude.{◌≡◌, ◌-◌, ◌^◌, min}
use Rattle.pg_logic.specs.Tree.{nodes_of, height_of}
use Rattle.pg_terms.specs.View.{formula}
use Rattle.pg_terms.specs.declared.formula.Formula.{Formula}
use Rattle.pg_goal.specs.declared.shared.Shared.TheInside.{Inside}

-- the formula that is shared
abbrev pub whole : Inside → Formula
whole s = s.formula.value

-- the measures are those of the formula, or else their types' ends
pub record IsMeasured (s : Inside) : Type 0 where
  pub nodes : s.nodes ≡ min (nodes_of (formula (whole s))) (2 ^ 64 - 1)
  pub height : s.height ≡ min (height_of (formula (whole s))) (2 ^ 32 - 1)
