-- What formulas are asked for that a variable carries along, and what becomes of the hypotheses that hold it.
use Rattle.std.specs.Prelude.{ℕ, ◌≡◌, true, false, ◌&&◌, ◌<◌, ◌*◌, ◌^◌, List, if◌then◌else◌}
use Rattle.pg_logic.specs.Tree.{Fm, free, succ, nodes_of, is_tight_formula}
use Rattle.pg_moves.specs.Goals.{Hyp, Goal}
use Rattle.pg_moves.specs.Holding.{holds_var, put_for}

-- a formula of fewer than 2^32 nodes
abbrev pub IsSmall : Fm → Type 0
IsSmall a = nodes_of a < 2 ^ 32

-- the same of one with two nodes in the place of each
abbrev pub MayDouble : Fm → Type 0
MayDouble a = 2 * nodes_of a < 2 ^ 32

-- ---- inside

-- it has no loose bound variable besides: so it can be closed over a variable
pub record IsClosable (a : Fm) : Type 0 where
  pub small : nodes_of a < 2 ^ 32
  pub tight : is_tight_formula 0 a ≡ true

-- the same with the successor of variable n for variable k
abbrev pub CanStep : ℕ → ℕ → Fm → Type 0
CanStep k n a = IsClosable (put_for k (succ (free n)) a)

-- a hypothesis dies
abbrev pub dead : Hyp → Hyp
dead h = record { name = h.name; formula = h.formula; live = false }

-- a hypothesis that holds variable k dies
abbrev pub let_go : ℕ → Hyp → Hyp
let_go k h = if h.live && holds_var k h.formula then dead h else h

-- the goal with other hypotheses
abbrev pub with_hyps : List Hyp → Goal → Goal
with_hyps hs g = record { vars = g.vars; hyps = hs; target = g.target }
