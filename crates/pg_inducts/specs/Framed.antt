-- The frames of acts on a variable.
use Rattle.std.specs.Prelude.{ℕ, List, [], ◌∷◌, ◌++◌, length}
use Rattle.pg_logic.specs.Tree.{free, all, closed_over_formula}
use Rattle.pg_logic.specs.Declarations.{Name}
use Rattle.pg_logic.specs.Kernel.{hyp, alle}
use Rattle.pg_moves.specs.Goals.{Goal}
use Rattle.pg_moves.specs.Holding.{carried, before}
use Rattle.pg_moves.specs.Frames.{Frame, change, induct, gives_all, parts}

-- `revert x` of variable k, where so many hypotheses stand
abbrev pub reverted_frames : ℕ → Goal → Name → ℕ → List Frame
reverted_frames n g x k =
    let a = closed_over_formula k (before (carried k g) g.target) in gives_all (carried k g) ++ change (all x a) (alle a (free k) (hyp n)) ∷ []

abbrev pub reverting : Goal → Name → ℕ → List Frame
reverting g x k = reverted_frames (length g.hyps) g x k

-- `induction` on variable k
abbrev pub inducting : Goal → ℕ → List Frame
inducting g k = let cs = carried k g in gives_all cs ++ induct (closed_over_formula k (before cs g.target)) (free k) (length cs) ∷ []

-- `cases` of variable k, where so many hypotheses stand
abbrev pub parting_frames : ℕ → Goal → ℕ → List Frame
parting_frames n g k = let cs = carried k g in gives_all cs ++ parts (length g.vars) n k (before cs g.target) (length cs) ∷ []

abbrev pub parting : Goal → ℕ → List Frame
parting g k = parting_frames (length g.hyps) g k
