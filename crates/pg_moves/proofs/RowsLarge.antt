-- The limit on nodes: ten rewritings give a target of 4,096 nodes, an eleventh is one too many.
use Rattle.std.proofs.Common.{◌≡◌, ℕ, zero, suc, [], ◌∷◌, true, refl}
use Rattle.std.specs.Prelude.{codes}
use Rattle.pg_logic.specs.Tree.{Tm, free, succ, eq}
use Rattle.pg_script.specs.Scripts.{entries_of_tokens}
use Rattle.pg_script.specs.Blocks.{block_at}
use Rattle.pg_moves.specs.Goals.{Goal}
use Rattle.pg_moves.specs.Causes.{TooLarge, Nodes}
use Rattle.pg_moves.specs.Expressions.{gives}
use Rattle.pg_moves.specs.Steps.{new_goals}
use Rattle.pg_moves.specs.Runs.{Open, run}
use Rattle.pg_moves.proofs.Playing.{var, hyp, goal, stopped, plus, played}

-- x doubled so many times
abbrev doubled : ℕ → Tm
doubled zero = free 0
doubled (suc n) = let t = doubled n in plus t t

-- (x : ℕ) (h : x = x + x) : x = succ x, with both sides rewritten so many times
abbrev state : ℕ → Goal
state n = goal (var (codes "x") true ∷ []) (hyp (codes "h") (eq (free 0) (plus (free 0) (free 0))) true ∷ []) (eq (doubled n) (succ (doubled n)))

-- ten times `rw [h]`: 4,096 nodes
ten : played (state 0) (codes "rw [h]\nrw [h]\nrw [h]\nrw [h]\nrw [h]\nrw [h]\nrw [h]\nrw [h]\nrw [h]\nrw [h]\n") ≡ Open (state 10 ∷ [])
unfolding run new_goals gives entries_of_tokens block_at lib.Utf8.encode Rattle.std.specs.Fmt.digits
ten = refl

-- once more: 8,192 nodes
eleven : played (state 0) (codes "rw [h]\nrw [h]\nrw [h]\nrw [h]\nrw [h]\nrw [h]\nrw [h]\nrw [h]\nrw [h]\nrw [h]\nrw [h]\n") ≡ stopped 10 0 (TooLarge Nodes 8192) (state 10 ∷ [])
unfolding run new_goals gives entries_of_tokens block_at lib.Utf8.encode Rattle.std.specs.Fmt.digits
eleven = refl
