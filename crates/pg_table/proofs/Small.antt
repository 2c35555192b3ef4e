-- The formulas of a goal are small, one by one.
use Rattle.std.proofs.Common.{Option, Some, None, Bor, ◌≢◌, ◌<◌, ◌^◌, List, [], ◌∷◌, ◌++◌, map, arith}
use Rattle.std.specs.Prelude.{All, IfSome, option_map}
use Rattle.std.specs.List.{AllByRecursion}
use Rattle.std.proofs.lemmas.List.Elements.{All-from_recursion, recursion_from_All}
use Rattle.pg_base.specs.Spans.{IsTokenText}
use Rattle.pg_base.specs.Tokens.{Word}
use Rattle.pg_base.specs.declared.token.Token.{Token}
use Rattle.pg_logic.specs.Tree.{Fm, nodes_of}
use Rattle.pg_script.specs.Data.{Part}
use Rattle.pg_script.specs.View.{part, words}
use Rattle.pg_script.specs.declared.item.Piece.{Piece}
use Rattle.pg_runs.specs.Written.{IsNamed, AreNamed, HasTexts, Maybe}
use Rattle.pg_acts.specs.Giving.{lent}
use Rattle.pg_terms.specs.View.{formula}
use Rattle.pg_moves.specs.Goals.{Hyp}
use Rattle.pg_moves.specs.Measures.{formulas}
use Rattle.pg_goal.specs.View.{goal_of, hyp_of}
use Rattle.pg_goal.specs.declared.goal.Goal as goals
use Rattle.pg_goal.specs.declared.goal.Hyp as hyps
use Rattle.pg_reduction.specs.Limits.{hyp_formula}
use Rattle.pg_inducts.specs.Carrying.{IsSmall, MayDouble}

abbrev IsBounded : Fm → Type 0
IsBounded a = nodes_of a < 2 ^ 29

double-all : (hs : List hyps.Hyp) (t : Fm) → AllByRecursion IsBounded (map (λ (h : Hyp). h.formula) (map hyp_of hs) ++ t ∷ []) → AllByRecursion MayDouble (map hyp_formula hs) × MayDouble t
double-all [] t b = (tt, omega (arith, b.0))
double-all (h ∷ hs) t b = let q = double-all hs t b.1 in ((omega (arith, b.0), q.0), q.1)

small-all : (fs : List Fm) → AllByRecursion MayDouble fs → AllByRecursion IsSmall fs
small-all [] b = tt
small-all (a ∷ more) b = (omega (arith, b.0), small-all more b.1)

doubles : (g : goals.Goal) → All IsBounded (formulas (goal_of g)) → AllByRecursion MayDouble (map hyp_formula g.hyps) × MayDouble (formula g.target)
doubles g b = double-all g.hyps (formula g.target) (recursion_from_All IsBounded (formulas (goal_of g)) b)

pub double_hyps : (g : goals.Goal) → All (λ a. nodes_of a < 2 ^ 29) (formulas (goal_of g)) → All MayDouble (map hyp_formula g.hyps)
double_hyps g b = All-from_recursion MayDouble (map hyp_formula g.hyps) (doubles g b).0

pub double_target : (g : goals.Goal) → All (λ a. nodes_of a < 2 ^ 29) (formulas (goal_of g)) → MayDouble (formula g.target)
double_target g b = (doubles g b).1

pub small_hyps : (g : goals.Goal) → All (λ a. nodes_of a < 2 ^ 29) (formulas (goal_of g)) → All IsSmall (map hyp_formula g.hyps)
small_hyps g b = All-from_recursion IsSmall (map hyp_formula g.hyps) (small-all (map hyp_formula g.hyps) (doubles g b).0)

pub small_target : (g : goals.Goal) → All (λ a. nodes_of a < 2 ^ 29) (formulas (goal_of g)) → IsSmall (formula g.target)
small_target g b = let q = (doubles g b).1 in omega (arith, q)

-- ---- names

-- none of the tokens is empty
pub named : (ts : List Token) → AreNamed (words ts) → All (λ (t : Token). t.text.now ≢ []) ts
named ts h = All-from_recursion (λ (t : Token). t.text.now ≢ []) ts (go ts (recursion_from_All IsNamed (words ts) h))
  where
    go : (ts : List Token) → AllByRecursion IsNamed (words ts) → AllByRecursion (λ (t : Token). t.text.now ≢ []) ts
    go [] h = tt
    go (t ∷ ts) h = (h.0, go ts h.1)

-- ---- texts

-- the tokens of a part have texts of their kinds
pub texts : (p : Part) → HasTexts p → All (λ (w : Word). IsTokenText w.kind w.text) p.tokens
texts p h = h 0 p (omega arith)

pub if_texts : (o : Option (Bor Piece)) → Maybe HasTexts (option_map lent o) → IfSome o (λ p. All (λ (w : Word). IsTokenText w.kind w.text) (lent p).tokens)
if_texts None h = tt
if_texts (Some p) h = texts (part p.now) h
