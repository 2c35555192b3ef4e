-- What is known of a formula that an expression gives, and the cause by which it stops an act that it gives none.
use Rattle.std.specs.Prelude.{◌≡◌, true, List, [], ◌∷◌, length, map, Option, Some, None, Ok}
use Rattle.std.specs.Borrow.{Bor}
use Rattle.pg_base.specs.Tokens.{Word}
use Rattle.pg_logic.specs.Tree.{Fm}
use Rattle.pg_logic.specs.Declarations.{signature_of}
use Rattle.pg_logic.specs.Kernel.{Pf}
use Rattle.pg_logic.specs.Signature.{fits}
use Rattle.pg_script.specs.Data.{Part}
use Rattle.pg_script.specs.View.{part}
use Rattle.pg_script.specs.declared.item.Piece.{Piece}
use Rattle.pg_terms.specs.View.{formula}
use Rattle.pg_moves.specs.Causes as causes
use Rattle.pg_moves.specs.Causes.{Tried, and_then}
use Rattle.pg_moves.specs.Expressions as moves
use Rattle.pg_moves.specs.Goals.{Goal, live_names, with_hyp}
use Rattle.pg_moves.specs.Lookup.{Lookup, given_name, IsAvailable}
use Rattle.pg_moves.specs.Proofs.{Proves, hyp_formula}
use Rattle.pg_goal.specs.declared.expression.Given.{Given}
use Rattle.pg_goal.specs.declared.expression.ExprFault.{ExprFault}
use Rattle.pg_goal.specs.declared.expression.ExprFault.TheVariants.{NoSuchName, Locked, WrongArgument, TooManyArguments, TooLarge, OutOfMemory}
use Rattle.pg_reduction.specs.declared.cause.ActFault.{ActFault}
use Rattle.pg_reduction.specs.declared.cause.ActFault.TheVariants as act
use Rattle.pg_reduction.specs.View.{cause_of}

-- the part that is lent
abbrev pub lent : Bor Piece → Part
lent p = part p.now

-- The formula fits the goal's variables. The kernel accepts the proof of it in the goal's context, and it names available
-- theorems alone.
pub record IsKnown (l : Lookup) (g : Goal) (a : Fm) (p : Pf) : Type 0 where
  pub fitting : fits (signature_of l.declared) (length g.vars) 0 a ≡ true
  pub proves : Proves (signature_of l.declared) l.theorems (IsAvailable l) (length g.vars) (map hyp_formula g.hyps) a p

-- ---- inside

-- `have h := e`, `have h : A := e`, where the formula is known
abbrev pub had_as : Lookup → Goal → Word → Fm → Tried (List Goal)
had_as l g h a = and_then (given_name l (live_names g) h) (λ n. Ok (with_hyp n a g ∷ []))
