-- The lines of an outcome tell nothing of a number that may be over its type's end.
use Rattle.std.proofs.Common.{◌≡◌, ◌⊎◌, inl, inr, refl, ap, ◌∙◌, sym as flip, ◌++◌, ◌∷◌, List, ℕ, codes, decimal, Result, Ok, Err}
use Rattle.pg_logic.specs.Declarations.{Declarations}
use Rattle.pg_moves.specs.Causes as causes
use Rattle.pg_moves.specs.Causes.{Cause, Syntax, NoSuchTactic, LockedTactic, NoSuchName, LockedTheorem, SidesDiffer, WrongShape, NoInstance, Undetermined, NameTaken, TooLarge, NoGoal, WrongArgument, NotSame, LeftOpen, TooMany, BarePattern, Nodes, Height, Variables, Hypotheses, State}
use Rattle.pg_moves.specs.Lookup.{Lookup}
use Rattle.pg_moves.specs.Runs as runs
use Rattle.pg_reduction.specs.Limits.{told}
use Rattle.pg_reduction.specs.View.{cause_of}
use Rattle.pg_reduction.specs.declared.cause.Cause as rust
use Rattle.pg_kernel.specs.View.{proof}
use Rattle.pg_syntax.specs.declared.statement.Statement.{Statement}
use Rattle.pg_runs.specs.Running.{Ends, IsTold, IsStop, StopsSo}
use Rattle.pg_runs.specs.declared.running.Outcome.{Outcome}
use Rattle.pg_runs.specs.declared.running.Outcome.TheVariants.{Closed, Unfinished, Stopped}
use Rattle.pg_runs.specs.declared.running.Stop.{Stop}
use Rattle.pg_attempt.specs.Lines.{code, lines_of}
use Rattle.pg_attempt.specs.Outcomes.{outcome_of}
use Rattle.pg_attempt.specs.Attempts.{IsProved}

-- a cause has the code of what is told of it
code-told : (c : Cause) → code (told c) ≡ code c
code-told (Syntax at) = refl
code-told (NoSuchTactic word) = refl
code-told (LockedTactic word) = refl
code-told (NoSuchName at) = refl
code-told (LockedTheorem theorem) = refl
code-told (SidesDiffer lhs rhs) = refl
code-told WrongShape = refl
code-told NoInstance = refl
code-told (Undetermined binder) = refl
code-told (NameTaken name) = refl
code-told (TooLarge Nodes reached) = refl
code-told (TooLarge Height reached) = refl
code-told (TooLarge Variables reached) = refl
code-told (TooLarge Hypotheses reached) = refl
code-told (TooLarge State reached) = refl
code-told NoGoal = refl
code-told (WrongArgument at) = refl
code-told (NotSame found) = refl
code-told (LeftOpen count) = refl
code-told (TooMany count) = refl
code-told BarePattern = refl

same-code : (want : Cause) (c : rust.Cause) → IsTold want c → code (cause_of c) ≡ code want
same-code want c (inl is) = ap code (flip is)
same-code want c (inr is) = ap code (flip is) ∙ code-told want

-- an outcome that ends so has the lines of what is wanted
pub same-lines : (E : Type 0) (d : Declarations) (l : Lookup) (st : Statement) (want : runs.Outcome) (o : Outcome) → Ends {E = E} l st want (Ok o) → lines_of d (outcome_of o) ≡ lines_of d want
same-lines E d l st want (Closed c) h = ap (lines_of d) (flip h.0)
same-lines E d l st want (Unfinished gs) h = ap (lines_of d) (flip h)
same-lines E d l st (runs.Stopped w) (Stopped s) h =
    let code-same : code (cause_of s.cause) ≡ code w.cause = same-code w.cause s.cause h.2 in
    cc (h.0, h.1, code-same)
same-lines E d l st runs.Closed (Stopped s) h = absurd h
same-lines E d l st (runs.Open gs) (Stopped s) h = absurd h

-- what ends closed has a proof
pub proved : (E : Type 0) (l : Lookup) (st : Statement) (want : runs.Outcome) (o : Outcome) → Ends {E = E} l st want (Ok o) → want ≡ runs.Closed → IsProved l st
proved E l st want (Closed c) h closed = record { proof = proof c.1; accepted = h.2; truth = h.3 }
proved E l st want (Unfinished gs) h closed = absurd (cc (h, closed))
proved E l st runs.Closed (Stopped s) h closed = absurd h
proved E l st (runs.Open gs) (Stopped s) h closed = absurd h
proved E l st (runs.Stopped w) (Stopped s) h closed = absurd (cc closed)
