-- What a player's bytes come to on a statement.
use Rattle.std.specs.Prelude.{ℕ, ◌<◌, ◌+◌, ◌^◌, List, [], length, if◌then◌else◌}
use Rattle.std.specs.Str.{is_utf8}
use Rattle.pg_logic.specs.Declarations.{signature_of}
use Rattle.pg_terms.specs.View.{formula}
use Rattle.pg_syntax.specs.declared.statement.Statement.{Statement}
use Rattle.pg_syntax.specs.Statements.{AreFitting, total}
use Rattle.pg_moves.specs.Causes.{Syntax}
use Rattle.pg_moves.specs.First.{first_vars, first_goal}
use Rattle.pg_moves.specs.Goals.{Goal}
use Rattle.pg_moves.specs.Lookup.{Lookup}
use Rattle.pg_moves.specs.Runs.{Outcome, Stopped, run_text}
use Rattle.pg_logic.specs.Kernel.{Pf}
use Rattle.pg_runs.specs.Asked.{IsProof, IsTrueByTheorems}
use Rattle.pg_runs.specs.State.{IsUsable}

-- a script that can't be read, by its fault at this byte
abbrev pub unread : (at : ℕ) → Outcome
unread at = Stopped (record { item = 0; part = 0; cause = Syntax at; goals = [] })

-- a player's bytes, from this goal: as a script, where they are a text
abbrev pub attempted : Lookup → Goal → List ℕ → Outcome
attempted l first bytes = if is_utf8 bytes then run_text l first bytes else unread 0

-- the first goal of a statement
abbrev pub goal : Statement → Goal
goal st = first_goal st.binders.items (formula st.target)

-- The look-up can be used, and the statement fits what is declared. Its nodes and binders are fewer than 2^29, and
-- with the 200 parts of a script its variables fewer than a context may have.
pub record CanAttempt (l : Lookup) (st : Statement) : Type 0 where
  pub usable : IsUsable l
  pub fits : AreFitting (signature_of l.declared) 0 st.binders.items (formula st.target)
  pub nodes : total st.binders.items (formula st.target) < 2 ^ 29
  pub vars : length (first_vars st.binders.items) + 200 < 4294967295

-- The kernel accepts a proof of the statement's formula, which names available theorems alone. Where these are true of the
-- natural numbers, the statement is.
pub record IsProved (l : Lookup) (st : Statement) : Type 0 where
  pub proof : Pf
  pub accepted : IsProof l st proof
  pub truth : IsTrueByTheorems l st proof
