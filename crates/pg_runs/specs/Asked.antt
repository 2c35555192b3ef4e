-- What a run asks of a statement and a script, and what a proof of the statement is.
use Rattle.std.specs.Prelude.{ℕ, ◌<◌, ◌+◌, ◌^◌, [], length, IsTrue}
use Rattle.pg_logic.specs.Declarations.{signature_of}
use Rattle.pg_logic.specs.Kernel.{Pf}
use Rattle.pg_logic.specs.Sound.{IsTheorem}
use Rattle.pg_logic.specs.Truth.{IsTrueOf}
use Rattle.pg_terms.specs.View.{formula}
use Rattle.pg_kernel.specs.Admission.{Accepts}
use Rattle.pg_kernel.specs.Names.{is_named}
use Rattle.pg_script.specs.Data.{Entries}
use Rattle.pg_syntax.specs.declared.statement.Statement.{Statement}
use Rattle.pg_syntax.specs.Statements.{closed, AreFitting, total}
use Rattle.pg_moves.specs.First.{first_vars}
use Rattle.pg_moves.specs.Goals.{Goal}
use Rattle.pg_moves.specs.Lookup.{Lookup, IsAvailable}
use Rattle.pg_moves.specs.Runs.{items_among, parts_among}
use Rattle.pg_runs.specs.State.{IsUsable}
use Rattle.pg_runs.specs.Written.{AreWritten}

-- The look-up can be used, the statement fits what is declared, and the script's tokens have texts of their kinds. Binders and
-- nodes are fewer than 2^29, items fewer than 2^32, and variables and parts fewer than a context may have variables.
pub record CanRun (l : Lookup) (st : Statement) (es : Entries) : Type 0 where
  pub usable : IsUsable l
  pub fits : AreFitting (signature_of l.declared) 0 st.binders.items (formula st.target)
  pub written : AreWritten es
  pub nodes : total st.binders.items (formula st.target) < 2 ^ 29
  pub items : items_among es < 2 ^ 32
  pub vars : length (first_vars st.binders.items) + parts_among es < 4294967295

-- the statement's formula as a goal
abbrev pub asked : Statement → Goal
asked st = record { vars = []; hyps = []; target = closed st.binders.items (formula st.target) }

-- where the theorems that a proof names are true of the natural numbers, the statement is
abbrev pub IsTrueByTheorems : Lookup → Statement → Pf → Type 0
IsTrueByTheorems l st p =
    ((k : ℕ) → IsTrue (is_named k p) → IsTheorem (signature_of l.declared) l.theorems k)
    → IsTrueOf (signature_of l.declared) [] (closed st.binders.items (formula st.target))

-- the kernel accepts the proof of the statement's formula, and it names available theorems alone
pub record IsProof (l : Lookup) (st : Statement) (p : Pf) : Type 0 where
  pub accepted : Accepts (signature_of l.declared) l.theorems p (closed st.binders.items (formula st.target))
  pub available : (k : ℕ) → IsTrue (is_named k p) → IsAvailable l k
