-- A script that was read can be run.
use Rattle.std.proofs.Common.{◌≡◌, ◌≢◌, ◌≤◌, ◌<◌, ◌+◌, ◌^◌, ℕ, Bool, true, false, List, [], length, map, Result, Ok, Err, IfOk, arith, inl, refl, ap, subst, ◌∙◌, sym as flip, if◌then◌else◌}
use Rattle.std.specs.Str.{IsUtf8, is_utf8}
use Rattle.std.proofs.lemmas.Str.{IsUtf8-from_is_utf8, is_utf8-from_IsUtf8}
use Rattle.pg_moves.specs.Causes.{Syntax}
use Rattle.pg_moves.specs.Goals.{Goal}
use Rattle.pg_moves.specs.Runs as runs
use Rattle.pg_moves.specs.Runs.{run, run_text, run_read, fault_place}
use Rattle.pg_script.specs.Scripts.{script_of}
use Rattle.pg_script.specs.declared.fault.ScriptFault.{ScriptFault}
use Rattle.pg_script.specs.declared.fault.ScriptFault.TheVariants.{OutOfMemory}
use Rattle.pg_runs.specs.Running.{Ends}
use Rattle.pg_runs.specs.declared.running.Outcome.{Outcome}
use Rattle.pg_runs.specs.declared.running.Outcome.TheVariants.{Closed, Unfinished, Stopped}
use Rattle.pg_attempt.specs.Outcomes.{outcome_of, stop_of}
use Rattle.pg_script.specs.Data.{Entry, entries_of}
use Rattle.pg_syntax.specs.declared.statement.Statement.{Statement}
use Rattle.pg_moves.specs.Lookup.{Lookup}
use Rattle.pg_runs.specs.Asked.{CanRun}
use Rattle.pg_runs.specs.Written.{AreRead}
use Rattle.pg_attempt.specs.Attempts.{CanAttempt, attempted, goal, unread}

-- of a statement that can be tried, a script that was read can be run
pub can-run : (l : Lookup) (st : Statement) (es : List Entry) → CanAttempt l st → AreRead es → CanRun l st (entries_of es)
can-run l st es can read = record {
  usable = can.usable;
  fits = can.fits;
  written = read.written;
  nodes = can.nodes;
  items = read.items;
  vars = omega (arith, can.vars, read.parts);
}

-- ---- what bytes come to

-- bytes that are no text can't be read
pub no-text : (l : Lookup) (first : Goal) (bytes : List ℕ) → (IsUtf8 bytes → ⊥) → attempted l first bytes ≡ unread 0
no-text l first bytes none = by-flag (is_utf8 bytes) refl where
  by-flag : (b : Bool) → is_utf8 bytes ≡ b → (if b then run_text l first bytes else unread 0) ≡ unread 0
  by-flag true e = absurd (none (IsUtf8-from_is_utf8 bytes e))
  by-flag false e = refl

-- a text is run as it is read
pub of-text : (l : Lookup) (first : Goal) (text bytes : List ℕ) → text ≡ bytes → IsUtf8 bytes → attempted l first bytes ≡ run_read l first (script_of text false)
unfolding run_text
of-text l first text bytes same utf8 =
    ap (λ b. if b then run_text l first bytes else unread 0) (is_utf8-from_IsUtf8 bytes utf8)
    ∙ ap (λ t. run_read l first (script_of t false)) (flip same)

-- ---- what can't be read ends so

pub ends-unread : (E : Type 0) (l : Lookup) (st : Statement) (at : ℕ) (o : Outcome) → outcome_of o ≡ unread at → Ends {E = E} l st (unread at) (Ok o)
ends-unread E l st at (Closed c) e = cc e
ends-unread E l st at (Unfinished gs) e = cc e
ends-unread E l st at (Stopped s) e =
    let same : stop_of s ≡ record { item = 0; part = 0; cause = Syntax at; goals = [] } = cc e in
    (ap (λ (x : runs.Stop). x.item) (flip same), ap (λ (x : runs.Stop). x.part) (flip same), inl (ap (λ (x : runs.Stop). x.cause) (flip same)), ap (λ (x : runs.Stop). x.goals) (flip same))

-- a script with a fault ends so
pub unreadable-ends : (E : Type 0) (l : Lookup) (st : Statement) (text : List ℕ) (fault : ScriptFault) (r : Result Outcome E)
    → ((fault ≡ OutOfMemory → ⊥) → script_of text false ≡ Err fault) → IfOk r (λ o. (fault ≢ OutOfMemory) × (outcome_of o ≡ unread (fault_place fault)))
    → Ends {E = E} l st (run_read l (goal st) (script_of text false)) r
unreadable-ends E l st text fault (Err e) read told = tt
unreadable-ends E l st text fault (Ok o) read told =
    let P : runs.Outcome → Type 0 = λ want. Ends {E = E} l st want (Ok o) in
    subst P (flip (ap (run_read l (goal st)) (read told.0))) (ends-unread E l st (fault_place fault) o told.1)

-- bytes that are no text end so
pub unread-ends : (E : Type 0) (l : Lookup) (st : Statement) (bytes : List ℕ) (o : Outcome) → (IsUtf8 bytes → ⊥) → outcome_of o ≡ unread 0 → Ends {E = E} l st (attempted l (goal st) bytes) (Ok o)
unread-ends E l st bytes o none is =
    let P : runs.Outcome → Type 0 = λ want. Ends {E = E} l st want (Ok o) in
    subst P (flip (no-text l (goal st) bytes none)) (ends-unread E l st 0 o is)
