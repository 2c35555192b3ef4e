-- A run: what a script makes of the first goal of a statement.
use Rattle.std.specs.Prelude.{ℕ, zero, suc, ◌+◌, List, [], ◌∷◌, length, false, Ok, Err, Result}
use Rattle.pg_script.specs.declared.fault.ScriptFault.{ScriptFault}
use Rattle.pg_script.specs.declared.fault.ScriptFault.TheVariants as fault
use Rattle.pg_script.specs.Data.{Step, Entry, move, focus, branch, hint, Entries, none, entry, entries_of}
use Rattle.pg_script.specs.Blocks.{steps_of}
use Rattle.pg_script.specs.Lines.{Read}
use Rattle.pg_script.specs.Scripts.{script_of, lex_place}
use Rattle.pg_moves.specs.Goals.{Goal}
use Rattle.pg_moves.specs.Causes.{Cause, Syntax, NoGoal, LeftOpen, Tried, and_then}
use Rattle.pg_moves.specs.Lookup.{Lookup}
use Rattle.pg_moves.specs.Steps.{step}

-- where a run stops, and why: the item and its part, and the goals of the innermost block before that part
pub record Stop : Type 0 where
  pub item : ℕ
  pub part : ℕ
  pub cause : Cause
  pub goals : List Goal

-- the goals of a block after some of its items
abbrev pub Ran : Type 0
Ran = Result (List Goal) Stop

-- a stop of this cause at a part of an item
abbrev pub stop : (item part : ℕ) → List Goal → Cause → Ran
stop item part gs cause = Err (record { item = item; part = part; cause = cause; goals = gs })

-- ---- the numbers of items: in preorder

abbrev mutual
  pub items_in : Entry → ℕ
  items_in (move m) = 1
  items_in (focus es) = items_among es + 1
  items_in (branch es) = items_among es + 1
  items_in (hint h) = 1

  pub items_among : Entries → ℕ
  items_among none = 0
  items_among (entry e es) = items_in e + items_among es

-- how many parts the moves in an item, in items, have
abbrev mutual
  pub parts_in : Entry → ℕ
  parts_in (move m) = steps_of m.shape
  parts_in (focus es) = parts_among es
  parts_in (branch es) = parts_among es
  parts_in (hint h) = 0

  pub parts_among : Entries → ℕ
  parts_among none = 0
  parts_among (entry e es) = parts_in e + parts_among es

-- ---- items

-- what comes behind a part that was tried
abbrev pub after_part : (item part : ℕ) → List Goal → (List Goal → Ran) → Tried (List Goal) → Ran
after_part item part gs more (Ok next) = more next
after_part item part gs more (Err cause) = stop item part gs cause

-- so many parts of a move, from this one on
abbrev pub run_parts : Lookup → (item : ℕ) → Step → (count part : ℕ) → List Goal → Ran
run_parts l item m zero part gs = Ok gs
run_parts l item m (suc n) part gs = after_part item part gs (run_parts l item m n (part + 1)) (step l gs m part)

-- behind a bullet's block, which has to close its goal
abbrev pub after_focus : (item : ℕ) → (gs rest : List Goal) → Ran → Ran
after_focus item gs rest (Ok []) = Ok rest
after_focus item gs rest (Ok (g ∷ left)) = stop item 0 gs (LeftOpen (length (g ∷ left)))
after_focus item gs rest (Err s) = Err s

-- a bullet takes the first goal alone
abbrev pub focused : (item : ℕ) → (List Goal → Ran) → List Goal → Ran
focused item inner [] = stop item 0 [] NoGoal
focused item inner (g ∷ rest) = after_focus item (g ∷ rest) rest (inner (g ∷ []))

-- a branch leaves the goals; a stop in it is one of the whole
abbrev pub branched : List Goal → Ran → Ran
branched gs (Ok left) = Ok gs
branched gs (Err s) = Err s

-- a hint takes the first goal, and leaves all goals
abbrev pub hinted : (item : ℕ) → List Goal → Ran
hinted item [] = stop item 0 [] NoGoal
hinted item (g ∷ rest) = Ok (g ∷ rest)

-- an item of this number, and items from this number on
abbrev mutual
  pub run_item : Lookup → Entry → (item : ℕ) → List Goal → Ran
  run_item l (move m) item gs = run_parts l item m (steps_of m.shape) 0 gs
  run_item l (focus es) item gs = focused item (run_items l es (item + 1)) gs
  run_item l (branch es) item gs = branched gs (run_items l es (item + 1) gs)
  run_item l (hint h) item gs = hinted item gs

  pub run_items : Lookup → Entries → (item : ℕ) → List Goal → Ran
  run_items l none item gs = Ok gs
  run_items l (entry e es) item gs = and_then (run_item l e item gs) (run_items l es (item + items_in e))

-- ---- the whole

-- no goal is left; these goals are; or a stop
pub data Outcome : Type 0 where
  Closed : Outcome
  Open : List Goal → Outcome
  Stopped : Stop → Outcome

-- what a run of all items comes to
abbrev pub outcome : Ran → Outcome
outcome (Ok []) = Closed
outcome (Ok (g ∷ gs)) = Open (g ∷ gs)
outcome (Err s) = Stopped s

-- a script of these items, from this goal
unfoldable pub run : Lookup → Goal → List Entry → Outcome
run l first items = outcome (run_items l (entries_of items) 0 (first ∷ []))

-- where a script that can't be read has its fault
abbrev pub fault_place : ScriptFault → ℕ
fault_place (fault.TooLong at) = at
fault_place (fault.Lex e) = lex_place e
fault_place (fault.Expected at what) = at
fault_place (fault.TooMany at) = at
fault_place (fault.Deep at) = at
fault_place fault.OutOfMemory = 0

-- a script that was read, or that cannot be read
abbrev pub run_read : Lookup → Goal → Read (List Entry) → Outcome
run_read l first (Ok items) = run l first items
run_read l first (Err e) = Stopped (record { item = 0; part = 0; cause = Syntax (fault_place e); goals = [] })

-- a player's text, from this goal
unfoldable pub run_text : Lookup → Goal → List ℕ → Outcome
run_text l first text = run_read l first (script_of text false)
