-- What is read of a statement's binders so far.
use Rattle.std.specs.Prelude.{◌≡◌, Bool, ◌&&◌, List, [], ◌∷◌, ◌++◌, map, Option, Some, None, is_none}
use Rattle.pg_logic.specs.Declarations.{Name}
use Rattle.pg_gametext.specs.Faults as text
use Rattle.pg_gametext.specs.Forms.{BinderText, variables, hypothesis}
use Rattle.pg_gametext.specs.Reading.{HalfRead, Binder, binder, texts}
use Rattle.pg_faults.specs.View.{found, sooner}
use Rattle.pg_states.specs.declared.draft.Draft.{Draft}

-- the names of the variables that are not dead
abbrev pub live : List (Option Name) → List Name
live [] = []
live (None ∷ xs) = live xs
live (Some x ∷ xs) = x ∷ live xs

abbrev pub variables_of : Draft → List Name
variables_of s = live s.names.vars.items

-- no variable is dead
abbrev pub AreLive : Draft → Type 0
AreLive s = map Some (variables_of s) ≡ s.names.vars.items

abbrev pub vars_behind : List Name → BinderText → List Name
vars_behind vars (variables ws) = vars ++ texts ws
vars_behind vars (hypothesis h p) = vars

-- the variables, the binders that are read, the first fault of the others, and whether there are none
pub record Known : Type 0 where
  pub vars : List Name
  pub binders : List Binder
  pub first : Option text.Fault
  pub whole : Bool

-- what is known of these binders and this first fault, with more behind them
abbrev pub known : List Binder → Option text.Fault → HalfRead → Known
known bs first h = record { vars = h.vars; binders = bs ++ h.binders; first = sooner first (text.least h.faults); whole = is_none first && h.whole }

-- what is known with more behind what is drafted
abbrev pub with_rest : Draft → HalfRead → Known
with_rest s h = known (map binder s.binders.items) (found s.first) h

-- the draft is what these binders give
abbrev pub IsDraftOf : HalfRead → Draft → Type 0
IsDraftOf h s = AreLive s × (known [] None h ≡ record { vars = variables_of s; binders = map binder s.binders.items; first = found s.first; whole = is_none (found s.first) })
