-- What moves look up: what is declared, the theorems of the game with their names, and what is available.
use Rattle.std.specs.Prelude.{ℕ, ◌≡◌, true, List, [], ◌∷◌, ◌++◌, position, Option, Ok, Err, if◌then◌else◌}
use Rattle.pg_base.specs.Tokens.{Word}
use Rattle.pg_logic.specs.Tree.{Fm}
use Rattle.pg_logic.specs.Declarations.{Name, Declarations}
use Rattle.pg_worlds.specs.Inventory.{Inventory}
use Rattle.pg_meaning.specs.Scope.{is_called}
use Rattle.pg_spelling.specs.Fresh.{is_taken, fresh}
use Rattle.pg_spelling.specs.Named.{declared_names}
use Rattle.pg_moves.specs.Causes.{Tried, NameTaken}

-- theorems and their names by number; None: it has no name
pub record Lookup : Type 0 where
  pub declared : Declarations
  pub theorems : List Fm
  pub names : List (Option Name)
  pub available : Inventory

-- the number of the theorem of a name
abbrev pub theorem_named : Lookup → Name → Option ℕ
theorem_named l x = position (is_called x) l.names

-- theorem k is available
abbrev pub IsAvailable : Lookup → ℕ → Type 0
IsAvailable l k = l.available.theorem k ≡ true

-- ---- new names

-- what a new name may not be, besides a reserved word, where these are in use
abbrev pub kept_names : Lookup → List Name → List Name
kept_names l used = used ++ declared_names l.declared

-- a name that is given stays, if it is free
abbrev pub given_name : Lookup → List Name → Word → Tried Name
given_name l used w = if is_taken (kept_names l used) w.text then Err (NameTaken w.text) else Ok w.text

-- the first of the given names, or else a default made fresh
abbrev pub new_name : Lookup → List Name → List Word → Name → Tried Name
new_name l used [] default = Ok (fresh (kept_names l used) default)
new_name l used (w ∷ ws) default = given_name l used w
