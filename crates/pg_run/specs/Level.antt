-- The level of a one-level game: what it is played with, and what a script comes to there.
use Rattle.std.specs.Prelude.{◌≡◌, ℕ, ◌<◌, ◌^◌, Bool, true, false, List, [], ◌∷◌, map, Option, Some, None, codes}
use Rattle.pg_logic.specs.Tree.{nodes_of}
use Rattle.pg_logic.specs.Signature.{fits}
use Rattle.pg_logic.specs.Axioms.{axioms}
use Rattle.pg_logic.specs.Declarations.{Declarations, signature_of}
use Rattle.pg_logic.specs.Sound.{IsTheorem}
use Rattle.pg_logic.specs.Truth.{IsTrueOf}
use Rattle.pg_terms.specs.View.{formula, formulas}
use Rattle.pg_arith.specs.View.{declarations}
use Rattle.pg_worlds.specs.declared.tactic_name.TacticName.{TacticName}
use Rattle.pg_worlds.specs.Worlds.{worlds_of}
use Rattle.pg_worlds.specs.Course as courses
use Rattle.pg_worlds.specs.Inventory.{inventory, least_available}
use Rattle.pg_moves.specs.First.{first_goal}
use Rattle.pg_moves.specs.Goals.{Goal}
use Rattle.pg_moves.specs.Lookup.{Lookup}
use Rattle.pg_moves.specs.Runs.{Outcome, Closed}
use Rattle.pg_attempt.specs.Attempts.{attempted}
use Rattle.pg_run.specs.Game.{Stated, IsGameText}
use Rattle.pg_run.specs.declared.game.Sample.{Sample}
use Rattle.pg_run.specs.declared.game.Sample.TheVariants as sample
use Rattle.pg_run.specs.declared.level.Level.{Level}

abbrev pub has_sample : Sample → Bool
has_sample sample.Rfl = true
has_sample sample.Sorry = false

-- what the level says of moves and theorems; its own statement stands behind the two axioms
abbrev pub items : Sample → List TacticName → courses.Level
items s tactics = record {
  world = 0;
  new_tactics = tactics;
  new_theorems = [];
  own = 2;
  sampled = has_sample s;
  disabled_tactics = [];
  disabled_theorems = [];
  only_tactics = None;
  only_theorems = None;
}

-- one world with this one level
abbrev pub course : Sample → List TacticName → courses.Plan
course s tactics = record { worlds = worlds_of (1 ∷ []) ([] ∷ []); order = 0 ∷ []; levels = items s tactics ∷ [] }

-- nothing is declared
abbrev pub nothing : Declarations
nothing = record { functions = []; predicates = [] }

-- What its player looks up: the axioms, under their names, and what each player has there.
abbrev pub looked : Stated → Lookup
looked g = record {
  declared = nothing;
  theorems = map (λ x. x.says) (axioms nothing);
  names = map (λ x. Some x.name) (axioms nothing);
  available = least_available (course g.sample g.tactics) 0;
}

-- what bytes come to there
abbrev pub played : Stated → List ℕ → Outcome
played g bytes = attempted (looked g) (first_goal [] g.target) bytes

-- the sample wins the level, if there is one
abbrev pub SampleWins : Stated → Type 0
SampleWins g = g.sample ≡ sample.Rfl → played g (codes "rfl") ≡ Closed

-- a text that spells a game whose sample wins
abbrev pub IsGame : List ℕ → Stated → Type 0
IsGame text g = IsGameText text g × SampleWins g

-- the statement is true of the natural numbers
abbrev pub IsTrue : Stated → Type 0
IsTrue g = IsTrueOf (signature_of nothing) [] g.target

-- ---- inside

-- what a level looks up
abbrev pub lookup_in : Level → Lookup
lookup_in l = record {
  declared = declarations l.sig;
  theorems = formulas l.theorems;
  names = l.names.items;
  available = inventory l.available;
}

-- the axioms are theorems
abbrev pub AxiomsHold : Type 0
AxiomsHold = (k : ℕ) → IsTheorem (signature_of nothing) (map (λ x. x.says) (axioms nothing)) k

-- the level of this game
pub record IsLevel (g : Stated) (l : Level) : Type 0 where
  pub axioms : AxiomsHold
  pub binders : l.statement.binders.items ≡ []
  pub target : formula l.statement.target ≡ g.target
  pub sample : l.sample ≡ g.sample
  pub lookup : lookup_in l ≡ looked g

-- it is so, or it is not, as the flag says
abbrev pub Decides : Bool → Type 0 → Type 0
Decides true P = P
Decides false P = P → ⊥

-- its target is closed, and has fewer than 2^29 nodes
pub record CanStand (g : Stated) : Type 0 where
  pub fits : fits (signature_of nothing) 0 0 g.target ≡ true
  pub nodes : nodes_of g.target < 2 ^ 29
