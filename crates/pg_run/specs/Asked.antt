-- What a run asks of the files and the door, and what it does to the door's connections.
use Rattle.std.specs.Prelude.{◌≡◌, ◌⊎◌, ◌≤◌, ℕ, List, [], ◌∷◌, ◌++◌, drop, Option, Some, None, Result, Ok, Err, ⊤}
use Rattle.std.specs.Borrow.{Bor}
use Rattle.pg_base.specs.Calls.{next_number}
use Rattle.pg_base.specs.Outside.{Rose, Told}
use Rattle.pg_base.specs.declared.outside.Counts.{Counts}
use Rattle.pg_base.specs.declared.outside.OutFault.{OutFault}
use Rattle.pg_base.specs.declared.outside.OutFault.TheVariants.{Failed, OutOfMemory}
use Rattle.pg_base.specs.declared.outside.Place.{Place}
use Rattle.pg_base.specs.declared.outside.Place.TheVariants.{Standard}
use Rattle.pg_run.specs.Words.{game_name}
use Rattle.pg_run.specs.declared.ending.Ending.{Ending}
use Rattle.pg_run.specs.declared.ending.Ending.TheVariants.{Words, File, OtherGame, Door, Memory, Played}

-- ---- a door

-- connections of a door, where it tells them
abbrev pub Connections : Type 0
Connections = Option (List Told)

-- a door as it tells itself
pub record ToldDoor : Type 0 where
  pub coming : Connections
  pub finished : Connections
  pub places : List Place
  pub given : Counts
  pub ended : Counts
  pub faults : ℕ

-- a door by what its members tell
abbrev pub told_door : {D : Type 0} → (D → Connections) → (D → Connections) → (D → List Place) → (D → Counts) → (D → Counts) → (D → ℕ)
    → D → ToldDoor
told_door coming finished places given ended faults door = record {
  coming = coming door;
  finished = finished door;
  places = places door;
  given = given door;
  ended = ended door;
  faults = faults door;
}

-- a connection was given and finished, and its count for reads rose in between
pub record OwnCountRose (old new : ToldDoor) : Type 0 where
  pub gave : new.given.connections ≡ next_number old.given.connections
  pub finished : new.ended.connections ≡ next_number old.ended.connections
  pub rose : Rose new.given.read_faults new.ended.read_faults

-- the door's count rose, or that of the connection that it gave
abbrev pub DoorFailed : ToldDoor → ToldDoor → Type 0
DoorFailed old new = Rose old.faults new.faults ⊎ OwnCountRose old new

-- ---- its connections

-- what is left of a connection, before and after, where it is told
abbrev pub Leaves : Type 1
Leaves = Option (List ℕ) → Option (List ℕ) → Type 0

-- what stands behind a script's limit and one byte more
abbrev pub LeavesBehind : Leaves
LeavesBehind None new = ⊤
LeavesBehind (Some all) new = new ≡ Some (drop 16385 all)

-- what stands behind some bytes, no more than these
abbrev pub LeavesPart : Leaves
LeavesPart None new = ⊤
LeavesPart (Some all) new = (n : ℕ) × (n ≤ 16385) × (new ≡ Some (drop n all))

-- a connection that was read from so far, and not written to
pub record IsOnlyRead (SoFar : Leaves) (old new : Told) : Type 0 where
  pub left : SoFar old.left new.left
  pub written : new.written ≡ old.written
  pub write_faults : new.write_faults ≡ old.write_faults

-- a connection came to the end of the finished ones, only read from
abbrev pub Finishes : Leaves → Told → Connections → Connections → Type 0
Finishes SoFar conn None finished = ⊤
Finishes SoFar conn (Some all) finished =
    (read : Told) × IsOnlyRead SoFar conn read × (finished ≡ Some (all ++ read ∷ []))

-- the first connection to come, where there is one, was only read from and finished
abbrev pub FinishesFirst : Leaves → Connections → ToldDoor → ToldDoor → Type 0
FinishesFirst SoFar None old new = ⊤
FinishesFirst SoFar (Some []) old new = (new.coming ≡ Some []) × (new.finished ≡ old.finished)
FinishesFirst SoFar (Some (conn ∷ rest)) old new =
    (new.coming ≡ Some rest) × Finishes SoFar conn old.finished new.finished

-- ---- how far a run went

-- the door tells the same of its places and connections
pub record IsUntouched (old new : ToldDoor) : Type 0 where
  pub places : new.places ≡ old.places
  pub coming : new.coming ≡ old.coming
  pub finished : new.finished ≡ old.finished
  pub given : new.given ≡ old.given
  pub ended : new.ended ≡ old.ended

-- one thing more was asked for
abbrev pub OneMore : {X : Type 0} → List X → List X → X → Type 0
OneMore old new x = new ≡ old ++ x ∷ []

-- the connections to come and the finished ones are as before
abbrev pub KeepsLists : ToldDoor → ToldDoor → Type 0
KeepsLists old new = (new.coming ≡ old.coming) × (new.finished ≡ old.finished)

-- The door was started at standard input and output. Then its first connection was read from and finished, or none
-- was given yet.
pub record StartsDoor (old new : ToldDoor) : Type 0 where
  pub place : OneMore old.places new.places Standard
  pub lists : KeepsLists old new ⊎ FinishesFirst LeavesPart old.coming old new

-- The door was started at standard input and output, and its first connection read as far as a script reaches.
pub record ReadsDoor (old new : ToldDoor) : Type 0 where
  pub place : OneMore old.places new.places Standard
  pub lists : FinishesFirst LeavesBehind old.coming old new

-- what taking a script from the door does
abbrev pub UsesDoor : {T : Type 0} → ToldDoor → ToldDoor → Result T OutFault → Type 0
UsesDoor old new (Ok x) = ReadsDoor old new
UsesDoor old new (Err Failed) = StartsDoor old new
UsesDoor old new (Err OutOfMemory) = IsUntouched old new ⊎ StartsDoor old new

-- what a run that ends so does to the door
abbrev pub UsesDoorAt : ToldDoor → ToldDoor → Ending → Type 0
UsesDoorAt old new Words = IsUntouched old new
UsesDoorAt old new (File name) = IsUntouched old new
UsesDoorAt old new OtherGame = IsUntouched old new
UsesDoorAt old new Memory = IsUntouched old new ⊎ StartsDoor old new
UsesDoorAt old new Door = StartsDoor old new
UsesDoorAt old new ending = ReadsDoor old new

-- the file of the words was asked for
pub record AsksFile (words : List (Bor (List ℕ))) (old new : List (List ℕ)) : Type 0 where
  pub name : List ℕ
  pub named : game_name words ≡ Some name
  pub asked : OneMore old new name

-- nothing was asked for
pub record AsksNothing (names names_now : List (List ℕ)) (door door_now : ToldDoor) : Type 0 where
  pub names_same : names_now ≡ names
  pub door_same : IsUntouched door door_now

-- the file of the words was asked for, and then the door was used as this ending asks
pub record AsksFirst (words : List (Bor (List ℕ))) (names names_now : List (List ℕ)) (door door_now : ToldDoor) (ending : Ending) : Type 0 where
  pub file : AsksFile words names names_now
  pub uses : UsesDoorAt door door_now ending

-- What a run that ends so asks for: the file, the door's place, its connection, one after the other. Where memory ran
-- out, it came so far as it came: what it asked for is the front of this.
abbrev pub Asks : List (Bor (List ℕ)) → List (List ℕ) → List (List ℕ) → ToldDoor → ToldDoor → Ending → Type 0
Asks words names names_now door door_now Words = AsksNothing names names_now door door_now
Asks words names names_now door door_now Memory =
    AsksNothing names names_now door door_now ⊎ AsksFirst words names names_now door door_now Memory
Asks words names names_now door door_now ending = AsksFirst words names names_now door door_now ending
