-- One run of the program: how it ends, and what it prints.
use Rattle.std.specs.Prelude.{◌≡◌, ◌⊎◌, ℕ, List, [], ◌∷◌, ◌++◌, Option, Some, None, IsSome, ⊤, codes, string_bytes}
use Rattle.std.specs.Borrow.{Bor}
use Rattle.pg_base.specs.Outside.{GivesFile}
use Rattle.pg_moves.specs.Runs.{Closed}
use Rattle.pg_attempt.specs.Lines.{line, lines_of}
use Rattle.pg_run.specs.Asked.{Connections, ToldDoor, DoorFailed, Asks}
use Rattle.pg_run.specs.Game.{Stated}
use Rattle.pg_run.specs.Level.{IsGame, IsTrue, nothing, played}
use Rattle.pg_run.specs.Print.{Printed}
use Rattle.pg_run.specs.Script.{DoorGave}
use Rattle.pg_run.specs.Words.{game_name}
use Rattle.pg_run.specs.Ending.{text_of, status_of}
use Rattle.pg_run.specs.declared.ending.Ending.{Ending}
use Rattle.pg_run.specs.declared.ending.Ending.TheVariants.{Words, File, OtherGame, Door, Memory, Played}

-- ---- how a run ends

-- The lines tell what a script comes to in the level of a game. Where it wins, the statement is true of the natural numbers.
pub record Tells (g : Stated) (script lines : List ℕ) : Type 0 where
  pub exact : lines ≡ lines_of nothing (played g script)
  pub truth : played g script ≡ Closed → IsTrue g

-- the door gave a script, and these lines tell what it comes to
pub record Plays (g : Stated) (coming : Connections) (lines : List ℕ) : Type 0 where
  pub script : List ℕ
  pub gave : DoorGave coming script
  pub tells : Tells g script lines

-- The door fails only by its cause, and want of memory is free.
abbrev pub PlaysAt : Stated → Connections → Type 0 → Ending → Type 0
PlaysAt g coming door_failed Door = door_failed
PlaysAt g coming door_failed Memory = ⊤
PlaysAt g coming door_failed (Played lines) = Plays g coming (string_bytes lines)
PlaysAt g coming door_failed ending = ⊥

-- the text is a game, and it is played to this ending
pub record EndsGame (text : List ℕ) (coming : Connections) (door_failed : Type 0)
    (ending : Ending) : Type 0 where
  pub stated : Stated
  pub game : IsGame text stated
  pub plays : PlaysAt stated coming door_failed ending

-- how a run with this text ends
abbrev pub EndsText : List ℕ → Connections → Type 0 → Ending → Type 0
EndsText text coming door_failed OtherGame = (g : Stated) → IsGame text g → ⊥
EndsText text coming door_failed Memory = ⊤
EndsText text coming door_failed ending = EndsGame text coming door_failed ending

-- the file that the words name gave a text, and the run with it ends so
pub record EndsFile (words : List (Bor (List ℕ))) (files : Option (List (List ℕ × List ℕ)))
    (coming : Connections) (door_failed : Type 0) (ending : Ending) : Type 0 where
  pub name : List ℕ
  pub named : game_name words ≡ Some name
  pub text : List ℕ
  pub gives : GivesFile files name 1048576 text
  pub ends : EndsText text coming door_failed ending

-- how a run ends
abbrev pub EndsRun : List (Bor (List ℕ)) → Option (List (List ℕ × List ℕ)) → Connections
    → Type 0 → Type 0 → Ending → Type 0
EndsRun words files coming file_failed door_failed Words = game_name words ≡ None
EndsRun words files coming file_failed door_failed (File name) =
    (game_name words ≡ Some name.now) × file_failed
EndsRun words files coming file_failed door_failed Memory = ⊤
EndsRun words files coming file_failed door_failed ending =
    EndsFile words files coming door_failed ending

-- ---- a run

-- a run on these words, with its files, the names that were asked of them, the door and what it wrote, before and after
pub record Runs (words : List (Bor (List ℕ)))
    (files : Option (List (List ℕ × List ℕ))) (names names_now : List (List ℕ)) (file_failed : Type 0)
    (door door_now : ToldDoor)
    (result : ℕ) (written written_now : Option (List ℕ)) (out_failed : Type 0) : Type 0 where
  pub ending : Ending
  pub ends : EndsRun words files door.coming file_failed (DoorFailed door door_now) ending
  pub asks : Asks words names names_now door door_now ending
  -- the lines of that ending, or want of memory
  pub printed : Printed (text_of ending) (status_of ending) result written written_now out_failed
      ⊎ Printed (text_of Memory) 4 result written written_now out_failed

-- ---- where `won` is printed

abbrev pub won_text : List ℕ
won_text = line (codes "won")

-- The words name a game, and the script of the door wins its level: a run of it is closed, and so the statement is true of
-- the natural numbers.
pub record Wins (words : List (Bor (List ℕ))) (files : Option (List (List ℕ × List ℕ)))
    (coming : Connections) : Type 0 where
  pub name : List ℕ
  pub named : game_name words ≡ Some name
  pub text : List ℕ
  pub gives : GivesFile files name 1048576 text
  pub stated : Stated
  pub game : IsGame text stated
  pub script : List ℕ
  pub gave : DoorGave coming script
  pub won : played stated script ≡ Closed
  pub truth : IsTrue stated

-- `won` alone was printed, and the status is 0
pub record PrintsWon (result : ℕ) (old new : Option (List ℕ)) : Type 0 where
  pub before : List ℕ
  pub was : old ≡ Some before
  pub is : new ≡ Some (before ++ won_text)
  pub status : result ≡ 0

-- the door tells its first connection, and the connection what is left to read
abbrev pub TellsScript : Connections → Type 0
TellsScript None = ⊥
TellsScript (Some []) = ⊤
TellsScript (Some (conn ∷ rest)) = IsSome conn.left

-- `won` is printed, or memory ran out, or the files or the door failed
abbrev pub PrintsWonUnless : Type 0 → Type 0
    → ℕ → Option (List ℕ) → Option (List ℕ) → Type 0 → Type 0
PrintsWonUnless file_failed door_failed result old new out_failed =
    Printed won_text 0 result old new out_failed
    ⊎ Printed (text_of Memory) 4 result old new out_failed
    ⊎ file_failed ⊎ door_failed
