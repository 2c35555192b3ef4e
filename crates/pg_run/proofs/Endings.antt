-- How the run with a text ends is how the run that read the text ends.
use Rattle.std.proofs.Common.{◌≡◌, ℕ, List, [], ◌∷◌, Option, Some, None, inr, arith}
use Rattle.std.specs.Borrow.{Bor}
use Rattle.pg_base.specs.Outside.{GivesFile, Told}
use Rattle.pg_run.specs.Asked.{Connections, ToldDoor, LeavesBehind, LeavesPart, Finishes, FinishesFirst, OneMore, StartsDoor, ReadsDoor, UsesDoorAt, Asks}
use Rattle.pg_run.specs.Words.{game_name}
use Rattle.pg_run.specs.declared.ending.Ending.{Ending}
use Rattle.pg_run.specs.declared.ending.Ending.TheVariants.{Words, File, OtherGame, Door, Memory, Played}
use Rattle.pg_run.specs.Game.{Stated}
use Rattle.pg_run.specs.Level.{IsGame}
use Rattle.pg_run.specs.Run.{PlaysAt, EndsText, EndsRun}

pub ends-text : (words : List (Bor (List ℕ))) (files : Option (List (List ℕ × List ℕ))) (coming : Option (List Told)) (file_failed door_failed : Type 0) (ending : Ending) (name text : List ℕ)
    → game_name words ≡ Some name → GivesFile files name 1048576 text → EndsText text coming door_failed ending → EndsRun words files coming file_failed door_failed ending
ends-text words files coming file_failed door_failed Words name text named gives h = absurd h.plays
ends-text words files coming file_failed door_failed (File other) name text named gives h = absurd h.plays
ends-text words files coming file_failed door_failed Memory name text named gives h = tt
ends-text words files coming file_failed door_failed OtherGame name text named gives h = record { name = name; named = named; text = text; gives = gives; ends = h }
ends-text words files coming file_failed door_failed Door name text named gives h = record { name = name; named = named; text = text; gives = gives; ends = h }
ends-text words files coming file_failed door_failed (Played lines) name text named gives h = record { name = name; named = named; text = text; gives = gives; ends = h }

-- a game that is played so ends so
pub plays-ends : (text : List ℕ) (coming : Option (List Told)) (door_failed : Type 0) (ending : Ending) (g : Stated) → IsGame text g → PlaysAt g coming door_failed ending → EndsText text coming door_failed ending
plays-ends text coming door_failed Words g game h = absurd h
plays-ends text coming door_failed (File name) g game h = absurd h
plays-ends text coming door_failed OtherGame g game h = absurd h
plays-ends text coming door_failed Memory g game h = tt
plays-ends text coming door_failed Door g game h = record { stated = g; game = game; plays = h }
plays-ends text coming door_failed (Played lines) g game h = record { stated = g; game = game; plays = h }

-- What was read as far as a script reaches was read so far as it was.
behind-part : (old now : Option (List ℕ)) → LeavesBehind old now → LeavesPart old now
behind-part None now h = tt
behind-part (Some all) now h = (16385, omega arith, h)

finishes-part : (conn : Told) (all finished : Connections) → Finishes LeavesBehind conn all finished → Finishes LeavesPart conn all finished
finishes-part conn None finished h = tt
finishes-part conn (Some all) finished h = (h.0, record { left = behind-part conn.left h.0.left h.1.left; written = h.1.written; write_faults = h.1.write_faults }, h.2)

first-part : (coming : Connections) (old new : ToldDoor) → FinishesFirst LeavesBehind coming old new → FinishesFirst LeavesPart coming old new
first-part None old new h = tt
first-part (Some []) old new h = h
first-part (Some (conn ∷ rest)) old new h = (h.0, finishes-part conn old.finished new.finished h.1)

pub reads-starts : (old new : ToldDoor) → ReadsDoor old new → StartsDoor old new
reads-starts old new h = record { place = h.place; lists = inr (first-part old.coming old new h.lists) }

-- what is asked for with the text is what is asked for after the file
pub asks-text : (words : List (Bor (List ℕ))) (coming : Option (List Told)) (door_failed : Type 0) (names names_now : List (List ℕ)) (door door_now : ToldDoor) (ending : Ending)
    (name text : List ℕ) → game_name words ≡ Some name → OneMore names names_now name → EndsText text coming door_failed ending
    → UsesDoorAt door door_now ending → Asks words names names_now door door_now ending
asks-text words coming door_failed names names_now door door_now Words name text named asked h uses = absurd h.plays
asks-text words coming door_failed names names_now door door_now (File other) name text named asked h uses = absurd h.plays
asks-text words coming door_failed names names_now door door_now Memory name text named asked h uses =
    inr (record { file = record { name = name; named = named; asked = asked }; uses = uses })
asks-text words coming door_failed names names_now door door_now OtherGame name text named asked h uses = record { file = record { name = name; named = named; asked = asked }; uses = uses }
asks-text words coming door_failed names names_now door door_now Door name text named asked h uses = record { file = record { name = name; named = named; asked = asked }; uses = uses }
asks-text words coming door_failed names names_now door door_now (Played lines) name text named asked h uses = record { file = record { name = name; named = named; asked = asked }; uses = uses }
