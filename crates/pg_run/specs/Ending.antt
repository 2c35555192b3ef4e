-- The lines that a run prints and its status, by how it ends.
use Rattle.std.specs.Prelude.{ℕ, List, ◌++◌, codes, string_bytes}
use Rattle.pg_attempt.specs.Lines.{line}
use Rattle.pg_run.specs.declared.ending.Ending.{Ending}
use Rattle.pg_run.specs.declared.ending.Ending.TheVariants.{Words, File, OtherGame, Door, Memory, Played}

abbrev pub file_text : List ℕ → List ℕ
file_text name = line (codes "file " ++ name)

abbrev pub text_of : Ending → List ℕ
text_of Words = line (codes "words")
text_of (File name) = file_text name.now
text_of OtherGame = line (codes "game later")
text_of Door = line (codes "door")
text_of Memory = line (codes "memory")
text_of (Played lines) = string_bytes lines

abbrev pub status_of : Ending → ℕ
status_of Words = 1
status_of OtherGame = 2
status_of (File name) = 3
status_of Memory = 4
status_of Door = 8
status_of ending = 0
