-- The words of the command line.
use Rattle.std.specs.Prelude.{ℕ, Bool, true, false, ◌&&◌, ◌==◌, List, [], ◌∷◌, Option, Some, None, if◌then◌else◌, codes, not}
use Rattle.std.specs.Str.{bytes_eq}
use Rattle.std.specs.Borrow.{Bor}

-- it is not empty and does not begin with `-`
abbrev pub is_file_name : List ℕ → Bool
is_file_name [] = false
is_file_name (b ∷ bs) = if b == 45 then false else true

-- the name of the game's file, where the words are `play` and that name
abbrev pub game_name : List (Bor (List ℕ)) → Option (List ℕ)
game_name (command ∷ name ∷ []) = if bytes_eq command.now (codes "play") && is_file_name name.now then Some name.now else None
game_name words = None
