-- The meaning of a text token, character by character.
use Rattle.std.specs.Prelude.{ℕ, Bool, true, false, ◌&&◌, ◌||◌, List, [], ◌∷◌, ◌++◌, if◌then◌else◌, ◌==◌}
use Rattle.pg_base.specs.Characters.{character, is_blank}

-- what a `\` and the character behind it stand for; one before another character stays, with the character
abbrev pub escaped : ℕ → List ℕ
escaped c =
    if (c == character "\\") || (c == character "\"") || (c == character "{") then c ∷ []
    else (if c == character "n" then 10 ∷ []
    else (if c == character "t" then 9 ∷ []
    else character "\\" ∷ c ∷ []))

-- A `\` at the end of a line goes away with the line's end and the blanks that follow. The flag says that they are
-- being passed over.
abbrev pub decoded : Bool → List ℕ → List ℕ
decoded passing [] = []
decoded passing (c ∷ []) = if passing && is_blank c then [] else c ∷ []
decoded passing (c ∷ d ∷ cs) =
    if passing && is_blank c then decoded true (d ∷ cs)
    else (if c == character "\\" then (if d == 10 then decoded true cs else escaped d ++ decoded false cs)
    else c ∷ decoded false (d ∷ cs))

-- what a text token means
abbrev pub meaning : List ℕ → List ℕ
meaning cs = decoded false cs

-- ---- a spelling of each text

-- `\` and `"` have a `\` before them
abbrev pub spelling : List ℕ → List ℕ
spelling [] = []
spelling (c ∷ cs) = if (c == character "\\") || (c == character "\"") then character "\\" ∷ c ∷ spelling cs else c ∷ spelling cs
