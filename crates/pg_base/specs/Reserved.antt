-- The reserved words: names that name nothing else.
use Rattle.std.specs.Prelude.{ℕ, Bool, false, ◌||◌, List, [], ◌∷◌, codes}
use Rattle.std.specs.Str.{bytes_eq}

abbrev pub is_one_of : List (List ℕ) → List ℕ → Bool
is_one_of [] text = false
is_one_of (word ∷ words) text = bytes_eq text word || is_one_of words text

-- of formulas and scripts
abbrev pub is_kept_word : List ℕ → Bool
is_kept_word = is_one_of (codes "succ" ∷ codes "by" ∷ codes "with" ∷ codes "at" ∷ codes "as" ∷ codes "in" ∷ codes "sorry" ∷ codes "True" ∷ codes "False" ∷ codes "_" ∷ [])

-- commands of a game
abbrev pub is_game_word : List ℕ → Bool
is_game_word = is_one_of (codes "Game" ∷ codes "World" ∷ codes "Level" ∷ codes "Dependency" ∷ codes "Function" ∷ codes "Constant" ∷ codes "Predicate" ∷ [])

-- commands of a level
abbrev pub is_level_word : List ℕ → Bool
is_level_word = is_one_of (codes "Title" ∷ codes "Introduction" ∷ codes "Conclusion" ∷ codes "Statement" ∷ codes "NewTactic" ∷ codes "DisabledTactic" ∷ codes "OnlyTactic" ∷ codes "NewTheorem" ∷ codes "DisabledTheorem" ∷ codes "OnlyTheorem" ∷ [])

-- commands that are passed over
abbrev pub is_passed_word : List ℕ → Bool
is_passed_word = is_one_of (codes "TacticDoc" ∷ codes "TheoremDoc" ∷ codes "DefinitionDoc" ∷ codes "NewDefinition" ∷ codes "TheoremTab" ∷ codes "CaptionShort" ∷ codes "CaptionLong" ∷ codes "Info" ∷ codes "Languages" ∷ codes "Prerequisites" ∷ codes "CoverImage" ∷ codes "MakeGame" ∷ [])

abbrev pub is_reserved : List ℕ → Bool
is_reserved text = is_kept_word text || is_game_word text || is_level_word text || is_passed_word text
