-- The signs and their spellings.
use Rattle.std.specs.Prelude.{ℕ, Bool, ◌&&◌, List, [], ◌∷◌, Option, Some, None, if◌then◌else◌, ◌==◌, codes}
use Rattle.std.specs.Str.{bytes_eq}
use Rattle.pg_base.specs.Characters.{character}
use Rattle.pg_base.specs.declared.token.Sign.{Sign}
use Rattle.pg_base.specs.declared.token.Sign.TheVariants.{OpenParen, CloseParen, OpenBracket, CloseBracket, Comma, Semicolon, Colon, Assign, Bar, Plus, Star, Caret, Equal, NotEqual, LessEqual, Less, And, Or, Arrow, LeftArrow, Not, ForAll, Exists, Nat, Bullet}

-- signs of one character
abbrev pub one_character_signs : List (ℕ × Sign)
one_character_signs =
    (character "(", OpenParen)
    ∷ (character ")", CloseParen)
    ∷ (character "[", OpenBracket)
    ∷ (character "]", CloseBracket)
    ∷ (character ",", Comma)
    ∷ (character ";", Semicolon)
    ∷ (character ":", Colon)
    ∷ (character "|", Bar)
    ∷ (character "+", Plus)
    ∷ (character "*", Star)
    ∷ (character "^", Caret)
    ∷ (character "=", Equal)
    ∷ (character "≠", NotEqual)
    ∷ (character "≤", LessEqual)
    ∷ (character "<", Less)
    ∷ (character "∧", And)
    ∷ (character "∨", Or)
    ∷ (character "→", Arrow)
    ∷ (character "←", LeftArrow)
    ∷ (character "¬", Not)
    ∷ (character "∀", ForAll)
    ∷ (character "∃", Exists)
    ∷ (character "ℕ", Nat)
    ∷ (character "·", Bullet)
    ∷ []

-- signs of two characters
abbrev pub two_character_signs : List ((ℕ × ℕ) × Sign)
two_character_signs =
    ((character ":", character "="), Assign)
    ∷ ((character "!", character "="), NotEqual)
    ∷ ((character "<", character "="), LessEqual)
    ∷ ((character "/", character "\\"), And)
    ∷ ((character "\\", character "/"), Or)
    ∷ ((character "-", character ">"), Arrow)
    ∷ ((character "<", character "-"), LeftArrow)
    ∷ []

-- names that are signs
abbrev pub sign_names : List (List ℕ × Sign)
sign_names =
    (codes "not", Not)
    ∷ (codes "forall", ForAll)
    ∷ (codes "exists", Exists)
    ∷ (codes "Nat", Nat)
    ∷ []

-- ---- what a spelling stands for

-- the sign of the first row whose spelling passes the test
abbrev pub sign_in : {X : Type 0} → (X → Bool) → List (X × Sign) → Option Sign
sign_in test [] = None
sign_in test (row ∷ rows) = if test row.0 then Some row.1 else sign_in test rows

abbrev pub sign_of_one : ℕ → Option Sign
sign_of_one c = sign_in (λ spelling. c == spelling) one_character_signs

abbrev pub sign_of_two : ℕ → ℕ → Option Sign
sign_of_two c d = sign_in (λ spelling. (c == spelling.0) && (d == spelling.1)) two_character_signs

abbrev pub sign_of_name : List ℕ → Option Sign
sign_of_name text = sign_in (λ spelling. bytes_eq text spelling) sign_names
