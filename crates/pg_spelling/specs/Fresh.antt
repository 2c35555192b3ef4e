-- Names made fresh by a number.
use Rattle.std.specs.Prelude.{ℕ, zero, suc, ◌+◌, ◌<◌, ◌≤◌, ◌≡◌, Bool, true, false, ◌||◌, List, [], ◌∷◌, ◌++◌, length, if◌then◌else◌, decimal}
use Rattle.std.specs.Char.{is_ascii_digit}
use Rattle.std.specs.List.{list_any}
use Rattle.std.specs.Str.{bytes_eq}
use Rattle.pg_logic.specs.Declarations.{Name}
use Rattle.pg_base.specs.Reserved.{is_reserved}

-- whether a name is one of these, or a reserved word
abbrev pub is_taken : List Name → Name → Bool
is_taken names name = list_any (bytes_eq name) names || is_reserved name

-- a byte before what is kept of those behind it: a digit goes where nothing is
abbrev pub kept : ℕ → List ℕ → List ℕ
kept c [] = if is_ascii_digit c then [] else c ∷ []
kept c (d ∷ ds) = c ∷ d ∷ ds

-- a name without the ASCII digits at its end
abbrev pub stem : Name → Name
stem [] = []
stem (c ∷ cs) = kept c (stem cs)

-- a stem with a number behind it
abbrev pub numbered : Name → ℕ → Name
numbered front n = front ++ decimal n

-- the first number from n on with which the name is free; of so many that are taken the next one is
abbrev pub free_number : List Name → Name → ℕ → ℕ → ℕ
free_number names front zero n = n
free_number names front (suc more) n = if is_taken names (numbered front n) then free_number names front more (n + 1) else n

-- A name stays where it isn't taken. Else it is its stem with the least number from 1 on that makes it free: one of
-- so many numbers as there are names, and one more, is.
abbrev pub fresh : List Name → Name → Name
fresh names name = if is_taken names name then numbered (stem name) (free_number names (stem name) (length names) 1) else name

-- the same, told apart from the search
pub record IsNumbered (names : List Name) (front made : Name) : Type 0 where
  pub number : ℕ
  pub is : made ≡ numbered front number
  pub some : 1 ≤ number
  pub least : (k : ℕ) → 1 ≤ k → k < number → is_taken names (numbered front k) ≡ true

pub record IsFresh (names : List Name) (name made : Name) : Type 0 where
  pub free : is_taken names made ≡ false
  pub stays : is_taken names name ≡ false → made ≡ name
  pub numbered : is_taken names name ≡ true → IsNumbered names (stem name) made
