-- Characters, each by its Unicode number, and how far a name, a number, a line, a comment and a text reach.
use Rattle.std.specs.Prelude.{ℕ, suc, ◌+◌, ◌-◌, Bool, true, false, ◌&&◌, ◌||◌, List, [], ◌∷◌, drop, Option, Some, None, option_map, if◌then◌else◌, ◌==◌, nat_le, slice_index, codes}
use Rattle.std.specs.Char.{is_ascii_alphabetic, is_ascii_digit}
use Prim.Native.String.{String}

-- ---- kinds of characters

-- the character of a literal of one character
abbrev pub character : String → ℕ
character literal = slice_index (codes literal) 0

abbrev pub is_between : ℕ → ℕ → ℕ → Bool
is_between first last c = nat_le first c && nat_le c last

-- an ASCII letter, `_`, or a small Greek letter, α (U+03B1) to ω (U+03C9)
abbrev pub is_letter : ℕ → Bool
is_letter c = is_ascii_alphabetic c || (c == character "_") || is_between 0x3b1 0x3c9 c

-- what goes on a name: a letter, an ASCII digit, `'`, or a subscript digit, ₀ (U+2080) to ₉ (U+2089)
abbrev pub is_name_character : ℕ → Bool
is_name_character c = is_letter c || is_ascii_digit c || (c == character "'") || is_between 0x2080 0x2089 c

-- space, tab, carriage return, line feed
abbrev pub is_blank : ℕ → Bool
is_blank c = (c == 32) || (c == 9) || (c == 13) || (c == 10)

-- ---- what characters begin with

abbrev pub begins_with : List ℕ → List ℕ → Bool
begins_with [] cs = true
begins_with (p ∷ prefix) [] = false
begins_with (p ∷ prefix) (c ∷ cs) = (c == p) && begins_with prefix cs

abbrev pub begins_with_letter : List ℕ → Bool
begins_with_letter [] = false
begins_with_letter (c ∷ cs) = is_letter c

-- `MyNat.` with a letter behind it
abbrev pub begins_with_prefix_name : List ℕ → Bool
begins_with_prefix_name cs = begins_with (codes "MyNat.") cs && begins_with_letter (drop 6 cs)

-- ---- how many characters

-- that go on a name; a `.` does so where a letter follows
abbrev pub name_length : List ℕ → ℕ
name_length [] = 0
name_length (c ∷ cs) = if is_name_character c || ((c == character ".") && begins_with_letter cs) then suc (name_length cs) else 0

-- that are ASCII digits, one behind the other
abbrev pub number_length : List ℕ → ℕ
number_length [] = 0
number_length (c ∷ cs) = if is_ascii_digit c then suc (number_length cs) else 0

-- to the end of the line
abbrev pub line_length : List ℕ → ℕ
line_length [] = 0
line_length (c ∷ cs) = if c == 10 then 0 else suc (line_length cs)

-- so many before them, if they have an end
abbrev pub more : ℕ → Option ℕ → Option ℕ
more n = option_map (λ k. n + k)

-- `/-` and `-/`
abbrev pub opens_comment : ℕ → ℕ → Bool
opens_comment c d = (c == character "/") && (d == character "-")

abbrev pub closes_comment : ℕ → ℕ → Bool
closes_comment c d = (c == character "-") && (d == character "/")

-- to the end of a comment in which so many are open, its last `-/` with it
abbrev pub comment_length : ℕ → List ℕ → Option ℕ
comment_length depth [] = None
comment_length depth (c ∷ []) = None
comment_length depth (c ∷ d ∷ cs) =
    if opens_comment c d then more 2 (comment_length (depth + 1) cs)
    else (if closes_comment c d then (if nat_le depth 1 then Some 2 else more 2 (comment_length (depth - 1) cs))
    else more 1 (comment_length depth (d ∷ cs)))

-- to the closing quote of a text, its last character. The first character is escaped, or not.
abbrev pub text_length : Bool → List ℕ → Option ℕ
text_length escaped [] = None
text_length true (c ∷ cs) = more 1 (text_length false cs)
text_length false (c ∷ cs) = if c == character "\"" then Some 1 else more 1 (text_length (c == character "\\") cs)
