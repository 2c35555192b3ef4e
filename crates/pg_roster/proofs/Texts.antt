-- Names and passes are of ASCII, so they are texts.
use Rattle.std.proofs.Common.{◌≡◌, ◌<◌, ℕ, zero, suc, Bool, true, false, ◌&&◌, List, [], ◌∷◌, refl, arith}
use Rattle.std.specs.Char.{is_ascii_graphic}
use Rattle.std.specs.List.{list_all}
use Rattle.std.specs.Str.{IsAscii, IsUtf8}
use Rattle.std.proofs.lemmas.Str.{IsUtf8-from_ascii}
use Rattle.pg_roster.specs.Roster.{has_length, is_name, is_name_byte, is_pass}

and-left : (a b : Bool) → (a && b) ≡ true → a ≡ true
and-left true b h = refl
and-left false b h = h

and-right : (a b : Bool) → (a && b) ≡ true → b ≡ true
and-right true b h = h
and-right false b h = cc

ascii-of : (p : ℕ → Bool) → ((b : ℕ) → p b ≡ true → b < 128) → (xs : List ℕ) → list_all p xs ≡ true → IsAscii xs
ascii-of p below [] all i = omega arith
ascii-of p below (x ∷ xs) all zero = below x (and-left (p x) (list_all p xs) all)
ascii-of p below (x ∷ xs) all (suc i) = ascii-of p below xs (and-right (p x) (list_all p xs) all) i

name-byte : (b : ℕ) → is_name_byte b ≡ true → b < 128
name-byte b h = grind arith

graphic : (b : ℕ) → is_ascii_graphic b ≡ true → b < 128
graphic b h = grind arith

pub name-text : (text : List ℕ) → is_name text ≡ true → IsUtf8 text
name-text text h = IsUtf8-from_ascii text (ascii-of is_name_byte name-byte text (and-right (has_length 32 text) (list_all is_name_byte text) h))

pub pass-text : (text : List ℕ) → is_pass text ≡ true → IsUtf8 text
pass-text text h = IsUtf8-from_ascii text (ascii-of is_ascii_graphic graphic text (and-right (has_length 64 text) (list_all is_ascii_graphic text) h))
