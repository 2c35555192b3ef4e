-- The size of a body by the digits of Content-Length.
use Rattle.std.specs.Prelude.{◌≡◌, ◌<◌, ◌≤◌, ℕ, true, false, List, Some, None, ⊤}
use Rattle.std.specs.Str.Parse.{digits_value}
use Rattle.pg_messages.specs.Paths.{is_digits}
use Rattle.pg_messages.specs.Messages.{length_digits}
use Rattle.pg_next.specs.declared.size.Size.{Size}
use Rattle.pg_next.specs.declared.size.Size.TheVariants.{Bytes, NoLength, TooLong}

abbrev pub IsSize : List ℕ → Size → Type 0
IsSize digits (Bytes n) = (is_digits digits ≡ true) × (n ≡ digits_value 10 digits) × (n ≤ 65536)
IsSize digits NoLength = is_digits digits ≡ false
IsSize digits (TooLong sent) = (is_digits digits ≡ true) × (sent.now ≡ digits) × (65536 < digits_value 10 digits)

-- by the values of the field
abbrev pub IsSizeOf : List (List ℕ) → Size → Type 0
IsSizeOf values (Bytes n) = (digits : List ℕ) × (length_digits values ≡ Some digits) × (n ≡ digits_value 10 digits) × (n ≤ 65536)
IsSizeOf values NoLength = length_digits values ≡ None
IsSizeOf values (TooLong sent) = (length_digits values ≡ Some sent.now) × (65536 < digits_value 10 sent.now)

-- so many bytes as a body may have
abbrev pub FitsBody : Size → Type 0
FitsBody (Bytes n) = n ≤ 65536
FitsBody size = ⊤
