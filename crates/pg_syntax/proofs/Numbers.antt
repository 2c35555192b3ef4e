-- A name that is a stem with a number.
use Rattle.std.proofs.Common.{◌≡◌, ◌∙◌, ℕ, ◌≤◌, List, ◌++◌, get_or, Result, Ok, Err, ap, sym, arith}
use Rattle.std.specs.Prelude.{IfSome, decimal}
use Rattle.std.specs.Result.{result_ok}
use Rattle.std.specs.Str.Parse.{AllDigits, digits_value, ParsesUnsigned}
use Rattle.std.proofs.lemmas.Str.Parse.{IsNumeralModel, numerals_by_value, tells_digits, parse_plain}
use Rattle.std.proofs.lemmas.Fmt.{decimal-digits_value}

own : IsNumeralModel (AllDigits 10) (digits_value 10)
own = numerals_by_value (AllDigits 10) tells_digits

-- digits that do not begin with a zero are the decimal text of the number that they are read as
pub read_digits : {E : Type 0} (digits : List ℕ) (r : Result ℕ E) → ParsesUnsigned 64 10 digits r → 49 ≤ get_or digits 0 0 → IfSome (result_ok r) (λ n. digits ≡ decimal n)
read_digits {E} digits (Err e) p first = tt
read_digits {E} digits (Ok n) p first =
    let q = parse_plain own {E = E} 64 digits (Ok n) p (λ e. omega arith) in
    sym (decimal-digits_value own digits q.0.0 q.0.1 (λ e. absurd (omega arith)) q.0.2) ∙ ap decimal (sym q.1)

pub behind : {E : Type 0} (stem name digits : List ℕ) (r : Result ℕ E) → name ≡ stem ++ digits → ParsesUnsigned 64 10 digits r → 49 ≤ get_or digits 0 0
    → IfSome (result_ok r) (λ n. name ≡ stem ++ decimal n)
behind {E} stem name digits (Err e) whole p first = tt
behind {E} stem name digits (Ok n) whole p first = whole ∙ ap (λ ds. stem ++ ds) (read_digits {E = E} digits (Ok n) p first)
