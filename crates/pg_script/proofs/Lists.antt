-- Lists that are read one after the other.
use Rattle.std.proofs.Common.{◌≡◌, ℕ, ◌+◌, refl, ap, arith, Ok, Err}
use Rattle.pg_script.specs.Lines.{Read, more}

pub more_more : (i j : ℕ) (r : Read ℕ) → more i (more j r) ≡ more (i + j) r
more_more i j (Ok n) = let e : i + (j + n) ≡ i + j + n = omega arith in ap Ok e
more_more i j (Err e) = refl

pub more_none : (r : Read ℕ) → more 0 r ≡ r
more_none (Ok n) = let e : 0 + n ≡ n = omega arith in ap Ok e
more_none (Err e) = refl
