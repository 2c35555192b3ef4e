-- Values of numerals, and worked rows of the definitions.
use Rattle.std.proofs.Common.{◌≡◌, ℕ, List, [], true, false, IsTrue, refl, arith, ap}
use Rattle.std.proofs.lemmas.Bool.{false≢true, and_parts}
use Rattle.pg_logic.specs.Tree.{Tm, free, bound, nought, succ, app, same, Fm, falsum, eq, pred, and, or, imp, all, ex}
use Rattle.pg_logic.specs.Signature.{Signature}
use Rattle.pg_logic.specs.Value.{Functions, value, functions_of}
use Rattle.pg_logic.specs.Truth.{IsTrueOf}
use Rattle.pg_logic.specs.Kernel.{is_reflexive}
use Rattle.pg_logic.specs.Numeral.{is_numeral, is_numeral_equation, standard_value, SidesHaveOneValue, no_declarations}
use Rattle.pg_logic.proofs.Stable.{same-true}

-- t = t is true under every signature and every list
pub true-reflexive : (s : Signature) (fr : List ℕ) (a : Fm) → is_reflexive a ≡ true → IsTrueOf s fr a
true-reflexive s fr (eq t u) h = ap (value (functions_of s.functions) fr []) (same-true t u h)
true-reflexive s fr falsum h = absurd (false≢true h)
true-reflexive s fr (pred p ts) h = absurd (false≢true h)
true-reflexive s fr (and a b) h = absurd (false≢true h)
true-reflexive s fr (or a b) h = absurd (false≢true h)
true-reflexive s fr (imp a b) h = absurd (false≢true h)
true-reflexive s fr (all x a) h = absurd (false≢true h)
true-reflexive s fr (ex x a) h = absurd (false≢true h)

-- numerals of one value are the same
numeral-same : (of : Functions) (s t : Tm) → is_numeral s ≡ true → is_numeral t ≡ true → value of [] [] s ≡ value of [] [] t → same s t ≡ true
numeral-same of nought nought g h e = refl
numeral-same of nought (succ t) g h e = absurd (omega (arith, e))
numeral-same of (succ s) nought g h e = absurd (omega (arith, e))
numeral-same of (succ s) (succ t) g h e = numeral-same of s t g h (omega (arith, e))
numeral-same of (free i) t g h e = absurd (false≢true g)
numeral-same of (bound i) t g h e = absurd (false≢true g)
numeral-same of (app f ts) t g h e = absurd (false≢true g)
numeral-same of nought (free i) g h e = absurd (false≢true h)
numeral-same of nought (bound i) g h e = absurd (false≢true h)
numeral-same of nought (app f ts) g h e = absurd (false≢true h)
numeral-same of (succ s) (free i) g h e = absurd (false≢true h)
numeral-same of (succ s) (bound i) g h e = absurd (false≢true h)
numeral-same of (succ s) (app f ts) g h e = absurd (false≢true h)

-- an equation that is true of the empty signature has sides of one value
pub true-sides : (a : Fm) → IsTrue (is_numeral_equation a) → IsTrueOf no_declarations [] a → SidesHaveOneValue a
true-sides (eq s t) n e = e
true-sides falsum n e = absurd (false≢true n)
true-sides (pred p ts) n e = absurd (false≢true n)
true-sides (and a b) n e = absurd (false≢true n)
true-sides (or a b) n e = absurd (false≢true n)
true-sides (imp a b) n e = absurd (false≢true n)
true-sides (all x a) n e = absurd (false≢true n)
true-sides (ex x a) n e = absurd (false≢true n)

-- numerals of one value are the same, so their equation is reflexive
pub sides-reflexive : (a : Fm) → IsTrue (is_numeral_equation a) → SidesHaveOneValue a → is_reflexive a ≡ true
sides-reflexive (eq s t) n e =
    let both = and_parts _ _ n in numeral-same (functions_of no_declarations.functions) s t both.0 both.1 e
sides-reflexive falsum n e = absurd (false≢true n)
sides-reflexive (pred p ts) n e = absurd (false≢true n)
sides-reflexive (and a b) n e = absurd (false≢true n)
sides-reflexive (or a b) n e = absurd (false≢true n)
sides-reflexive (imp a b) n e = absurd (false≢true n)
sides-reflexive (all x a) n e = absurd (false≢true n)
sides-reflexive (ex x a) n e = absurd (false≢true n)

-- worked rows: the value of a numeral, and what is a numeral
value-two : standard_value (succ (succ nought)) ≡ 2
value-two = refl

numeral-two : is_numeral (succ (succ nought)) ≡ true
numeral-two = refl

numeral-free : is_numeral (succ (free 0)) ≡ false
numeral-free = refl

sides-two : SidesHaveOneValue (eq (succ (succ nought)) (succ (succ nought)))
sides-two = refl

sides-one-nought : SidesHaveOneValue (eq (succ nought) nought) → ⊥
sides-one-nought e = absurd (omega (arith, e))
