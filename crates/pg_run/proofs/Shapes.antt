-- Reading gives the trees of the shapes that are spelled so, and no others.
use Rattle.std.proofs.Common.{◌≡◌, ℕ, zero, suc, ◌-◌, ◌<◌, ◌≤◌, List, [], ◌∷◌, ◌++◌, Option, Some, None, sym as flip, ◌∙◌, ap, refl, arith, append_assoc, option_map}
use Rattle.pg_logic.specs.Tree.{Tm, succ}
use Rattle.pg_run.specs.declared.symbol.Symbol.{Symbol}
use Rattle.pg_run.specs.declared.symbol.Symbol.TheVariants.{Zero, Succ, Open, Close}
use Rattle.pg_run.specs.Game.{Shape, Plain, Successor, SuccessorOf, Grouped, spelled, depth, meaning}
use Rattle.pg_run.specs.Reading.{Found, after_close, closed, successor_of, numeral_with, inside_at, numeral_at}

pub inside_at-some : (budget : ℕ) (symbols : List Symbol) → 0 < budget → inside_at budget symbols ≡ closed (numeral_at (budget - 1) symbols)
unfolding inside_at
inside_at-some zero symbols some = absurd (omega (arith, some))
inside_at-some (suc budget) symbols some = let e : budget ≡ suc budget - 1 = omega arith in ap (λ b. closed (numeral_at b symbols)) e

-- what stands in parentheses is read, if it is read without them
closed-spelled : (s : Shape) (budget : ℕ) (rest : List Symbol) → numeral_at budget (spelled s ++ (Close ∷ rest)) ≡ Some (meaning s, Close ∷ rest)
    → inside_at (suc budget) ((spelled s ++ Close ∷ []) ++ rest) ≡ Some (meaning s, rest)
unfolding inside_at
closed-spelled s budget rest inner = ap (λ symbols. closed (numeral_at budget symbols)) (append_assoc (spelled s) (Close ∷ []) rest) ∙ ap closed inner

-- What is spelled so is read so, whatever follows.
pub numeral_at-spelled : (s : Shape) (budget : ℕ) (rest : List Symbol) → depth s ≤ budget → numeral_at budget (spelled s ++ rest) ≡ Some (meaning s, rest)
numeral_at-spelled Plain budget rest fits = refl
numeral_at-spelled Successor budget rest fits = refl
numeral_at-spelled (SuccessorOf s) zero rest fits = absurd (omega (arith, fits))
numeral_at-spelled (SuccessorOf s) (suc budget) rest fits = ap successor_of (closed-spelled s budget rest (numeral_at-spelled s budget (Close ∷ rest) (omega (arith, fits))))
numeral_at-spelled (Grouped s) zero rest fits = absurd (omega (arith, fits))
numeral_at-spelled (Grouped s) (suc budget) rest fits = closed-spelled s budget rest (numeral_at-spelled s budget (Close ∷ rest) (omega (arith, fits)))

-- these symbols spell a shape of this tree within the budget, and then come the rest
pub record IsRead (budget : ℕ) (symbols : List Symbol) (t : Tm) (rest : List Symbol) : Type 0 where
  pub shape : Shape
  pub spelling : symbols ≡ spelled shape ++ rest
  pub fits : depth shape ≤ budget
  pub is : t ≡ meaning shape

abbrev pub IsSound : ℕ → List Symbol → Found → Type 0
IsSound budget symbols None = Unit {0}
IsSound budget symbols (Some (t, rest)) = IsRead budget symbols t rest

after_close-sound : (symbols rest : List Symbol) → after_close symbols ≡ Some rest → symbols ≡ Close ∷ rest
after_close-sound [] rest e = cc
after_close-sound (Close ∷ symbols) rest e = cc
after_close-sound (_ ∷ symbols) rest e = cc

-- the same in parentheses, the closing one with it
pub record IsInside (budget : ℕ) (symbols : List Symbol) (t : Tm) (rest : List Symbol) : Type 0 where
  pub shape : Shape
  pub spelling : symbols ≡ (spelled shape ++ Close ∷ []) ++ rest
  pub fits : suc (depth shape) ≤ budget
  pub is : t ≡ meaning shape

abbrev IsSoundInside : ℕ → List Symbol → Found → Type 0
IsSoundInside budget symbols None = Unit {0}
IsSoundInside budget symbols (Some (t, rest)) = IsInside budget symbols t rest

close-sound : (budget : ℕ) (symbols rest : List Symbol) (t : Tm) (o : Option (List Symbol)) → after_close rest ≡ o → IsRead budget symbols t rest
    → IsSoundInside (suc budget) symbols (option_map (λ r. (t, r)) o)
close-sound budget symbols rest t None e h = tt
close-sound budget symbols rest t (Some after) e h = record {
  shape = h.shape;
  spelling = h.spelling ∙ ap (λ r. spelled h.shape ++ r) (after_close-sound rest after e) ∙ flip (append_assoc (spelled h.shape) (Close ∷ []) after);
  fits = omega (arith, h.fits);
  is = h.is;
}

closed-sound : (budget : ℕ) (symbols : List Symbol) (found : Found) → IsSound budget symbols found → IsSoundInside (suc budget) symbols (closed found)
closed-sound budget symbols None h = tt
closed-sound budget symbols (Some (t, rest)) h = close-sound budget symbols rest t (after_close rest) refl h

grouped-sound : (budget : ℕ) (symbols : List Symbol) (found : Found) → IsSoundInside budget symbols found → IsSound budget (Open ∷ symbols) found
grouped-sound budget symbols None h = tt
grouped-sound budget symbols (Some (t, rest)) h = record { shape = Grouped h.shape; spelling = ap (λ r. Open ∷ r) h.spelling; fits = h.fits; is = h.is }

after-sound : (budget : ℕ) (symbols : List Symbol) (found : Found) → IsSoundInside budget symbols found → IsSound budget (Succ ∷ Open ∷ symbols) (successor_of found)
after-sound budget symbols None h = tt
after-sound budget symbols (Some (t, rest)) h = record { shape = SuccessorOf h.shape; spelling = ap (λ r. Succ ∷ Open ∷ r) h.spelling; fits = h.fits; is = ap succ h.is }

-- where inside is sound, so is the whole
with-sound : (budget : ℕ) (inside : List Symbol → Found) → ((symbols : List Symbol) → IsSoundInside budget symbols (inside symbols)) → (symbols : List Symbol) → IsSound budget symbols (numeral_with inside symbols)
with-sound budget inside h [] = tt
with-sound budget inside h (Zero ∷ rest) = record { shape = Plain; spelling = refl; fits = omega arith; is = refl }
with-sound budget inside h (Succ ∷ []) = tt
with-sound budget inside h (Succ ∷ Zero ∷ rest) = record { shape = Successor; spelling = refl; fits = omega arith; is = refl }
with-sound budget inside h (Succ ∷ Open ∷ rest) = after-sound budget rest (inside rest) (h rest)
with-sound budget inside h (Succ ∷ _ ∷ rest) = tt
with-sound budget inside h (Open ∷ rest) = grouped-sound budget rest (inside rest) (h rest)
with-sound budget inside h (_ ∷ rest) = tt

inside_at-sound : (budget : ℕ) (symbols : List Symbol) → IsSoundInside budget symbols (inside_at budget symbols)
unfolding inside_at
inside_at-sound zero symbols = tt
inside_at-sound (suc budget) symbols = closed-sound budget symbols (numeral_at budget symbols) (with-sound budget (inside_at budget) (inside_at-sound budget) symbols)

-- What is read is spelled so.
pub numeral_at-sound : (budget : ℕ) (symbols : List Symbol) → IsSound budget symbols (numeral_at budget symbols)
numeral_at-sound budget symbols = with-sound budget (inside_at budget) (inside_at-sound budget) symbols
