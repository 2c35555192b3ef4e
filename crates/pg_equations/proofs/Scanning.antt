-- What comes of each kind of token where an equation is looked for.
use Rattle.std.proofs.Common.{◌≡◌, ◌<◌, ◌+◌, ◌-◌, ℕ, zero, suc, Bool, true, false, List, ◌∷◌, refl, ap, arith, Some, None}
use Rattle.pg_base.specs.Tokens.{Word}
use Rattle.pg_gametext.specs.Reading.{Outside, Opens, Closes, Equals, Joins, Negates, Quantifies, Within, outside, no_equation}

pub opens : (seen : Bool) (n end : ℕ) (w : Word) (ws : List Word) → outside w ≡ Opens → no_equation seen n end (w ∷ ws) ≡ no_equation seen (n + 1) end ws
opens true zero end w ws e = rw (e, no_equation) refl
opens false zero end w ws e = rw (e, no_equation) refl
opens seen (suc n) end w ws e = rw (e, no_equation) (ap (λ k. no_equation seen k end ws) (omega arith))

pub closes : (seen : Bool) (n end : ℕ) (w : Word) (ws : List Word) → outside w ≡ Closes → no_equation seen n end (w ∷ ws) ≡ no_equation seen (n - 1) end ws
closes true zero end w ws e = rw (e, no_equation) refl
closes false zero end w ws e = rw (e, no_equation) refl
closes seen (suc n) end w ws e = rw (e, no_equation) (ap (λ k. no_equation seen k end ws) (omega arith))

pub within : (seen : Bool) (n end : ℕ) (w : Word) (ws : List Word) → outside w ≡ Within → no_equation seen n end (w ∷ ws) ≡ no_equation seen n end ws
within true zero end w ws e = rw (e, no_equation) refl
within false zero end w ws e = rw (e, no_equation) refl
within seen (suc n) end w ws e = rw (e, no_equation) refl

pub equals_deep : (seen : Bool) (n end : ℕ) (w : Word) (ws : List Word) → 0 < n → outside w ≡ Equals → no_equation seen n end (w ∷ ws) ≡ no_equation seen n end ws
equals_deep seen zero end w ws lt e = absurd (omega (arith, lt))
equals_deep seen (suc n) end w ws lt e = rw (e, no_equation) refl

pub joins_deep : (seen : Bool) (n end : ℕ) (w : Word) (ws : List Word) → 0 < n → outside w ≡ Joins → no_equation seen n end (w ∷ ws) ≡ no_equation seen n end ws
joins_deep seen zero end w ws lt e = absurd (omega (arith, lt))
joins_deep seen (suc n) end w ws lt e = rw (e, no_equation) refl

pub negates_deep : (seen : Bool) (n end : ℕ) (w : Word) (ws : List Word) → 0 < n → outside w ≡ Negates → no_equation seen n end (w ∷ ws) ≡ no_equation seen n end ws
negates_deep seen zero end w ws lt e = absurd (omega (arith, lt))
negates_deep seen (suc n) end w ws lt e = rw (e, no_equation) refl

pub quantifies_deep : (seen : Bool) (n end : ℕ) (w : Word) (ws : List Word) → 0 < n → outside w ≡ Quantifies → no_equation seen n end (w ∷ ws) ≡ no_equation seen n end ws
quantifies_deep seen zero end w ws lt e = absurd (omega (arith, lt))
quantifies_deep seen (suc n) end w ws lt e = rw (e, no_equation) refl

pub equals_again : (seen : Bool) (n end : ℕ) (w : Word) (ws : List Word) → n ≡ 0 → seen ≡ true → outside w ≡ Equals → no_equation seen n end (w ∷ ws) ≡ Some w.at
equals_again true zero end w ws z is e = rw (e, no_equation) refl
equals_again false zero end w ws z is e = absurd (cc)
equals_again seen (suc n) end w ws z is e = absurd (omega (arith, z))

pub equals_first : (seen : Bool) (n end : ℕ) (w : Word) (ws : List Word) → n ≡ 0 → seen ≡ false → outside w ≡ Equals → no_equation seen n end (w ∷ ws) ≡ no_equation true n end ws
equals_first false zero end w ws z is e = rw (e, no_equation) refl
equals_first true zero end w ws z is e = absurd (cc)
equals_first seen (suc n) end w ws z is e = absurd (omega (arith, z))

pub joins_here : (seen : Bool) (n end : ℕ) (w : Word) (ws : List Word) → n ≡ 0 → outside w ≡ Joins → no_equation seen n end (w ∷ ws) ≡ Some w.at
joins_here true zero end w ws z e = rw (e, no_equation) refl
joins_here false zero end w ws z e = rw (e, no_equation) refl
joins_here seen (suc n) end w ws z e = absurd (omega (arith, z))

pub negates_behind : (seen : Bool) (n end : ℕ) (w : Word) (ws : List Word) → n ≡ 0 → seen ≡ true → outside w ≡ Negates → no_equation seen n end (w ∷ ws) ≡ no_equation seen n end ws
negates_behind true zero end w ws z is e = rw (e, no_equation) refl
negates_behind false zero end w ws z is e = absurd (cc)
negates_behind seen (suc n) end w ws z is e = absurd (omega (arith, z))

pub negates_before : (seen : Bool) (n end : ℕ) (w : Word) (ws : List Word) → n ≡ 0 → seen ≡ false → outside w ≡ Negates → no_equation seen n end (w ∷ ws) ≡ Some w.at
negates_before false zero end w ws z is e = rw (e, no_equation) refl
negates_before true zero end w ws z is e = absurd (cc)
negates_before seen (suc n) end w ws z is e = absurd (omega (arith, z))

pub quantifies_behind : (seen : Bool) (n end : ℕ) (w : Word) (ws : List Word) → n ≡ 0 → seen ≡ true → outside w ≡ Quantifies → no_equation seen n end (w ∷ ws) ≡ None
quantifies_behind true zero end w ws z is e = rw (e, no_equation) refl
quantifies_behind false zero end w ws z is e = absurd (cc)
quantifies_behind seen (suc n) end w ws z is e = absurd (omega (arith, z))

pub quantifies_before : (seen : Bool) (n end : ℕ) (w : Word) (ws : List Word) → n ≡ 0 → seen ≡ false → outside w ≡ Quantifies → no_equation seen n end (w ∷ ws) ≡ Some w.at
quantifies_before false zero end w ws z is e = rw (e, no_equation) refl
quantifies_before true zero end w ws z is e = absurd (cc)
quantifies_before seen (suc n) end w ws z is e = absurd (omega (arith, z))
