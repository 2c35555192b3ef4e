-- The first fault of two lists.
use Rattle.std.proofs.Common.{◌≡◌, ◌∙◌, ℕ, Bool, true, false, cond, [], ◌∷◌, refl, sym, ap, arith, Option, Some, None, nat_lt}
use Rattle.std.proofs.lemmas.Bool.Decides.{nat_tests}
use Rattle.pg_gametext.specs.Faults.{Fault, least, earlier, key}
use Rattle.pg_faults.specs.View.{sooner}
use Rattle.pg_faults.specs.Laws.{LeastLaw}

-- of three the first, whichever two are held together first
first_of_three : {X : Type 0} (f g h : X) (i j k : ℕ) →
    cond (nat_lt k (cond (nat_lt j i) j i)) h (cond (nat_lt j i) g f) ≡ cond (nat_lt (cond (nat_lt k j) k j) i) (cond (nat_lt k j) h g) f
first_of_three f g h i j k = grind (arith, nat_tests)

key_of_choice : (b : Bool) (f g : Fault) → key (cond b g f) ≡ cond b (key g) (key f)
key_of_choice true f g = refl
key_of_choice false f g = refl

three : (f g h : Fault) → earlier (earlier f (Some g)) (Some h) ≡ earlier f (Some (earlier g (Some h)))
three f g h =
    ap (λ (n : ℕ). cond (nat_lt (key h) n) h (cond (nat_lt (key g) (key f)) g f)) (key_of_choice (nat_lt (key g) (key f)) f g)
    ∙ first_of_three f g h (key f) (key g) (key h)
    ∙ sym (ap (λ (n : ℕ). cond (nat_lt n (key f)) (cond (nat_lt (key h) (key g)) h g) f) (key_of_choice (nat_lt (key h) (key g)) g h))

pub least-law : LeastLaw
least-law [] gs = refl
least-law (f ∷ fs) gs = ap (λ (o : Option Fault). Some (earlier f o)) (least-law fs gs) ∙ joined (least fs) (least gs)
  where
    joined : (a b : Option Fault) → Some (earlier f (sooner a b)) ≡ sooner (Some (earlier f a)) b
    joined None b = refl
    joined (Some g) None = refl
    joined (Some g) (Some h) = ap Some (sym (three f g h))
