-- The act of a part: where it stands in the list of a move's acts.
use Rattle.std.proofs.Common.{◌≡◌, Option, Bor, None, ℕ, zero, suc, ◌<◌, List, [], ◌∷◌, length, map, Some, None, refl, sym, ap, ◌∙◌, subst, arith}
use Rattle.std.specs.Prelude.{Result, Ok, Err, All, slice_get}
use Rattle.std.specs.Option.{option_copied}
use Rattle.std.specs.List.{AllByRecursion}
use Rattle.std.proofs.lemmas.List.Elements.{recursion_from_All}
use Rattle.pg_moves.specs.Acts.{Act, Unknown}
use Rattle.pg_moves.specs.Causes.{WrongShape}
use Rattle.pg_moves.specs.Goals.{Goal}
use Rattle.pg_moves.specs.Lookup.{Lookup}
use Rattle.pg_reduction.specs.declared.cause.ActFault.{ActFault}
use Rattle.pg_reduction.specs.declared.cause.ActFault.TheVariants.{Stop, OutOfMemory}
use Rattle.pg_reduction.specs.declared.reduction.Reduction.{Reduction}
use Rattle.pg_reduction.specs.Doing.{Does, DoesWithin, StopsWithin}
use Rattle.pg_moves.specs.Steps.{new_goals}

-- the one act of a list of one
pub only : (a b : Act) (part : ℕ) → slice_get (a ∷ []) part ≡ Some b → a ≡ b
only a b zero e = cc
only a b (suc k) e = absurd (cc)

-- the act for the element at a place
pub picked : {X : Type 0} (f : X → Act) (xs : List X) (part : ℕ) (x : X) (a : Act) → slice_get xs part ≡ Some x → slice_get (map f xs) part ≡ Some a → f x ≡ a
picked f [] part x a e q = absurd (cc)
picked f (y ∷ xs) zero x a e q = let here : y ≡ x = cc in let there : f y ≡ a = cc in ap f (sym here) ∙ there
picked f (y ∷ xs) (suc k) x a e q = picked f xs k x a e q

-- ---- what stands at a place

-- what is found there
pub here : {X : Type 0} (xs : List X) (part : ℕ) (r : Option (Bor X)) (b : Bor X) → option_copied r ≡ slice_get xs part → r ≡ Some b → slice_get xs part ≡ Some b.now
here xs part r b e is = sym e ∙ ap option_copied is

-- something is
pub nowhere : {X : Type 0} (xs : List X) (part : ℕ) (r : Option (Bor X)) → option_copied r ≡ slice_get xs part → r ≡ None → part < length xs → ⊥
nowhere xs part r e is lt = go xs part (sym e ∙ ap option_copied is) lt
  where
    go : {X : Type 0} (xs : List X) (part : ℕ) → slice_get xs part ≡ None → part < length xs → ⊥
    go [] part e lt = omega (arith, lt)
    go (x ∷ xs) zero e lt = cc
    go (x ∷ xs) (suc k) e lt = go xs k e (omega (arith, lt))

-- the same in a view of the list
pub seen : {X Y : Type 0} (f : X → Y) (xs : List X) (part : ℕ) (x : X) → slice_get xs part ≡ Some x → slice_get (map f xs) part ≡ Some (f x)
seen f [] part x e = absurd (cc)
seen f (y ∷ xs) zero x e = let q : y ≡ x = cc in ap (λ z. Some (f z)) q
seen f (y ∷ xs) (suc k) x e = seen f xs k x e

-- what holds of all holds there
pub holds-there : {X : Type 0} (P : X → Type 0) (xs : List X) (part : ℕ) (x : X) → All P xs → slice_get xs part ≡ Some x → P x
holds-there P xs part x h e = go P xs part x (recursion_from_All P xs h) e
  where
    go : {X : Type 0} (P : X → Type 0) (xs : List X) (part : ℕ) (x : X) → AllByRecursion P xs → slice_get xs part ≡ Some x → P x
    go P [] part x h e = absurd (cc)
    go P (y ∷ xs) zero x h e = let q : y ≡ x = cc in subst P q h.0
    go P (y ∷ xs) (suc k) x h e = go P xs k x h.1 e

-- ---- what an act does

-- an unknown one stops
pub unknown : (l : Lookup) (g : Goal) → new_goals l g Unknown ≡ Err WrongShape
unfolding new_goals
unknown l g = refl

-- what it does, it does within the limits
pub within : (l : Lookup) (g : Goal) (a : Act) (r : Result Reduction ActFault) → Does l g a r → DoesWithin l g a r
within l g a (Ok r) d = d
within l g a (Err (Stop c)) d = subst (λ t. StopsWithin t c) (sym d) refl
within l g a (Err OutOfMemory) d = tt
