-- What is told of a route.
use Rattle.std.proofs.Common.{◌≡◌, ℕ, ltb, ◌&&◌, List, [], ◌∷◌, length, drop, Option, Some, None, Bool, true, false, cond, refl, ap, ◌∙◌, nat_eq, codes, option_map}
use Rattle.std.specs.List.{starts_with}
use Rattle.matchit.specs.Seek.{or_else, has_slash, segment}
use Rattle.pg_paths.specs.declared.routing.Kind.{Kind}
use Rattle.pg_paths.specs.declared.routing.Kind.TheVariants.{Game, Me, Level, Transcript, Certificate, Try, Submit}
use Rattle.pg_paths.specs.Plain.{after, ends, one_part, two_parts, is_part, route_behind}

-- ---- kinds by number

module _ {A B : Type 0} (g : A → B) where
  or_else-told : (a b : Option A) → option_map g (or_else a b) ≡ or_else (option_map g a) (option_map g b)
  or_else-told None b = refl
  or_else-told (Some x) b = refl

  pub cond-told : (v : Bool) (a : Option A) → option_map g (cond v a None) ≡ cond v (option_map g a) None
  cond-told true a = refl
  cond-told false a = refl

  ends-told : (k : A) (w p : List ℕ) → option_map g (after w (ends k) p) ≡ after w (ends (g k)) p
  ends-told k w p = cond-told (starts_with nat_eq p w) (ends k (drop (length w) p)) ∙ ap (λ o. cond (starts_with nat_eq p w) o None) (at (drop (length w) p))
    where
      at : (q : List ℕ) → option_map g (ends k q) ≡ ends (g k) q
      at [] = refl
      at (b ∷ q) = refl

  part-told : (k : A) (w p : List ℕ) → option_map g (after w (one_part k) p) ≡ after w (one_part (g k)) p
  part-told k w p =
      cond-told (starts_with nat_eq p w) (one_part k (drop (length w) p)) ∙ ap (λ o. cond (starts_with nat_eq p w) o None) (cond-told (is_part (drop (length w) p)) (Some k))

  parts-told : (k : A) (w p : List ℕ) → option_map g (after w (two_parts k) p) ≡ after w (two_parts (g k)) p
  parts-told k w p =
      let q = drop (length w) p in
      let seg = length (segment q) in
      cond-told (starts_with nat_eq p w) (two_parts k q)
      ∙ ap (λ o. cond (starts_with nat_eq p w) o None)
      (cond-told (has_slash q && ltb 1 seg) (one_part k (drop seg q)) ∙ ap (λ o. cond (has_slash q && ltb 1 seg) o None) (cond-told (is_part (drop seg q)) (Some k)))

  pub told : (tell : Kind → A) (p : List ℕ) → option_map g (route_behind tell p) ≡ route_behind (λ kind. g (tell kind)) p
  told tell p =
      simp (
        or_else-told,
        part-told (tell Certificate) (codes "certificate/") p,
        ends-told (tell Game) (codes "game") p,
        parts-told (tell Level) (codes "level/") p,
        ends-told (tell Me) (codes "me") p,
        ends-told (tell Submit) (codes "submit") p,
        part-told (tell Transcript) (codes "transcript/") p,
        ends-told (tell Try) (codes "try") p,
      )
