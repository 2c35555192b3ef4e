-- The rows behind the first slash.
use Rattle.std.proofs.Common.{◌≡◌, ℕ, zero, suc, lit<, ltb, ◌&&◌, ◌<◌, List, [], ◌∷◌, ◌++◌, length, drop, Option, None, Bool, true, false, cond, refl, sym, ap, ◌∙◌, arith, nat_eq, codes}
use Rattle.std.specs.List.{starts_with}
use Rattle.std.proofs.lemmas.Bool.Decides.{nat_tests}
use Rattle.matchit.specs.Rows.{Rows, prepend}
use Rattle.matchit.specs.Seek.{first, or_else, step}
use Rattle.matchit.specs.Level.{IsText}
use Rattle.matchit.proofs.SeekLemmas.{first-prefix}
use Rattle.pg_paths.specs.Plain.{after, ends, one_part, two_parts, route_behind}
use Rattle.pg_paths.proofs.Seeks.{IsLiteral, first-union, first-end, first-part, first-parts}
use Rattle.pg_paths.proofs.Numbered.{number_of, one, part, parts, r1, r2, r3, r4, r5, r6}

-- ---- texts

abbrev all_bytes : List ℕ → Bool
all_bytes [] = true
all_bytes (b ∷ w) = ltb b 256 && all_bytes w

text-from : (w : List ℕ) → all_bytes w ≡ true → IsText w
text-from [] h = tt
text-from (b ∷ w) h =
    (elim (ltb b 256) as (λ v. ltb b 256 ≡ v → IsText (b ∷ w)) [
      | true ↦ λ e. (grind (arith, nat_tests), text-from w (rw e at h))
      | false ↦ λ e. let no : false ≡ true = rw e at h in cc
    ]) refl

text-drop : (n : ℕ) (p : List ℕ) → IsText p → IsText (drop n p)
text-drop zero p h = h
text-drop (suc n) [] h = h
text-drop (suc n) (b ∷ p) h = text-drop n p h.1

-- ---- rows under a front

pub under : (w : List ℕ) (t : Rows) (go : List ℕ → Option ℕ) → all_bytes w ≡ true → ((q : List ℕ) → IsText q → first t q ≡ go q)
    → (p : List ℕ) → IsText p → first (prepend w t) p ≡ after w go p
under w t go h same p ok =
    first-prefix w t p (text-from w h) ∙ ap (λ o. cond (starts_with nat_eq p w) o None) (same (drop (length w) p) (text-drop (length w) p ok))

both : (x : ℕ) (w : List ℕ) (t r : Rows) (a b p : _) → x < 256 → IsLiteral r → step x r ≡ [] → first (prepend (x ∷ w) t) p ≡ a → first r p ≡ b
    → first (prepend (x ∷ w) t ++ r) p ≡ or_else a b
both x w t r a b p l h none ea eb = first-union x w t r p l h none ∙ ap (λ o. or_else o (first r p)) ea ∙ ap (λ o. or_else a o) eb

split-cond : (v : Bool) (a b : Option ℕ) → cond v (or_else a b) None ≡ or_else (cond v a None) (cond v b None)
split-cond true a b = refl
split-cond false a b = refl

w6 : (p : List ℕ) → IsText p → first r6 p ≡ or_else (after (codes "transcript/") (one_part 4) p) (after (codes "try") (ends 6) p)
w6 p ok =
    let a = prepend (codes "anscript/") (part 4) in
    let b = prepend (codes "y") (one 6) in
    let tr : IsText (codes "tr") = text-from (codes "tr") refl in
    first-prefix (codes "tr") (a ++ b) p tr
    ∙ ap (λ o. cond (starts_with nat_eq p (codes "tr")) o None) (first-union 97 (codes "nscript/") (part 4) b (drop 2 p) (lit< tt) (record { own = refl; params = refl; catches = refl }) refl)
    ∙ split-cond (starts_with nat_eq p (codes "tr")) (first a (drop 2 p)) (first b (drop 2 p))
    ∙ ap (λ o. or_else o (cond (starts_with nat_eq p (codes "tr")) (first b (drop 2 p)) None)) (sym (first-prefix (codes "tr") a p tr))
    ∙ ap (λ o. or_else (first (prepend (codes "tr") a) p) o) (sym (first-prefix (codes "tr") b p tr))
    ∙ ap (λ o. or_else o (first (prepend (codes "tr") b) p)) (under (codes "transcript/") (part 4) (one_part 4) refl (first-part 4) p ok)
    ∙ ap (λ o. or_else (after (codes "transcript/") (one_part 4) p) o) (under (codes "try") (one 6) (ends 6) refl (λ q _. first-end 6 q) p ok)

pub behind : (p : List ℕ) → IsText p → first r1 p ≡ route_behind number_of p
behind p ok =
    let is : IsLiteral r6 = record { own = refl; params = refl; catches = refl } in
    both 99 (codes "ertificate/") (part 5) r2 _ _ p (lit< tt) (record { own = refl; params = refl; catches = refl }) refl (under (codes "certificate/") (part 5) (one_part 5) refl (first-part 5) p ok)
    (both 103 (codes "ame") (one 1) r3 _ _ p (lit< tt) (record { own = refl; params = refl; catches = refl }) refl (under (codes "game") (one 1) (ends 1) refl (λ q _. first-end 1 q) p ok)
    (both 108 (codes "evel/") (parts 3) r4 _ _ p (lit< tt) (record { own = refl; params = refl; catches = refl }) refl (under (codes "level/") (parts 3) (two_parts 3) refl (first-parts 3) p ok)
    (both 109 (codes "e") (one 2) r5 _ _ p (lit< tt) (record { own = refl; params = refl; catches = refl }) refl (under (codes "me") (one 2) (ends 2) refl (λ q _. first-end 2 q) p ok)
    (both 115 (codes "ubmit") (one 7) r6 _ _ p (lit< tt) is refl (under (codes "submit") (one 7) (ends 7) refl (λ q _. first-end 7 q) p ok) (w6 p ok)))))
