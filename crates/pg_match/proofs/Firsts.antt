-- The first of a list that gives something.
use Rattle.std.proofs.Common.{◌≡◌, ℕ, suc, ◌+◌, ◌<◌, length, get_or, drop, add-one, Ok, Err, List, [], ◌∷◌, ◌++◌, Option, Some, None, refl, ap, sym, ◌∙◌}
use Rattle.std.specs.Prelude.{Result, IfOk}
use Rattle.std.proofs.Math.Seq.{drop-cons}
use Rattle.pg_logic.specs.Tree.{Tm, arg}
use Rattle.pg_terms.specs.declared.term.Term.{Term}
use Rattle.pg_terms.specs.View.{term, args}
use Rattle.pg_moves.specs.Instances.{first_found, subterms, subterms_in}

-- what follows of an Ok
pub if_ok : {A E : Type 0} (r : Result A E) (P Q : A → Type 0) → ((a : A) → P a → Q a) → IfOk r P → IfOk r Q
if_ok (Ok a) P Q f h = f a h
if_ok (Err e) P Q f h = h

abbrev search_on : {X Y : Type 0} → (X → Option Y) → List X → Option Y → Option Y
search_on look xs None = first_found look xs
search_on look xs (Some y) = Some y

module _ {X Y : Type 0} (look : X → Option Y) where
  searched : (xs ys : List X) → first_found look (xs ++ ys) ≡ search_on look ys (first_found look xs)
  searched [] ys = refl
  searched (x ∷ xs) ys = here (look x) (searched xs ys)
    where
      here : (o : Option Y) → first_found look (xs ++ ys) ≡ search_on look ys (first_found look xs) → elim o [ Some y ↦ Some y | None ↦ first_found look (xs ++ ys) ] ≡ search_on look ys (elim o [ Some y ↦ Some y | None ↦ first_found look xs ])
      here (Some y) e = refl
      here None e = e

  -- in the first list
  pub found_first : (xs ys : List X) (y : Y) → Some y ≡ first_found look xs → Some y ≡ first_found look (xs ++ ys)
  found_first xs ys y e = ap (search_on look ys) e ∙ sym (searched xs ys)

  -- in the second one
  pub found_later : (xs ys : List X) (o : Option Y) → None ≡ first_found look xs → o ≡ first_found look ys → o ≡ first_found look (xs ++ ys)
  found_later xs ys o none e = e ∙ ap (search_on look ys) none ∙ sym (searched xs ys)

  -- the first one
  pub at_once : (x : X) (xs : List X) (y : Y) → Some y ≡ look x → Some y ≡ first_found look (x ∷ xs)
  at_once x xs y e = ap (λ o. elim o [ Some y ↦ Some y | None ↦ first_found look xs ]) e

  -- not the first one
  pub further : (x : X) (xs : List X) (o : Option Y) → None ≡ look x → o ≡ first_found look xs → o ≡ first_found look (x ∷ xs)
  further x xs o none e = e ∙ ap (λ o. elim o [ Some y ↦ Some y | None ↦ first_found look xs ]) none

-- ---- turns of a loop over terms

drop_here : (ts : List Term) (i : ℕ) (t : Term) → i < length ts → t ≡ get_or ts i t → args (drop i ts) ≡ arg (term t) (args (drop (i + 1) ts))
drop_here ts i t lt is =
    ap args (drop-cons ts i t lt) ∙ ap (λ x. arg (term x) (args (drop (suc i) ts))) (sym is) ∙ ap (λ k. arg (term t) (args (drop k ts))) (sym (add-one i))

module _ {Y : Type 0} (look : Tm → Option Y) (ts : List Term) (i : ℕ) (t : Term) where
  -- it is in this term
  pub turn_found : (y : Y) (whole : Option Y) → i < length ts → t ≡ get_or ts i t → first_found look (subterms_in (args (drop i ts))) ≡ whole →
      Some y ≡ first_found look (subterms (term t)) → Some y ≡ whole
  turn_found y whole lt is before e =
      found_first look (subterms (term t)) (subterms_in (args (drop (i + 1) ts))) y e ∙ ap (λ us. first_found look (subterms_in us)) (sym (drop_here ts i t lt is)) ∙ before

  -- it is further on
  pub turn_on : (whole : Option Y) → i < length ts → t ≡ get_or ts i t → first_found look (subterms_in (args (drop i ts))) ≡ whole →
      None ≡ first_found look (subterms (term t)) → first_found look (subterms_in (args (drop (i + 1) ts))) ≡ whole
  turn_on whole lt is before e =
      found_later look (subterms (term t)) (subterms_in (args (drop (i + 1) ts))) (first_found look (subterms_in (args (drop (i + 1) ts)))) e refl
      ∙ ap (λ us. first_found look (subterms_in us)) (sym (drop_here ts i t lt is)) ∙ before
