-- An order has each world once and behind its needs, and there is no other.
use Rattle.std.proofs.Common.{◌≡◌, ℕ, zero, suc, ◌≤◌, Bool, List, [], ◌∷◌, ◌++◌, length, take, refl, sym, ap, ◌∙◌, subst, inl, inr, arith, add-one}
use Rattle.std.specs.Prelude.{slice_index}
use Rattle.std.proofs.lemmas.Bool.{cases_lt, cases_order, false≢true}
use Rattle.std.proofs.lemmas.List.{get_or-take, length-take-le, take_all, take_more}
use Rattle.pg_worlds.specs.Flags.{has}
use Rattle.pg_worlds.specs.Worlds.{Worlds, world_count, can_be_placed, IsFirstBelow, IsFirstEachTime, IsWorldOrder, WorldOrderLaw}
use Rattle.pg_worlds.proofs.Placing.{has_at, behind_needs, was_left}

first_is_one : (n : ℕ) (test : ℕ → Bool) (x y : ℕ) → IsFirstBelow n test x → IsFirstBelow n test y → x ≡ y
first_is_one n test x y first_x first_y =
    elim (cases_order x y) [
      | inl same ↦ same
      | inr apart ↦ elim apart [
        | inl less ↦ absurd (false≢true (sym (first_y.2 x less) ∙ first_x.1))
        | inr more ↦ absurd (false≢true (sym (first_x.2 y more) ∙ first_y.1))
      ]
    ]

same_front : (g : Worlds) (a b : List ℕ) → IsFirstEachTime g a → IsFirstEachTime g b → (n : ℕ) → n ≤ length a → n ≤ length b → take n a ≡ take n b
same_front g a b first_a first_b zero h l = refl
same_front g a b first_a first_b (suc n) h l =
    let so_far = same_front g a b first_a first_b n (omega arith) (omega arith) in
    let next : slice_index a n ≡ slice_index b n =
    first_is_one (world_count g) (can_be_placed g (has (take n a))) (slice_index a n) (slice_index b n) (first_a n (omega arith))
    (subst (λ before. IsFirstBelow (world_count g) (can_be_placed g (has before)) (slice_index b n)) (sym so_far) (first_b n (omega arith)))
    in
    ap (λ k. take k a) (sym (add-one n)) ∙ take_more a n 0 (omega arith) ∙ (λ i. so_far i ++ next i ∷ []) ∙ sym (take_more b n 0 (omega arith)) ∙ ap (λ k. take k b) (add-one n)

-- an order isn't the beginning of a longer one
no_longer : (g : Worlds) (a b : List ℕ) → IsWorldOrder g a → IsWorldOrder g b → length b ≤ length a
no_longer g a b order_a order_b =
    elim (cases_lt (length a) (length b)) [
      | inr le ↦ le
      | inl longer ↦
          let n = length a in
          let next = order_b.first_each_time n longer in
          let front : take n b ≡ a = sym (same_front g a b order_a.first_each_time order_b.first_each_time n (omega arith) (omega arith)) ∙ take_all n a (omega arith) in
          let new = was_left g (has (take n b)) (slice_index b n) next.1 in
          absurd (false≢true (sym new ∙ ap (λ xs. has xs (slice_index b n)) front ∙ order_a.every_world (slice_index b n) next.0))
    ]

pub one_order : WorldOrderLaw
one_order = λ g order ordered. (
  behind_needs g order ordered.first_each_time,
  (λ i j l h same.
      let new = was_left g (has (take j order)) (slice_index order j) (ordered.first_each_time j h).1 in
      false≢true (sym new ∙ has_at (take j order) i (slice_index order j) (omega (arith, length-take-le j order (omega arith))) (get_or-take j order i 0 l ∙ same))),
  (λ other also.
      let le = no_longer g order other ordered also in
      let ge = no_longer g other order also ordered in
      let n = length order in
      sym (take_all n other (omega arith)) ∙ same_front g other order also.first_each_time ordered.first_each_time n (omega arith) (omega arith) ∙ take_all n order (omega arith)),
)
