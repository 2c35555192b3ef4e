-- Hints that stand one behind the other.
use Rattle.std.proofs.Common.{◌≡◌, ℕ, zero, suc, ◌+◌, ◌-◌, ◌<◌, ◌||◌, Bool, length, get_or, take, drop, add-one, map, [], ◌∷◌, ◌++◌, List, Some, Result, Ok, Err, refl, sym, ap, ◌∙◌, arith}
use Rattle.std.specs.Prelude.{flat_map}
use Rattle.std.specs.List.{list_any}
use Rattle.std.proofs.lemmas.List.Folds.{list_any-append}
use Rattle.std.proofs.Math.Seq.{drop-cons}
use Rattle.pg_script.specs.declared.item.Item.{Item}
use Rattle.pg_script.specs.View.{entry}
use Rattle.pg_script.specs.Data.{entries_of}
use Rattle.pg_gametext.specs.Faults.{fault, least, Limit, Hints, hint_limit}
use Rattle.pg_gametext.specs.Checks.{hints_in, hints_in_all, hint_faults}
use Rattle.pg_hints.specs.Counts.{left_of}

-- how many more there may be behind these, where so many were left
abbrev pub then_left : Result ℕ ℕ → List ℕ → Result ℕ ℕ
then_left (Ok left) ats = left_of left ats
then_left (Err at) ats = Err at

pub left_joined : (room : ℕ) (xs ys : List ℕ) → left_of room (xs ++ ys) ≡ then_left (left_of room xs) ys
left_joined room [] ys = refl
left_joined zero (x ∷ xs) ys = refl
left_joined (suc room) (x ∷ xs) ys = left_joined room xs ys

abbrev pub hints_at : List Item → List ℕ
hints_at items = hints_in_all (entries_of (map entry items))

drop_here : (items : List Item) (i : ℕ) (e : Item) → i < length items → e ≡ get_or items i e → drop i items ≡ e ∷ drop (i + 1) items
drop_here items i e lt is =
    drop-cons items i e lt ∙ ap (λ x. x ∷ drop (suc i) items) (sym is) ∙ ap (λ k. e ∷ drop k items) (sym (add-one i))

-- a turn of the loop over items
pub turn : (room left : ℕ) (items : List Item) (i : ℕ) (e : Item) (r : Result ℕ ℕ) → i < length items → e ≡ get_or items i e
    → left_of left (hints_at (drop i items)) ≡ left_of room (hints_at items) → r ≡ left_of left (hints_in (entry e))
    → then_left r (hints_at (drop (i + 1) items)) ≡ left_of room (hints_at items)
turn room left items i e r lt is before here =
    let more = hints_at (drop (i + 1) items) in
    ap (λ q. then_left q more) here
    ∙ sym (left_joined left (hints_in (entry e)) more)
    ∙ ap (λ xs. left_of left (hints_at xs)) (sym (drop_here items i e lt is))
    ∙ before

-- a turn of the search for a hint
pub one_here : (p : ℕ → Bool) (items : List Item) (i : ℕ) (e : Item) (here all : Bool) → i < length items → e ≡ get_or items i e
    → list_any p (hints_at (drop i items)) ≡ all → here ≡ list_any p (hints_in (entry e))
    → (here || list_any p (hints_at (drop (i + 1) items))) ≡ all
one_here p items i e here all lt is before own =
    ap (λ b. b || list_any p (hints_at (drop (i + 1) items))) own
    ∙ sym (list_any-append p (hints_in (entry e)) (hints_at (drop (i + 1) items)))
    ∙ ap (λ xs. list_any p (hints_at xs)) (sym (drop_here items i e lt is))
    ∙ before

-- ---- what is left, and the definition's faults

none_over : (room left : ℕ) (ats : List ℕ) → left_of room ats ≡ Ok left → drop room ats ≡ []
none_over zero left [] e = refl
none_over (suc room) left [] e = refl
none_over zero left (at ∷ ats) e = absurd cc
none_over (suc room) left (at ∷ ats) e = none_over room left ats e

pub counted : (room left : ℕ) (ats : List ℕ) → left_of room ats ≡ Ok left → length ats + left ≡ room
counted room left [] e = omega (arith, left_is room left e)
  where
    left_is : (room left : ℕ) → (let r : Result ℕ ℕ = Ok room in r) ≡ Ok left → left ≡ room
    left_is room left e = cc
counted zero left (at ∷ ats) e = absurd cc
counted (suc room) left (at ∷ ats) e = omega (arith, counted room left ats e)

-- the fault of a hint that is too many
over_at : (room at : ℕ) (ats : List ℕ) → left_of room ats ≡ Err at
    → least (flat_map (λ at. fault at (Limit Hints (suc hint_limit)) ∷ []) (take 1 (drop room ats))) ≡ Some (fault at (Limit Hints (suc hint_limit)))
over_at room at [] e = absurd cc
over_at zero at (a ∷ ats) e = ap (λ n. Some (fault n (Limit Hints (suc hint_limit)))) (at_is a at e)
  where
    at_is : (a at : ℕ) → (let r : Result ℕ ℕ = Err a in r) ≡ Err at → a ≡ at
    at_is a at e = cc
over_at (suc room) at (a ∷ ats) e = over_at room at ats e

pub no_fault : (before left : ℕ) (ats : List ℕ) → left_of (hint_limit - before) ats ≡ Ok left → hint_faults before ats ≡ []
no_fault before left ats e = ap (λ xs. flat_map (λ at. fault at (Limit Hints (suc hint_limit)) ∷ []) (take 1 xs)) (none_over (hint_limit - before) left ats e)

pub first_fault : (before at : ℕ) (ats : List ℕ) → left_of (hint_limit - before) ats ≡ Err at → least (hint_faults before ats) ≡ Some (fault at (Limit Hints (suc hint_limit)))
first_fault before at ats e = over_at (hint_limit - before) at ats e
