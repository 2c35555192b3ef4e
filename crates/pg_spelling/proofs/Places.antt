-- Where names stand in lists, and what they stand for under one binder more.
use Rattle.std.proofs.Common.{◌≡◌, ℕ, zero, suc, ◌+◌, ◌<◌, Bool, true, false, cond, ◌||◌, List, [], ◌∷◌, ◌++◌, length, map, refl, ap, sym, ◌∙◌, subst, append-nil, arith}
use Rattle.std.specs.Prelude.{Option, Some, None, option_map, position, nat_lt, slice_get}
use Rattle.std.specs.Option.{option_or}
use Rattle.std.specs.List.{list_any, position_or_len}
use Rattle.std.specs.Str.{bytes_eq}
use Rattle.std.proofs.lemmas.Bool.{or_parts, false≢true}
use Rattle.std.proofs.lemmas.Bool.Decides.{nat_tests}
use Rattle.std.proofs.lemmas.Slice.Eq.{bytes_eq-Decides}
use Rattle.std.proofs.lemmas.List.Folds.{list_any-append}
use Rattle.pg_logic.specs.Declarations.{Name, NamedPredicate, Declarations, name_of}
use Rattle.pg_meaning.specs.Scope.{Scope, outermost, is_called, function_named, predicate_named, looked_up, Thing, Binder, Variable, Function, Predicate}
use Rattle.pg_spelling.specs.Fresh.{is_taken}
use Rattle.pg_spelling.specs.Named.{under, live, function_names, predicate_names, declared_names, taken, name_at}
use Rattle.pg_spelling.specs.Back.{AllDiffer}
use Rattle.pg_spelling.proofs.Fresh.{by_bool, or_from}

-- ---- equal names

pub equal : (x y : Name) → bytes_eq x y ≡ true → x ≡ y
equal x y e = (bytes_eq-Decides x y).0 e

pub same : (x : Name) → bytes_eq x x ≡ true
same x = (bytes_eq-Decides x x).1 refl

-- names differ either way round
pub apart : (x y : Name) → bytes_eq x y ≡ false → bytes_eq y x ≡ false
apart x y e =
    by_bool (λ b. bytes_eq y x ≡ b → bytes_eq y x ≡ false) (bytes_eq y x)
    (λ _ f. absurd (false≢true (sym e ∙ (bytes_eq-Decides x y).1 (sym (equal y x f))))) (λ _ f. f) refl

-- ---- members

pub passed : {X : Type 0} (p : X → Bool) (xs : List X) (i : ℕ) (x : X) → list_any p xs ≡ false → slice_get xs i ≡ Some x → p x ≡ false
passed p [] i x e is = cc
passed p (y ∷ ys) zero x e is = let h : y ≡ x = cc in ap p (sym h) ∙ (or_parts _ _ e).0
passed p (y ∷ ys) (suc i) x e is = passed p ys i x (or_parts _ _ e).1 is

pub passed_live : (p : Name → Bool) (vars : List (Option Name)) (i : ℕ) (x : Name) → list_any p (live vars) ≡ false → slice_get vars i ≡ Some (Some x) → p x ≡ false
passed_live p [] i x e is = cc
passed_live p (None ∷ vars) zero x e is = cc
passed_live p (None ∷ vars) (suc i) x e is = passed_live p vars i x e is
passed_live p (Some y ∷ vars) zero x e is = let h : y ≡ x = cc in ap p (sym h) ∙ (or_parts _ _ e).0
passed_live p (Some y ∷ vars) (suc i) x e is = passed_live p vars i x (or_parts _ _ e).1 is

pub passed_at : (p : Name → Bool) (xs : List Name) (i : ℕ) → i < length xs → list_any p xs ≡ false → p (name_at xs i) ≡ false
passed_at p [] i lt e = absurd (omega (arith, lt))
passed_at p (y ∷ ys) zero lt e = (or_parts _ _ e).0
passed_at p (y ∷ ys) (suc i) lt e = passed_at p ys i (omega (arith, lt)) (or_parts _ _ e).1

-- ---- positions

place : (b : Bool) (k : ℕ) → Option ℕ
place b k = cond b (Some k) None

place-suc : (k n : ℕ) → place (nat_lt (suc k) (suc n)) (suc k) ≡ option_map suc (place (nat_lt k n) k)
unfolding place
place-suc k n = go (nat_lt (suc k) (suc n)) (nat_lt k n) (grind (arith, nat_tests))
  where
    go : (a b : Bool) → a ≡ b → cond a (Some (suc k)) None ≡ option_map suc (cond b (Some k) None)
    go true true e = refl
    go false false e = refl
    go true false e = absurd (false≢true (sym e))
    go false true e = absurd (false≢true e)

place-same : (j k n : ℕ) → j ≡ k → place (nat_lt j n) j ≡ place (nat_lt k n) k
unfolding place
place-same j k n e = ap (λ i. place (nat_lt i n) i) e

pub position-first : {X : Type 0} (p : X → Bool) (x : X) (xs : List X) → p x ≡ true → position p (x ∷ xs) ≡ Some 0
unfolding place
position-first p x xs is =
    let k : position_or_len p (x ∷ xs) ≡ 0 = rw is refl in
    let lt : nat_lt 0 (suc (length xs)) ≡ true = grind (arith, nat_tests) in
    place-same (position_or_len p (x ∷ xs)) 0 (suc (length xs)) k ∙ ap (λ b. place b 0) lt

pub position-skip : {X : Type 0} (p : X → Bool) (x : X) (xs : List X) → p x ≡ false → position p (x ∷ xs) ≡ option_map suc (position p xs)
unfolding place
position-skip p x xs is =
    let k : position_or_len p (x ∷ xs) ≡ suc (position_or_len p xs) = rw is (omega arith) in
    place-same (position_or_len p (x ∷ xs)) (suc (position_or_len p xs)) (suc (length xs)) k ∙ place-suc (position_or_len p xs) (length xs)

pub position-none : {X : Type 0} (p : X → Bool) (xs : List X) → list_any p xs ≡ false → position p xs ≡ None
position-none p [] e = refl
position-none p (x ∷ xs) e = position-skip p x xs (or_parts _ _ e).0 ∙ ap (option_map suc) (position-none p xs (or_parts _ _ e).1)

-- ---- one binder more

raised : Thing → Thing
raised (Binder i) = Binder (suc i)
raised (Variable i) = Variable i
raised (Function i) = Function i
raised (Predicate i) = Predicate i

found : Option ℕ → Option ℕ → Option ℕ → Option ℕ → Option Thing
found a b c d = option_or (option_map Binder a) (option_or (option_map Variable b) (option_or (option_map Function c) (option_map Predicate d)))

found-raised : (a b c d : Option ℕ) → found (option_map suc a) b c d ≡ option_map raised (found a b c d)
unfolding found raised
found-raised (Some i) b c d = refl
found-raised None (Some i) c d = refl
found-raised None None (Some i) d = refl
found-raised None None None (Some i) = refl
found-raised None None None None = refl

looked-skip : (s : Scope) (x y : Name) → bytes_eq x y ≡ false → looked_up (under y s) x ≡ option_map raised (looked_up s x)
unfolding found
looked-skip s x y e =
    ap (λ a. found a (position (is_called x) s.vars) (function_named s.declared x) (predicate_named s.declared x)) (position-skip (bytes_eq x) y s.binders e)
    ∙ found-raised (position (bytes_eq x) s.binders) (position (is_called x) s.vars) (function_named s.declared x) (predicate_named s.declared x)

-- ---- what names stand for

pub record IsApart (s : Scope) : Type 0 where
  pub binder : (i : ℕ) → i < length s.binders → looked_up s (name_at s.binders i) ≡ Some (Binder i)
  pub variable : (i : ℕ) (x : Name) → slice_get s.vars i ≡ Some (Some x) → looked_up s x ≡ Some (Variable i)
  pub function : (f : ℕ) (x : Name) → slice_get (function_names s.declared) f ≡ Some x → looked_up s x ≡ Some (Function f)
  pub predicate : (p : ℕ) (x : Name) → slice_get (predicate_names s.declared) p ≡ Some x → looked_up s x ≡ Some (Predicate p)

any-first : (p : Name → Bool) (xs ys : List Name) → list_any p (xs ++ ys) ≡ false → list_any p xs ≡ false
any-first p xs ys e = (or_parts _ _ (sym (list_any-append p xs ys) ∙ e)).0

any-second : (p : Name → Bool) (xs ys : List Name) → list_any p (xs ++ ys) ≡ false → list_any p ys ≡ false
any-second p xs ys e = (or_parts (list_any p xs) (list_any p ys) (sym (list_any-append p xs ys) ∙ e)).1

bound-under : (s : Scope) (y : Name) → IsApart s → list_any (bytes_eq y) s.binders ≡ false → (i : ℕ) → i < suc (length s.binders) → looked_up (under y s) (name_at (y ∷ s.binders) i) ≡ Some (Binder i)
unfolding raised
bound-under s y h e zero lt =
    ap (λ a. option_or (option_map Binder a) (option_or (option_map Variable (position (is_called y) s.vars)) (option_or (option_map Function (function_named s.declared y)) (option_map Predicate (predicate_named s.declared y)))))
    (position-first (bytes_eq y) y s.binders (same y))
bound-under s y h e (suc i) lt =
    let near : i < length s.binders = omega (arith, lt) in
    looked-skip s (name_at s.binders i) y (apart y (name_at s.binders i) (passed_at (bytes_eq y) s.binders i near e)) ∙ ap (option_map raised) (h.binder i near)

pub apart-under : (s : Scope) (y : Name) → IsApart s → is_taken (taken s) y ≡ false → IsApart (under y s)
unfolding raised
apart-under s y h e =
    let names : list_any (bytes_eq y) (taken s) ≡ false = (or_parts _ _ e).0 in
    let rest : list_any (bytes_eq y) (live s.vars ++ declared_names s.declared) ≡ false = any-second (bytes_eq y) s.binders (live s.vars ++ declared_names s.declared) names in
    let declared : list_any (bytes_eq y) (declared_names s.declared) ≡ false = any-second (bytes_eq y) (live s.vars) (declared_names s.declared) rest in
    record {
      binder = λ i lt. bound-under s y h (any-first (bytes_eq y) s.binders (live s.vars ++ declared_names s.declared) names) i lt;
      variable = λ i x is.
          looked-skip s x y (apart y x (passed_live (bytes_eq y) s.vars i x (any-first (bytes_eq y) (live s.vars) (declared_names s.declared) rest) is)) ∙ ap (option_map raised) (h.variable i x is);
      function = λ f x is.
          looked-skip s x y (apart y x (passed (bytes_eq y) (function_names s.declared) f x (any-first (bytes_eq y) (function_names s.declared) (predicate_names s.declared) declared) is)) ∙ ap (option_map raised) (h.function f x is);
      predicate = λ p x is.
          looked-skip s x y (apart y x (passed (bytes_eq y) (predicate_names s.declared) p x (any-second (bytes_eq y) (function_names s.declared) (predicate_names s.declared) declared) is)) ∙ ap (option_map raised) (h.predicate p x is);
    }

-- ---- outside of all binders

differ-second : (xs ys : List Name) → AllDiffer (xs ++ ys) → AllDiffer ys
differ-second [] ys h = h
differ-second (x ∷ xs) ys h = differ-second xs ys h.1

-- a name of the second part is none of the first
differ-across : (xs ys : List Name) (j : ℕ) (y : Name) → AllDiffer (xs ++ ys) → slice_get ys j ≡ Some y → list_any (bytes_eq y) xs ≡ false
differ-across [] ys j y h is = refl
differ-across (x ∷ xs) ys j y h is =
    or_from _ _ (apart x y (passed (bytes_eq x) ys j y (any-second (bytes_eq x) xs ys h.0) is)) (differ-across xs ys j y h.1 is)

-- a live name is none of the second part
differ-live : (vars : List (Option Name)) (ys : List Name) (i : ℕ) (x : Name) → AllDiffer (live vars ++ ys) → slice_get vars i ≡ Some (Some x) → list_any (bytes_eq x) ys ≡ false
differ-live [] ys i x h is = cc
differ-live (None ∷ vars) ys zero x h is = cc
differ-live (None ∷ vars) ys (suc i) x h is = differ-live vars ys i x h is
differ-live (Some y ∷ vars) ys zero x h is = let e : y ≡ x = cc in ap (λ z. list_any (bytes_eq z) ys) (sym e) ∙ any-second (bytes_eq y) (live vars) ys h.0
differ-live (Some y ∷ vars) ys (suc i) x h is = differ-live vars ys i x h.1 is

pub place-live : (vars : List (Option Name)) (ys : List Name) (i : ℕ) (x : Name) → AllDiffer (live vars ++ ys) → slice_get vars i ≡ Some (Some x) → position (is_called x) vars ≡ Some i
place-live [] ys i x h is = cc
place-live (None ∷ vars) ys zero x h is = cc
place-live (None ∷ vars) ys (suc i) x h is = position-skip (is_called x) None vars refl ∙ ap (option_map suc) (place-live vars ys i x h is)
place-live (Some y ∷ vars) ys zero x h is = let e : y ≡ x = cc in position-first (is_called x) (Some y) vars (ap (bytes_eq x) e ∙ same x)
place-live (Some y ∷ vars) ys (suc i) x h is =
    position-skip (is_called x) (Some y) vars (apart y x (passed_live (bytes_eq y) vars i x (any-first (bytes_eq y) (live vars) ys h.0) is))
    ∙ ap (option_map suc) (place-live vars ys i x h.1 is)

no-live : (vars : List (Option Name)) (x : Name) → list_any (bytes_eq x) (live vars) ≡ false → position (is_called x) vars ≡ None
no-live [] x e = refl
no-live (None ∷ vars) x e = position-skip (is_called x) None vars refl ∙ ap (option_map suc) (no-live vars x e)
no-live (Some y ∷ vars) x e = position-skip (is_called x) (Some y) vars (or_parts _ _ e).0 ∙ ap (option_map suc) (no-live vars x (or_parts _ _ e).1)

pub place-named : {X : Type 0} (v : X → Name) (xs : List X) (ys : List Name) (i : ℕ) (x : Name) → AllDiffer (map v xs ++ ys) → slice_get (map v xs) i ≡ Some x → position (λ f. bytes_eq x (v f)) xs ≡ Some i
place-named v [] ys i x h is = cc
place-named v (y ∷ xs) ys zero x h is = let e : v y ≡ x = cc in position-first (λ f. bytes_eq x (v f)) y xs (ap (bytes_eq x) e ∙ same x)
place-named v (y ∷ xs) ys (suc i) x h is =
    position-skip (λ f. bytes_eq x (v f)) y xs (apart (v y) x (passed (bytes_eq (v y)) (map v xs) i x (any-first (bytes_eq (v y)) (map v xs) ys h.0) is))
    ∙ ap (option_map suc) (place-named v xs ys i x h.1 is)

any-map : {X : Type 0} (v : X → Name) (x : Name) (xs : List X) → list_any (λ f. bytes_eq x (v f)) xs ≡ list_any (bytes_eq x) (map v xs)
any-map v x [] = refl
any-map v x (y ∷ ys) = ap (λ b. bytes_eq x (v y) || b) (any-map v x ys)

looked : (s : Scope) (x : Name) (a b c d : Option ℕ) → position (bytes_eq x) s.binders ≡ a → position (is_called x) s.vars ≡ b → function_named s.declared x ≡ c → predicate_named s.declared x ≡ d
    → looked_up s x ≡ found a b c d
unfolding found
looked s x a b c d e f g h =
    ap (λ o. found o (position (is_called x) s.vars) (function_named s.declared x) (predicate_named s.declared x)) e
    ∙ ap (λ o. found a o (function_named s.declared x) (predicate_named s.declared x)) f ∙ ap (λ o. found a b o (predicate_named s.declared x)) g ∙ ap (λ o. found a b c o) h

get-first : (xs ys : List Name) (i : ℕ) (x : Name) → slice_get xs i ≡ Some x → slice_get (xs ++ ys) i ≡ Some x
get-first [] ys i x is = cc
get-first (y ∷ xs) ys zero x is = is
get-first (y ∷ xs) ys (suc i) x is = get-first xs ys i x is

get-second : (xs ys : List Name) (i : ℕ) (x : Name) → slice_get ys i ≡ Some x → slice_get (xs ++ ys) (length xs + i) ≡ Some x
get-second [] ys i x is = let e : 0 + i ≡ i = omega arith in ap (slice_get ys) e ∙ is
get-second (y ∷ xs) ys i x is = let e : suc (length xs) + i ≡ suc (length xs + i) = omega arith in ap (slice_get (y ∷ (xs ++ ys))) e ∙ get-second xs ys i x is

differ-nil : (xs : List Name) → AllDiffer xs → AllDiffer (xs ++ [])
differ-nil xs h = subst AllDiffer (sym (append-nil xs)) h

pub apart-outermost : (vars : List (Option Name)) (d : Declarations) → AllDiffer (live vars ++ declared_names d) → IsApart (outermost vars d)
unfolding found
apart-outermost vars d h =
    let declared : AllDiffer (declared_names d) = differ-second (live vars) (declared_names d) h in
    record {
      binder = λ i lt. absurd (omega (arith, lt));
      variable = λ i x is. looked (outermost vars d) x None (Some i) _ _ refl (place-live vars (declared_names d) i x h is) refl refl;
      function = λ f x is.
          looked (outermost vars d) x None None (Some f) _ refl
          (no-live vars x (differ-across (live vars) (declared_names d) f x h (get-first (function_names d) (predicate_names d) f x is)))
          (place-named name_of d.functions (predicate_names d) f x declared is) refl;
      predicate = λ p x is.
          looked (outermost vars d) x None None None (Some p) refl
          (no-live vars x (differ-across (live vars) (declared_names d) (length (function_names d) + p) x h (get-second (function_names d) (predicate_names d) p x is)))
          (position-none (λ f. bytes_eq x (name_of f)) d.functions (any-map name_of x d.functions ∙ differ-across (function_names d) (predicate_names d) p x declared is))
          (place-named (λ (q : NamedPredicate). q.name) d.predicates [] p x (differ-nil (predicate_names d) (differ-second (function_names d) (predicate_names d) declared)) is);
    }
