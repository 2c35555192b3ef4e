-- One more declaration, where nothing refuses it.
use Rattle.std.proofs.Common.{◌≡◌, ℕ, zero, suc, ◌+◌, ◌-◌, ◌<◌, ◌≤◌, ◌^◌, List, [], ◌∷◌, ◌++◌, map, length, take, get_or, Bool, true, false, Option, Some, None, refl, arith, ap, sym, ◌∙◌, subst, append_assoc, append-nil}
use Rattle.std.specs.Prelude.{slice_get, nat_lt, option_map, flat_map, codes, if◌then◌else◌}
use Rattle.std.proofs.lemmas.Bool.{and_parts, and_from, false≢true, ltb-false}
use Rattle.std.proofs.lemmas.Grind.{flat_map-append}
use Rattle.std.specs.List.{All}
use Rattle.std.proofs.lemmas.List.{take-append-le, length-map}
use Rattle.std.proofs.lemmas.List.Elements.{All-push}
use Rattle.std.proofs.lemmas.Option.{slice_get-get_or}
use Rattle.std.proofs.Math.Seq.{take-length}
use Rattle.pg_logic.specs.Tree.{Tm, free, bound, nought, succ, app, Tms, none, arg, Fm, falsum, eq, pred, and, or, imp, all, ex}
use Rattle.pg_logic.specs.Signature.{Function, Predicate, Signature, takes, holds_of, count, fits_term, fits_terms, fits, FitsFunction, StandsAfter, IsDeclared}
use Rattle.pg_logic.specs.Declarations.{NamedFunction, by_recursion, by_term, NamedPredicate, Declarations, names_in, names_of, function_of, predicate_of, signature_of, arity_of, arity_limit, clash, first, unless_true, undeclared, undeclared_all, undeclared_in, loose, loose_all, loose_in, arity_over, loose_variable, refusal_by, function_refusal, predicate_refusal, HasParameters, AreDeclared, with_function, with_predicate}
use Rattle.pg_logic.proofs.Names.{differ-between}

-- two lists that are empty together
left_empty : (xs ys : List ℕ) → xs ++ ys ≡ [] → xs ≡ []
left_empty [] ys e = refl
left_empty (x ∷ xs) ys e = absurd (cc)

right_empty : (xs ys : List ℕ) → xs ++ ys ≡ [] → ys ≡ []
right_empty [] ys e = e
right_empty (x ∷ xs) ys e = absurd (cc)

is_true : (b : Bool) (k : ℕ) → unless_true b k ≡ [] → b ≡ true
is_true true k e = refl
is_true false k e = absurd (cc)

pub first-none : (xs : List ℕ) → first xs ≡ None → xs ≡ []
first-none [] e = refl
first-none (x ∷ xs) e = absurd (cc)

-- a tree fits where nothing is undeclared and nothing loose
mutual
  pub fits_term-from : (fs : List Function) (n d : ℕ) (t : Tm) → undeclared fs t ≡ [] → loose n d t ≡ [] → fits_term fs n d t ≡ true
  fits_term-from fs n d (free i) u l = is_true (nat_lt i n) i l
  fits_term-from fs n d (bound i) u l = is_true (nat_lt i d) i l
  fits_term-from fs n d nought u l = refl
  fits_term-from fs n d (succ t) u l = fits_term-from fs n d t u l
  fits_term-from fs n d (app f ts) u l =
      let here = unless_true (takes (slice_get fs f) (count ts)) f in
      and_from _ _ (is_true (takes (slice_get fs f) (count ts)) f (left_empty here (undeclared_all fs ts) u)) (fits_terms-from fs n d ts (right_empty here (undeclared_all fs ts) u) l)

  pub fits_terms-from : (fs : List Function) (n d : ℕ) (ts : Tms) → undeclared_all fs ts ≡ [] → loose_all n d ts ≡ [] → fits_terms fs n d ts ≡ true
  fits_terms-from fs n d none u l = refl
  fits_terms-from fs n d (arg t ts) u l =
      and_from _ _
      (fits_term-from fs n d t (left_empty (undeclared fs t) (undeclared_all fs ts) u) (left_empty (loose n d t) (loose_all n d ts) l))
      (fits_terms-from fs n d ts (right_empty (undeclared fs t) (undeclared_all fs ts) u) (right_empty (loose n d t) (loose_all n d ts) l))

pub fits-from : (s : Signature) (n d : ℕ) (a : Fm) → undeclared_in s a ≡ [] → loose_in n d a ≡ [] → fits s n d a ≡ true
fits-from s n d falsum u l = refl
fits-from s n d (eq a b) u l =
    let fs = s.functions in
    and_from _ _
    (fits_term-from fs n d a (left_empty (undeclared fs a) (undeclared fs b) u) (left_empty (loose n d a) (loose n d b) l))
    (fits_term-from fs n d b (right_empty (undeclared fs a) (undeclared fs b) u) (right_empty (loose n d a) (loose n d b) l))
fits-from s n d (pred p ts) u l =
    let here = unless_true (holds_of (slice_get s.predicates p) (count ts)) p in
    and_from _ _
    (is_true (holds_of (slice_get s.predicates p) (count ts)) p (left_empty here (undeclared_all s.functions ts) u))
    (fits_terms-from s.functions n d ts (right_empty here (undeclared_all s.functions ts) u) l)
fits-from s n d (and a b) u l =
    and_from _ _
    (fits-from s n d a (left_empty (undeclared_in s a) (undeclared_in s b) u) (left_empty (loose_in n d a) (loose_in n d b) l))
    (fits-from s n d b (right_empty (undeclared_in s a) (undeclared_in s b) u) (right_empty (loose_in n d a) (loose_in n d b) l))
fits-from s n d (or a b) u l =
    and_from _ _
    (fits-from s n d a (left_empty (undeclared_in s a) (undeclared_in s b) u) (left_empty (loose_in n d a) (loose_in n d b) l))
    (fits-from s n d b (right_empty (undeclared_in s a) (undeclared_in s b) u) (right_empty (loose_in n d a) (loose_in n d b) l))
fits-from s n d (imp a b) u l =
    and_from _ _
    (fits-from s n d a (left_empty (undeclared_in s a) (undeclared_in s b) u) (left_empty (loose_in n d a) (loose_in n d b) l))
    (fits-from s n d b (right_empty (undeclared_in s a) (undeclared_in s b) u) (right_empty (loose_in n d a) (loose_in n d b) l))
fits-from s n d (all x a) u l = fits-from s n (d + 1) a u l
fits-from s n d (ex x a) u l = fits-from s n (d + 1) a u l

-- what is declared stays so
takes-more : (fs gs : List Function) (k n : ℕ) → takes (slice_get fs k) n ≡ true → takes (slice_get (fs ++ gs) k) n ≡ true
takes-more [] gs k n h = absurd (false≢true h)
takes-more (f ∷ fs) gs zero n h = h
takes-more (f ∷ fs) gs (suc k) n h = takes-more fs gs k n h

mutual
  pub fits_term-more : (fs gs : List Function) (n d : ℕ) (t : Tm) → fits_term fs n d t ≡ true → fits_term (fs ++ gs) n d t ≡ true
  fits_term-more fs gs n d (free i) h = h
  fits_term-more fs gs n d (bound i) h = h
  fits_term-more fs gs n d nought h = refl
  fits_term-more fs gs n d (succ t) h = fits_term-more fs gs n d t h
  fits_term-more fs gs n d (app f ts) h = let p = and_parts _ _ h in and_from _ _ (takes-more fs gs f (count ts) p.0) (fits_terms-more fs gs n d ts p.1)

  pub fits_terms-more : (fs gs : List Function) (n d : ℕ) (ts : Tms) → fits_terms fs n d ts ≡ true → fits_terms (fs ++ gs) n d ts ≡ true
  fits_terms-more fs gs n d none h = refl
  fits_terms-more fs gs n d (arg t ts) h = let p = and_parts _ _ h in and_from _ _ (fits_term-more fs gs n d t p.0) (fits_terms-more fs gs n d ts p.1)

-- a signature with more functions
abbrev pub extended : Signature → List Function → Signature
extended s gs = record { functions = s.functions ++ gs; predicates = s.predicates }

pub fits-more : (s : Signature) (gs : List Function) (n d : ℕ) (a : Fm) → fits s n d a ≡ true → fits (extended s gs) n d a ≡ true
fits-more s gs n d falsum h = refl
fits-more s gs n d (eq a b) h = let p = and_parts _ _ h in and_from _ _ (fits_term-more s.functions gs n d a p.0) (fits_term-more s.functions gs n d b p.1)
fits-more s gs n d (pred q ts) h = let p = and_parts _ _ h in and_from _ _ p.0 (fits_terms-more s.functions gs n d ts p.1)
fits-more s gs n d (and a b) h = let p = and_parts _ _ h in and_from _ _ (fits-more s gs n d a p.0) (fits-more s gs n d b p.1)
fits-more s gs n d (or a b) h = let p = and_parts _ _ h in and_from _ _ (fits-more s gs n d a p.0) (fits-more s gs n d b p.1)
fits-more s gs n d (imp a b) h = let p = and_parts _ _ h in and_from _ _ (fits-more s gs n d a p.0) (fits-more s gs n d b p.1)
fits-more s gs n d (all x a) h = fits-more s gs n (d + 1) a h
fits-more s gs n d (ex x a) h = fits-more s gs n (d + 1) a h

-- an element of a list with one more at its end, over those before it
each-push : {A : Type 0} (P : List A → A → Type 0) (xs : List A) (x : A) → ((k : ℕ) (y : A) → slice_get xs k ≡ Some y → P (take k xs) y) → P xs x →
    (k : ℕ) (y : A) → slice_get (xs ++ x ∷ []) k ≡ Some y → P (take k (xs ++ x ∷ [])) y
each-push P [] x each last zero y e = let is : x ≡ y = cc in subst (P []) is last
each-push P [] x each last (suc k) y e = absurd (cc)
each-push P (z ∷ zs) x each last zero y e = each zero y e
each-push P (z ∷ zs) x each last (suc k) y e = each-push (λ l. P (z ∷ l)) zs x (λ k. each (suc k)) last k y e

length_push : {A : Type 0} → (xs : List A) (x : A) → length (xs ++ x ∷ []) ≡ length xs + 1
length_push [] x = refl
length_push (y ∷ ys) x = omega (arith, length_push ys x)

pub declared-function : (s : Signature) (f : Function) → IsDeclared s → FitsFunction s.functions f → IsDeclared (extended s (f ∷ []))
declared-function s f d h = record {
  functions = each-push FitsFunction s.functions f d.functions h;
  predicates = λ k p e.
      subst (λ fs. fits (record { functions = fs; predicates = take k s.predicates }) p.arity 0 p.body ≡ true)
      (sym (take-append-le p.functions_before s.functions (f ∷ []) (d.order k p e).0)) (d.predicates k p e);
  order = λ k p e. let o = d.order k p e in (omega (arith, o.0, length_push s.functions f), o.1);
}

-- what holds of each by its place holds of all
all-from : {A : Type 0} (P : A → Type 0) (xs : List A) → ((k : ℕ) (x : A) → slice_get xs k ≡ Some x → P x) → All P xs
all-from P xs h = λ k d lt. h k (get_or xs k d) (slice_get-get_or xs k d lt)

pub declared-predicate : (s : Signature) (p : Predicate) → IsDeclared s → p.functions_before ≡ length s.functions → fits s p.arity 0 p.body ≡ true →
    IsDeclared (record { functions = s.functions; predicates = s.predicates ++ p ∷ [] })
declared-predicate s p d next h =
    let whole : take p.functions_before s.functions ≡ s.functions = ap (λ n. take n s.functions) next ∙ take-length s.functions in
    let earlier : All (λ q. q.functions_before ≤ p.functions_before) s.predicates =
    all-from (λ q. q.functions_before ≤ p.functions_before) s.predicates (λ k q e. omega (arith, (d.order k q e).0)) in
    record {
      functions = d.functions;
      predicates = each-push (λ ps p. fits (record { functions = take p.functions_before s.functions; predicates = ps }) p.arity 0 p.body ≡ true) s.predicates p d.predicates
          (subst (λ fs. fits (record { functions = fs; predicates = s.predicates }) p.arity 0 p.body ≡ true) (sym whole) h);
      order = each-push (StandsAfter s.functions) s.predicates p d.order (omega arith, earlier);
    }

-- nothing refuses
record Nothing (taken : Bool) (later : Option ℕ) (arity : ℕ) (astray : Option ℕ) : Type 0 where
  free_names : taken ≡ false
  none_later : later ≡ None
  few : arity ≤ arity_limit
  none_astray : astray ≡ None

few_of : (b : Bool) (arity : ℕ) (astray : Option ℕ) → (if b then Some (arity_over arity) else option_map loose_variable astray) ≡ None → (b ≡ false) × (astray ≡ None)
few_of true arity astray e = absurd (cc)
few_of false arity None e = (refl, refl)
few_of false arity (Some i) e = absurd (cc)

nothing : (taken : Bool) (later : Option ℕ) (arity : ℕ) (astray : Option ℕ) → refusal_by taken later arity astray ≡ None → Nothing taken later arity astray
nothing true later arity astray e = absurd (cc)
nothing false (Some k) arity astray e = absurd (cc)
nothing false None arity astray e =
    let p = few_of (nat_lt arity_limit arity) arity astray e in
    record { free_names = refl; none_later = refl; few = ltb-false arity_limit arity p.0; none_astray = p.1 }

pub map_push : {A B : Type 0} → (f : A → B) (xs : List A) (x : A) → map f (xs ++ x ∷ []) ≡ map f xs ++ f x ∷ []
map_push f [] x = refl
map_push f (y ∷ ys) x = ap (λ l. f y ∷ l) (map_push f ys x)

-- a function that nothing refuses is over those before it
fits_function : (d : Declarations) (f : NamedFunction) → HasParameters f → function_refusal d f ≡ None → FitsFunction (signature_of d).functions (function_of f) × (arity_of f ≤ arity_limit)
fits_function d (by_recursion name n params base step zero_name succ_name) named e =
    let fs = (signature_of d).functions in
    let p = nothing
    (clash (names_of d) (name ∷ zero_name ∷ succ_name ∷ []))
    (first (undeclared fs base ++ undeclared fs step))
    n
    (first (loose (n - 1) 0 base ++ loose (n + 1) 0 step)) e in
    let later = first-none (undeclared fs base ++ undeclared fs step) p.none_later in
    let astray = first-none (loose (n - 1) 0 base ++ loose (n + 1) 0 step) p.none_astray in (
      (
        named.0,
        fits_term-from fs (n - 1) 0 base (left_empty (undeclared fs base) (undeclared fs step) later) (left_empty (loose (n - 1) 0 base) (loose (n + 1) 0 step) astray),
        fits_term-from fs (n + 1) 0 step (right_empty (undeclared fs base) (undeclared fs step) later) (right_empty (loose (n - 1) 0 base) (loose (n + 1) 0 step) astray),
      ),
      p.few,
    )
fits_function d (by_term name body equation_name) named e =
    let fs = (signature_of d).functions in
    let p = nothing (clash (names_of d) (name ∷ equation_name ∷ [])) (first (undeclared fs body)) 0 (first (loose 0 0 body)) e in
    (fits_term-from fs 0 0 body (first-none (undeclared fs body) p.none_later) (first-none (loose 0 0 body) p.none_astray), omega arith)

-- its names clash with none
fresh_names : (d : Declarations) (f : NamedFunction) → function_refusal d f ≡ None → clash (names_of d) (names_in f) ≡ false
fresh_names d (by_recursion name n params base step zero_name succ_name) e =
    let fs = (signature_of d).functions in
    (nothing
    (clash (names_of d) (name ∷ zero_name ∷ succ_name ∷ []))
    (first (undeclared fs base ++ undeclared fs step))
    n
    (first (loose (n - 1) 0 base ++ loose (n + 1) 0 step)) e).free_names
fresh_names d (by_term name body equation_name) e =
    let fs = (signature_of d).functions in
    (nothing (clash (names_of d) (name ∷ equation_name ∷ [])) (first (undeclared fs body)) 0 (first (loose 0 0 body)) e).free_names

-- the names with those of one more function, with that of one more predicate
names_with_function : (d : Declarations) (f : NamedFunction) → clash [] (names_of d) ≡ false → clash (names_of d) (names_in f) ≡ false → clash [] (names_of (with_function d f)) ≡ false
names_with_function d f e h =
    let front = flat_map names_in d.functions in
    let after = map (λ p. p.name) d.predicates ++ codes "succ_inj" ∷ codes "zero_ne_succ" ∷ [] in
    let made : flat_map names_in (d.functions ++ f ∷ []) ++ after ≡ front ++ (names_in f ++ after) =
    ap (λ l. l ++ after) (flat_map-append names_in d.functions (f ∷ []))
    ∙ ap (λ l. (front ++ l) ++ after) (append-nil (names_in f))
    ∙ append_assoc front (names_in f) after in
    subst (λ l. clash [] l ≡ false) (sym made) (differ-between front (names_in f) after e h)

names_with_predicate : (d : Declarations) (p : NamedPredicate) → clash [] (names_of d) ≡ false → clash (names_of d) (p.name ∷ []) ≡ false → clash [] (names_of (with_predicate d p)) ≡ false
names_with_predicate d p e h =
    let front = flat_map names_in d.functions in
    let middle = map (λ p. p.name) d.predicates in
    let after = codes "succ_inj" ∷ codes "zero_ne_succ" ∷ [] in
    let before : front ++ (middle ++ after) ≡ (front ++ middle) ++ after = sym (append_assoc front middle after) in
    let made : front ++ (map (λ p. p.name) (d.predicates ++ p ∷ []) ++ after) ≡ (front ++ middle) ++ (p.name ∷ after) =
    ap (λ l. front ++ (l ++ after)) (map_push (λ p. p.name) d.predicates p)
    ∙ ap (λ l. front ++ l) (append_assoc middle (p.name ∷ []) after)
    ∙ sym (append_assoc front middle (p.name ∷ after)) in
    subst (λ l. clash [] l ≡ false) (sym made)
    (differ-between (front ++ middle) (p.name ∷ []) after (subst (λ l. clash [] l ≡ false) before e) (subst (λ l. clash l (p.name ∷ []) ≡ false) before h))

pub declared-with_function : (d : Declarations) (f : NamedFunction) → AreDeclared d → HasParameters f → length d.functions + 1 < 2 ^ 16 → function_refusal d f ≡ None → AreDeclared (with_function d f)
declared-with_function d f a named room e =
    let p = fits_function d f named e in
    record {
      declared = subst (λ fs. IsDeclared (record { functions = fs; predicates = (signature_of d).predicates })) (sym (map_push function_of d.functions f))
          (declared-function (signature_of d) (function_of f) a.declared p.0);
      names_differ = names_with_function d f a.names_differ (fresh_names d f e);
      parameters = All-push HasParameters d.functions f a.parameters named;
      function_arities = All-push (λ f. arity_of f ≤ arity_limit) d.functions f a.function_arities p.1;
      predicate_arities = a.predicate_arities;
      function_room = omega (arith, length_push d.functions f);
      predicate_room = a.predicate_room;
    }

pub declared-with_predicate : (d : Declarations) (p : NamedPredicate) → AreDeclared d → p.functions_before ≡ length d.functions → length d.predicates + 1 < 2 ^ 16 → predicate_refusal d p ≡ None →
    AreDeclared (with_predicate d p)
declared-with_predicate d p a next room e =
    let s = signature_of d in
    let q = nothing (clash (names_of d) (p.name ∷ [])) (first (undeclared_in s p.body)) p.arity (first (loose_in p.arity 0 p.body)) e in
    let body = fits-from s p.arity 0 p.body (first-none (undeclared_in s p.body) q.none_later) (first-none (loose_in p.arity 0 p.body) q.none_astray) in
    record {
      declared = subst (λ ps. IsDeclared (record { functions = s.functions; predicates = ps })) (sym (map_push predicate_of d.predicates p))
          (declared-predicate s (predicate_of p) a.declared (next ∙ sym (length-map d.functions function_of)) body);
      names_differ = names_with_predicate d p a.names_differ q.free_names;
      parameters = a.parameters;
      function_arities = a.function_arities;
      predicate_arities = All-push (λ p. p.arity ≤ arity_limit) d.predicates p a.predicate_arities q.few;
      function_room = a.function_room;
      predicate_room = omega (arith, length_push d.predicates p);
    }
