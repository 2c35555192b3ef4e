-- The axioms fit no variable.
use Rattle.std.proofs.Common.{◌≡◌, ℕ, zero, suc, ◌+◌, ◌-◌, ◌<◌, ◌≤◌, List, [], ◌∷◌, ◌++◌, length, take, drop, true, Option, Some, None, refl, arith, ap, sym, ◌∙◌, subst, length-append}
use Rattle.std.specs.Prelude.{slice_get, slice_index_or, option_map, codes}
use Rattle.std.proofs.lemmas.Bool.{and_parts, and_from, lt-ltb, eq-eqb}
use Rattle.std.specs.List.{All}
use Rattle.std.proofs.lemmas.List.Elements.{All-append}
use Rattle.std.proofs.lemmas.List.{take-append-drop}
use Rattle.std.proofs.lemmas.Option.{slice_get-map}
use Rattle.pg_logic.specs.Tree.{Tm, free, bound, nought, succ, app, args_of, Fm, kept_bound, substituted, substituted_free}
use Rattle.pg_logic.specs.Signature.{Function, recursive, constant, Signature, function_arity, takes, count, fits_term, fits_terms, fits, IsDeclared}
use Rattle.pg_logic.specs.Truth.{IsTrueOf}
use Rattle.pg_logic.specs.Axioms.{quantified, binders, zero_axiom, succ_axiom, constant_axiom, succ_inj, zero_ne_succ, Axiom, named, equations, equations_from, axioms}
use Rattle.pg_logic.specs.Declarations.{Name, NamedFunction, by_recursion, by_term, Declarations, function_of, signature_of, HasParameters, AreDeclared}
use Rattle.pg_logic.proofs.Fitting.{Lands, fits_term-mapped}
use Rattle.pg_logic.proofs.Declaring.{fits_term-more}
use Rattle.pg_logic.proofs.AxiomTruth.{all_at, All-one, All-two, all_equations, true-axiom}

count-args_of : (ts : List Tm) → count (args_of ts) ≡ length ts
count-args_of [] = refl
count-args_of (t ∷ ts) = omega (arith, count-args_of ts)

-- arguments fit where each does
args-append : (fs : List Function) (n d : ℕ) (ts us : List Tm) → fits_terms fs n d (args_of ts) ≡ true → fits_terms fs n d (args_of us) ≡ true → fits_terms fs n d (args_of (ts ++ us)) ≡ true
args-append fs n d [] us h g = g
args-append fs n d (t ∷ ts) us h g = let p = and_parts _ _ h in and_from _ _ p.0 (args-append fs n d ts us p.1 g)

args-take : (fs : List Function) (n d k : ℕ) (ts : List Tm) → fits_terms fs n d (args_of ts) ≡ true → fits_terms fs n d (args_of (take k ts)) ≡ true
args-take fs n d zero ts h = refl
args-take fs n d (suc k) [] h = refl
args-take fs n d (suc k) (t ∷ ts) h = let p = and_parts _ _ h in and_from _ _ p.0 (args-take fs n d k ts p.1)

args-binders : (fs : List Function) (n d m : ℕ) → m ≤ d → fits_terms fs n d (args_of (binders m)) ≡ true
args-binders fs n d zero le = refl
args-binders fs n d (suc m) le = and_from _ _ (lt-ltb m d (omega arith)) (args-binders fs n d m (omega arith))

one_arg : (fs : List Function) (n d : ℕ) (ts : List Tm) (i : ℕ) (t : Tm) → i < length ts → fits_terms fs n d (args_of ts) ≡ true → fits_term fs n d (slice_index_or ts i t) ≡ true
one_arg fs n d [] i t lt h = absurd (omega arith)
one_arg fs n d (u ∷ ts) zero t lt h = (and_parts _ _ h).0
one_arg fs n d (u ∷ ts) (suc i) t lt h = one_arg fs n d ts i t (omega arith) (and_parts _ _ h).1

-- a term with terms for its variables
term-substituted : (fs : List Function) (n d : ℕ) (by : List Tm) (t : Tm) → fits_terms fs n d (args_of by) ≡ true → fits_term fs (length by) 0 t ≡ true → fits_term fs n d (substituted by t) ≡ true
term-substituted fs n d by t h g =
    let l : Lands fs (substituted_free by) kept_bound (length by) n 0 0 d = record { at_free = λ i lt. one_arg fs n d by i (free i) lt h; at_bound = λ i lt. absurd (omega arith) } in
    fits_term-mapped fs (substituted_free by) kept_bound (length by) n 0 0 d l t g

-- a declared function at as many arguments as it takes
term-called : (fs : List Function) (n d k : ℕ) (f : Function) (ts : List Tm) → slice_get fs k ≡ Some f → function_arity f ≡ length ts → fits_terms fs n d (args_of ts) ≡ true →
    fits_term fs n d (app k (args_of ts)) ≡ true
term-called fs n d k f ts is long h =
    and_from _ _ (ap (λ o. takes o (count (args_of ts))) is ∙ eq-eqb (function_arity f) (count (args_of ts)) (long ∙ sym (count-args_of ts))) h

-- over the first of the functions, over all
term-of_first : (fs : List Function) (k n d : ℕ) (t : Tm) → fits_term (take k fs) n d t ≡ true → fits_term fs n d t ≡ true
term-of_first fs k n d t h = subst (λ l. fits_term l n d t ≡ true) (take-append-drop k fs) (fits_term-more (take k fs) (drop k fs) n d t h)

formula-quantified : (s : Signature) (xs : List Name) (d : ℕ) (a : Fm) → fits s 0 (length xs + d) a ≡ true → fits s 0 d (quantified xs a) ≡ true
formula-quantified s [] d a h = let e : 0 + d ≡ d = omega arith in subst (λ d. fits s 0 d a ≡ true) e h
formula-quantified s (x ∷ xs) d a h =
    let e : suc (length xs) + d ≡ length xs + (d + 1) = omega arith in
    formula-quantified s xs (d + 1) a (subst (λ d. fits s 0 d a ≡ true) e h)

closed-quantified : (s : Signature) (xs : List Name) (n : ℕ) (a : Fm) → length xs ≡ n → fits s 0 n a ≡ true → fits s 0 0 (quantified xs a) ≡ true
closed-quantified s xs n a long h =
    let e : n ≡ length xs + 0 = omega (arith, long) in
    formula-quantified s xs 0 a (subst (λ d. fits s 0 d a ≡ true) e h)

length-binders : (n : ℕ) → length (binders n) ≡ n
length-binders zero = refl
length-binders (suc n) = ap suc (length-binders n)

length-take : {A : Type 0} → (xs : List A) (k : ℕ) → k ≤ length xs → length (take k xs) ≡ k
length-take xs zero le = refl
length-take [] (suc k) le = absurd (omega arith)
length-take (x ∷ xs) (suc k) le = omega (arith, length-take xs k (omega arith))

zero_axiom-fits : (s : Signature) → IsDeclared s → (k n : ℕ) (base step : Tm) (xs : List Name) → slice_get s.functions k ≡ Some (recursive n base step) → length xs ≡ n → 0 < n →
    fits_term (take k s.functions) (n - 1) 0 base ≡ true → fits s 0 0 (zero_axiom k n xs base) ≡ true
zero_axiom-fits s d k n base step xs is named some h =
    let fs = s.functions in
    let m = n - 1 in
    let vs = args-binders fs 0 m m (omega arith) in
    let long : n ≡ length (binders m ++ nought ∷ []) = omega (arith, length-append (binders m) (nought ∷ []), length-binders m) in
    let left = term-called fs 0 m k (recursive n base step) (binders m ++ nought ∷ []) is long (args-append fs 0 m (binders m) (nought ∷ []) vs refl) in
    let over = subst (λ j. fits_term fs j 0 base ≡ true) (sym (length-binders m)) (term-of_first fs k m 0 base h) in
    closed-quantified s (take m xs) m _ (length-take xs m (omega arith)) (and_from _ _ left (term-substituted fs 0 m (binders m) base vs over))

succ_axiom-fits : (s : Signature) → IsDeclared s → (k n : ℕ) (base step : Tm) (xs : List Name) → slice_get s.functions k ≡ Some (recursive n base step) → length xs ≡ n → 0 < n →
    fits_term (take k s.functions) (n + 1) 0 step ≡ true → fits s 0 0 (succ_axiom k n xs step) ≡ true
succ_axiom-fits s d k n base step xs is named some h =
    let fs = s.functions in
    let here = app k (args_of (binders n)) in
    let next = take (n - 1) (binders n) ++ succ (bound 0) ∷ [] in
    let by = binders n ++ here ∷ [] in
    let vs = args-binders fs 0 n n (omega arith) in
    let nearest : fits_terms fs 0 n (args_of (succ (bound 0) ∷ [])) ≡ true = and_from _ _ (lt-ltb 0 n some) refl in
    let front = length-take (binders n) (n - 1) (omega (arith, length-binders n)) in
    let long : n ≡ length next = omega (arith, length-append (take (n - 1) (binders n)) (succ (bound 0) ∷ []), front) in
    let left = term-called fs 0 n k (recursive n base step) next is long (args-append fs 0 n (take (n - 1) (binders n)) (succ (bound 0) ∷ []) (args-take fs 0 n (n - 1) (binders n) vs) nearest) in
    let there : fits_term fs 0 n here ≡ true = term-called fs 0 n k (recursive n base step) (binders n) is (sym (length-binders n)) vs in
    let put = args-append fs 0 n (binders n) (here ∷ []) vs (and_from _ _ there refl) in
    let many : n + 1 ≡ length by = omega (arith, length-append (binders n) (here ∷ []), length-binders n) in
    let over = subst (λ j. fits_term fs j 0 step ≡ true) many (term-of_first fs k (n + 1) 0 step h) in
    closed-quantified s xs n _ named (and_from _ _ left (term-substituted fs 0 n by step put over))

constant_axiom-fits : (s : Signature) → IsDeclared s → (k : ℕ) (body : Tm) → slice_get s.functions k ≡ Some (constant body) → fits s 0 0 (constant_axiom k body) ≡ true
constant_axiom-fits s d k body is =
    and_from _ _ (term-called s.functions 0 0 k (constant body) [] is refl refl) (term-of_first s.functions k 0 0 body (d.functions k (constant body) is))

-- what an axiom says fits no variable
abbrev IsClosedAxiom : Signature → Axiom → Type 0
IsClosedAxiom s x = fits s 0 0 x.says ≡ true

closed_equations : (d : Declarations) → AreDeclared d → (k : ℕ) (f : NamedFunction) → slice_get d.functions k ≡ Some f → All (IsClosedAxiom (signature_of d)) (equations k f)
closed_equations d a k (by_recursion name n params base step zero_name succ_name) e =
    let s = signature_of d in
    let is : slice_get s.functions k ≡ Some (recursive n base step) = slice_get-map function_of d.functions k ∙ ap (option_map function_of) e in
    let over = a.declared.functions k (recursive n base step) is in
    let named = all_at HasParameters d.functions k (by_recursion name n params base step zero_name succ_name) a.parameters e in
    All-two (IsClosedAxiom s) _ _ (zero_axiom-fits s a.declared k n base step params is named.1 named.0 over.1) (succ_axiom-fits s a.declared k n base step params is named.1 named.0 over.2)
closed_equations d a k (by_term name body equation_name) e =
    let s = signature_of d in
    let is : slice_get s.functions k ≡ Some (constant body) = slice_get-map function_of d.functions k ∙ ap (option_map function_of) e in
    All-one (IsClosedAxiom s) _ (constant_axiom-fits s a.declared k body is)

-- each axiom fits no variable
pub closed-axiom : (d : Declarations) → AreDeclared d → (id : ℕ) (x : Axiom) → slice_get (axioms d) id ≡ Some x → fits (signature_of d) 0 0 x.says ≡ true
closed-axiom d a id x e =
    let s = signature_of d in
    let first : (j : ℕ) (f : NamedFunction) → slice_get d.functions j ≡ Some f → All (IsClosedAxiom s) (equations (0 + j) f) =
    λ j f e. let at : j ≡ 0 + j = omega arith in subst (λ k. All (IsClosedAxiom s) (equations k f)) at (closed_equations d a j f e) in
    let inj = named (codes "succ_inj") succ_inj in
    let ne = named (codes "zero_ne_succ") zero_ne_succ in
    let rest = All-append (IsClosedAxiom s) (inj ∷ ne ∷ []) (equations_from 0 d.functions)
    (All-two (IsClosedAxiom s) inj ne refl refl) (all_equations (IsClosedAxiom s) 0 d.functions first) in
    all_at (IsClosedAxiom s) (axioms d) id x rest e

-- the same of what an axiom says
pub closed-says : (d : Declarations) → AreDeclared d → (id : ℕ) (a : Fm) → option_map (λ x. x.says) (slice_get (axioms d) id) ≡ Some a → fits (signature_of d) 0 0 a ≡ true
closed-says d h id a e = go (slice_get (axioms d) id) refl e
  where
    go : (o : Option Axiom) → slice_get (axioms d) id ≡ o → option_map (λ x. x.says) o ≡ Some a → fits (signature_of d) 0 0 a ≡ true
    go None is e = absurd (cc)
    go (Some x) is e = let says : x.says ≡ a = cc in subst (λ a. fits (signature_of d) 0 0 a ≡ true) says (closed-axiom d h id x is)

pub true-says : (d : Declarations) → AreDeclared d → (id : ℕ) (a : Fm) → option_map (λ x. x.says) (slice_get (axioms d) id) ≡ Some a → IsTrueOf (signature_of d) [] a
true-says d h id a e = go (slice_get (axioms d) id) refl e
  where
    go : (o : Option Axiom) → slice_get (axioms d) id ≡ o → option_map (λ x. x.says) o ≡ Some a → IsTrueOf (signature_of d) [] a
    go None is e = absurd (cc)
    go (Some x) is e = let says : x.says ≡ a = cc in subst (IsTrueOf (signature_of d) []) says (true-axiom d h id x is)
