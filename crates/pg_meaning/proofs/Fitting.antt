-- What a shape without a fault means fits the scope.
use Rattle.std.proofs.Common.{◌≡◌, ◌⊎◌, inl, inr, ℕ, ◌+◌, ◌<◌, Bool, true, false, List, [], ◌∷◌, length, option_map, Option, Some, None, refl, ap, ◌∙◌, sym, subst, arith}
use Rattle.std.specs.Prelude.{slice_get, codes}
use Rattle.std.proofs.lemmas.Bool.{lt-ltb, and_parts, and_from}
use Rattle.pg_logic.specs.Tree.{Tm, free, bound, nought, succ, app, Tms, none, arg, Fm, falsum, eq, pred, and, or, imp, all, ex}
use Rattle.pg_logic.specs.Signature.{Function, Signature, takes, holds_of, count, fits_term, fits_terms, fits}
use Rattle.pg_logic.specs.Declarations.{signature_of}
use Rattle.pg_grammar.specs.Shapes.{Op, Implies, Or, And, Equal, NotEqual, LessEqual, Less, Plus, Times, Power, Quantifier, ForAll, Exists, Word, Shape, Named, Numeral, Falsum, Paren, Next, App, Neg, Quant, Binary, can_apply, IsShape}
use Rattle.pg_grammar.specs.Printing.{binder_words}
use Rattle.pg_meaning.specs.Scope.{Scope, under_name, under, in_body, Thing, Binder, Variable, Function as FunctionThing, Predicate, function_named, predicate_named, looked_up, thing_needs, is_zero, number_needs, function_needs, predicate_needs, sign_text, sign_needs}
use Rattle.pg_meaning.specs.Faults.{Sort, TermSort, FormulaSort, thing_sort, sort, sign_sort, operand_sort, beginning, misfit, use_fault, head_fault, own_fault, own_or, parts_fault}
use Rattle.pg_meaning.specs.Meaning.{function_term, thing_term, number_term, two, sign_term, with_last, applied, term_of, predicate_formula, thing_formula, holds_at, bound_by, formula_of}
use Rattle.pg_meaning.specs.Laws.{TermFitLaw, FormulaFitLaw}
use Rattle.pg_meaning.proofs.Lookups.{neither, position_within, IsThere, found, as_needed, takes-needed, holds-needed}

-- ---- n arguments more

count-last : (ts : Tms) (t : Tm) → count (with_last ts t) ≡ count ts + 1
count-last none t = refl
count-last (arg s ss) t = ap (λ n. n + 1) (count-last ss t)

fits-last : (fs : List Function) (n d : ℕ) (ts : Tms) (t : Tm) → fits_terms fs n d ts ≡ true → fits_term fs n d t ≡ true → fits_terms fs n d (with_last ts t) ≡ true
fits-last fs n d none t h k = and_from _ _ k refl
fits-last fs n d (arg s ss) t h k = let p = and_parts _ _ h in and_from _ _ p.0 (fits-last fs n d ss t p.1 k)

-- the application fits once it has n arguments more
abbrev TermFits : List Function → (vars depth n : ℕ) → Tm → Type 0
TermFits fs vars depth n (app f ts) = (takes (slice_get fs f) (count ts + n) ≡ true) × (fits_terms fs vars depth ts ≡ true)
TermFits fs vars depth n t = fits_term fs vars depth t ≡ true

abbrev FormulaFits : Signature → (vars depth n : ℕ) → Fm → Type 0
FormulaFits s vars depth n (pred p ts) = (holds_of (slice_get s.predicates p) (count ts + n) ≡ true) × (fits_terms s.functions vars depth ts ≡ true)
FormulaFits s vars depth n a = fits s vars depth a ≡ true

term-whole : (fs : List Function) (vars depth : ℕ) (t : Tm) → TermFits fs vars depth 0 t → fits_term fs vars depth t ≡ true
term-whole fs vars depth (app f ts) h = and_from _ _ (ap (takes (slice_get fs f)) (omega arith) ∙ h.0) h.1
term-whole fs vars depth (free i) h = h
term-whole fs vars depth (bound i) h = h
term-whole fs vars depth nought h = h
term-whole fs vars depth (succ t) h = h

formula-whole : (s : Signature) (vars depth : ℕ) (a : Fm) → FormulaFits s vars depth 0 a → fits s vars depth a ≡ true
formula-whole s vars depth (pred p ts) h = and_from _ _ (ap (holds_of (slice_get s.predicates p)) (omega arith) ∙ h.0) h.1
formula-whole s vars depth falsum h = h
formula-whole s vars depth (eq t u) h = h
formula-whole s vars depth (and a b) h = h
formula-whole s vars depth (or a b) h = h
formula-whole s vars depth (imp a b) h = h
formula-whole s vars depth (all x a) h = h
formula-whole s vars depth (ex x a) h = h

one-more : (ts : Tms) (t : Tm) (n : ℕ) → count (with_last ts t) + n ≡ count ts + (n + 1)
one-more ts t n = omega (arith, count-last ts t)

term-more : (fs : List Function) (vars depth n : ℕ) (s t : Tm) → TermFits fs vars depth (n + 1) s → fits_term fs vars depth t ≡ true → TermFits fs vars depth n (applied s t)
term-more fs vars depth n (app f ts) t h k = (ap (takes (slice_get fs f)) (one-more ts t n) ∙ h.0, fits-last fs vars depth ts t h.1 k)
term-more fs vars depth n (free i) t h k = h
term-more fs vars depth n (bound i) t h k = h
term-more fs vars depth n nought t h k = h
term-more fs vars depth n (succ s) t h k = h

formula-more : (s : Signature) (vars depth n : ℕ) (a : Fm) (t : Tm) → FormulaFits s vars depth (n + 1) a → fits_term s.functions vars depth t ≡ true → FormulaFits s vars depth n (holds_at a t)
formula-more s vars depth n (pred p ts) t h k = (ap (holds_of (slice_get s.predicates p)) (one-more ts t n) ∙ h.0, fits-last s.functions vars depth ts t h.1 k)
formula-more s vars depth n falsum t h k = h
formula-more s vars depth n (eq u v) t h k = h
formula-more s vars depth n (and a b) t h k = h
formula-more s vars depth n (or a b) t h k = h
formula-more s vars depth n (imp a b) t h k = h
formula-more s vars depth n (all x a) t h k = h
formula-more s vars depth n (ex x a) t h k = h

-- ---- names, numbers and signs

abbrev TermFitsIn : Scope → ℕ → Tm → Type 0
TermFitsIn c n t = TermFits (signature_of c.declared).functions (length c.vars) (length c.binders) n t

abbrev FormulaFitsIn : Scope → ℕ → Fm → Type 0
FormulaFitsIn c n a = FormulaFits (signature_of c.declared) (length c.vars) (length c.binders) n a

thing-term : (c : Scope) (at from n : ℕ) (o : Option Thing) → ((thing : Thing) → o ≡ Some thing → IsThere c thing) → misfit TermSort (option_map thing_sort o) from ≡ None
    → use_fault at n (option_map (thing_needs c.declared) o) ≡ None → TermFitsIn c n (thing_term o)
thing-term c at from n None there m u = cc
thing-term c at from n (Some (Binder i)) there m u = lt-ltb i (length c.binders) (there (Binder i) refl)
thing-term c at from n (Some (Variable i)) there m u = lt-ltb i (length c.vars) (there (Variable i) refl)
thing-term c at from n (Some (FunctionThing f)) there m u =
    (takes-needed c.declared f (0 + n) (there (FunctionThing f) refl) (omega (arith, as_needed at n (function_needs c.declared f) u)), refl)
thing-term c at from n (Some (Predicate p)) there m u = cc

thing-formula : (c : Scope) (at from n : ℕ) (o : Option Thing) → ((thing : Thing) → o ≡ Some thing → IsThere c thing) → misfit FormulaSort (option_map thing_sort o) from ≡ None
    → use_fault at n (option_map (thing_needs c.declared) o) ≡ None → FormulaFitsIn c n (thing_formula o)
thing-formula c at from n None there m u = cc
thing-formula c at from n (Some (Binder i)) there m u = cc
thing-formula c at from n (Some (Variable i)) there m u = cc
thing-formula c at from n (Some (FunctionThing f)) there m u = cc
thing-formula c at from n (Some (Predicate p)) there m u =
    (holds-needed c.declared p (0 + n) (there (Predicate p) refl) (omega (arith, as_needed at n (predicate_needs c.declared p) u)), refl)

-- a function at arguments that fit
function-term : (c : Scope) (at has n : ℕ) (o : Option ℕ) (ts : Tms) → ((f : ℕ) → o ≡ Some f → f < length c.declared.functions) → use_fault at has (option_map (function_needs c.declared) o) ≡ None
    → count ts + n ≡ has → fits_terms (signature_of c.declared).functions (length c.vars) (length c.binders) ts ≡ true → TermFitsIn c n (function_term o ts)
function-term c at has n None ts there u e h = cc
function-term c at has n (Some f) ts there u e h = (takes-needed c.declared f (count ts + n) (there f refl) (e ∙ as_needed at has (function_needs c.declared f) u), h)

predicate-formula : (c : Scope) (at has n : ℕ) (o : Option ℕ) (ts : Tms) → ((p : ℕ) → o ≡ Some p → p < length c.declared.predicates) → use_fault at has (option_map (predicate_needs c.declared) o) ≡ None
    → count ts + n ≡ has → fits_terms (signature_of c.declared).functions (length c.vars) (length c.binders) ts ≡ true → FormulaFitsIn c n (predicate_formula o ts)
predicate-formula c at has n None ts there u e h = cc
predicate-formula c at has n (Some p) ts there u e h = (holds-needed c.declared p (count ts + n) (there p refl) (e ∙ as_needed at has (predicate_needs c.declared p) u), h)

number-term : (c : Scope) (at n : ℕ) (text : List ℕ) → use_fault at n (number_needs c text) ≡ None → TermFitsIn c n (number_term c text)
number-term c at n text u = by_test (is_zero text) refl
  where
    by_test : (b : Bool) → is_zero text ≡ b → TermFitsIn c n (number_term c text)
    by_test true is = rw is refl
    by_test false is =
        let needs : number_needs c text ≡ option_map (function_needs c.declared) (function_named c.declared text) = rw is refl in
        let u : use_fault at n (option_map (function_needs c.declared) (function_named c.declared text)) ≡ None = ap (use_fault at n) (sym needs) ∙ u in
        let means : number_term c text ≡ function_term (function_named c.declared text) none = rw is refl in
        subst (TermFitsIn c n) (sym means) (function-term c at n n (function_named c.declared text) none (position_within _ c.declared.functions) u (omega arith) refl)

function_sign : (c : Scope) (at n : ℕ) (name : List ℕ) (s t : Tm) → n ≡ 0 → use_fault at 2 (option_map (function_needs c.declared) (function_named c.declared name)) ≡ None
    → fits_term (signature_of c.declared).functions (length c.vars) (length c.binders) s ≡ true → fits_term (signature_of c.declared).functions (length c.vars) (length c.binders) t ≡ true
    → TermFitsIn c n (function_term (function_named c.declared name) (two s t))
function_sign c at n name s t e u h k = function-term c at 2 n (function_named c.declared name) (two s t) (position_within _ c.declared.functions) u (ap (λ m. 2 + m) e) (and_from _ _ h (and_from _ _ k refl))

predicate_sign : (c : Scope) (at n : ℕ) (name : List ℕ) (s t : Tm) → n ≡ 0 → use_fault at 2 (option_map (predicate_needs c.declared) (predicate_named c.declared name)) ≡ None
    → fits_term (signature_of c.declared).functions (length c.vars) (length c.binders) s ≡ true → fits_term (signature_of c.declared).functions (length c.vars) (length c.binders) t ≡ true
    → FormulaFitsIn c n (predicate_formula (predicate_named c.declared name) (two s t))
predicate_sign c at n name s t e u h k = predicate-formula c at 2 n (predicate_named c.declared name) (two s t) (position_within _ c.declared.predicates) u (ap (λ m. 2 + m) e) (and_from _ _ h (and_from _ _ k refl))

-- ---- shapes

-- more arguments may follow where any are wanted
abbrev May : ℕ → Shape → Type 0
May n s = (n ≡ 0) ⊎ (can_apply s ≡ true)

pub record Faultless (c : Scope) (want : Sort) (n : ℕ) (s : Shape) : Type 0 where
  pub sorted : misfit want (sort c s) (beginning s) ≡ None
  pub headed : head_fault c n s ≡ None
  pub parts : parts_fault c s ≡ None

faultless : (c : Scope) (want : Sort) (s : Shape) → own_or c want s (parts_fault c s) ≡ None → Faultless c want 0 s
faultless c want s e =
    let p = neither (own_fault c want s) (parts_fault c s) e in
    let q = neither (misfit want (sort c s) (beginning s)) (head_fault c 0 s) p.0 in
    record { sorted = q.0; headed = q.1; parts = p.1 }

moved : (want : Sort) (o : Option Sort) (from to : ℕ) → misfit want o from ≡ None → misfit want o to ≡ None
moved want None from to e = refl
moved TermSort (Some TermSort) from to e = refl
moved FormulaSort (Some FormulaSort) from to e = refl
moved TermSort (Some FormulaSort) from to e = cc
moved FormulaSort (Some TermSort) from to e = cc

-- a term that fits
abbrev Fits : Scope → Shape → Type 0
Fits c s = fits_term (signature_of c.declared).functions (length c.vars) (length c.binders) (term_of c s) ≡ true

abbrev Holds : Scope → Shape → Type 0
Holds c s = fits (signature_of c.declared) (length c.vars) (length c.binders) (formula_of c s) ≡ true

abbrev Is : Scope → Sort → Shape → Type 0
Is c want s = own_or c want s (parts_fault c s) ≡ None

sign-term : (c : Scope) (n at from : ℕ) (op : Op) (l r : Shape) → n ≡ 0 → misfit TermSort (Some (sign_sort op)) from ≡ None → use_fault at 2 (sign_needs c op) ≡ None
    → (Is c TermSort l → Fits c l) → (Is c TermSort r → Fits c r) → Is c (operand_sort op) l → Is c (operand_sort op) r → TermFitsIn c n (sign_term c op (term_of c l) (term_of c r))
sign-term c n at from Plus l r e m u f g h k = function_sign c at n (codes "+") (term_of c l) (term_of c r) e u (f h) (g k)
sign-term c n at from Times l r e m u f g h k = function_sign c at n (codes "*") (term_of c l) (term_of c r) e u (f h) (g k)
sign-term c n at from Power l r e m u f g h k = function_sign c at n (codes "^") (term_of c l) (term_of c r) e u (f h) (g k)
sign-term c n at from Implies l r e m u f g h k = absurd cc
sign-term c n at from Or l r e m u f g h k = absurd cc
sign-term c n at from And l r e m u f g h k = absurd cc
sign-term c n at from Equal l r e m u f g h k = absurd cc
sign-term c n at from NotEqual l r e m u f g h k = absurd cc
sign-term c n at from LessEqual l r e m u f g h k = absurd cc
sign-term c n at from Less l r e m u f g h k = absurd cc

fits-term : (c : Scope) (n : ℕ) (s : Shape) → IsShape s → May n s → Faultless c TermSort n s → TermFitsIn c n (term_of c s)
fits-term c n (Named x) i m h = thing-term c x.at x.at n (looked_up c x.text) (found c x.text) h.sorted h.headed
fits-term c n (Numeral x) i m h = number-term c x.at n x.text h.headed
fits-term c n (Falsum at) i m h = absurd cc
fits-term c n (Paren at s) i (inl e) h = fits-term c n s i (inl e) (record { sorted = moved TermSort (sort c s) at (beginning s) h.sorted; headed = h.headed; parts = h.parts })
fits-term c n (Paren at s) i (inr e) h = absurd cc
fits-term c n (Next at s) i m h = term-whole _ _ _ (term_of c s) (fits-term c 0 s i.1 (inl refl) (faultless c TermSort s h.parts))
fits-term c n (App f s) i m h =
    let p = neither (parts_fault c f) (own_or c TermSort s (parts_fault c s)) h.parts in
    let first = fits-term c (n + 1) f i.2 (inr i.0) (record { sorted = h.sorted; headed = h.headed; parts = p.0 }) in
    let second = term-whole _ _ _ (term_of c s) (fits-term c 0 s i.3 (inl refl) (faultless c TermSort s p.1)) in
    term-more _ _ _ n (term_of c f) (term_of c s) first second
fits-term c n (Neg at s) i m h = absurd cc
fits-term c n (Quant at q b s) i m h = absurd cc
fits-term c n (Binary at op l r) i (inr e) h = absurd cc
fits-term c n (Binary at op l r) i (inl e) h =
    let p = neither (own_or c (operand_sort op) l (parts_fault c l)) (own_or c (operand_sort op) r (parts_fault c r)) h.parts in
    let left : Is c TermSort l → Fits c l = λ k. term-whole _ _ _ (term_of c l) (fits-term c 0 l i.2 (inl refl) (faultless c TermSort l k)) in
    let right : Is c TermSort r → Fits c r = λ k. term-whole _ _ _ (term_of c r) (fits-term c 0 r i.3 (inl refl) (faultless c TermSort r k)) in
    sign-term c n at (beginning l) op l r e h.sorted h.headed left right p.0 p.1

pub term-fit : TermFitLaw
term-fit c s i e = term-whole _ _ _ (term_of c s) (fits-term c 0 s i (inl refl) (faultless c TermSort s e))

-- ---- formulas

bound-fits : (q : Quantifier) (xs : List Word) (c : Scope) (a : Fm) → fits (signature_of (under c xs).declared) (length (under c xs).vars) (length (under c xs).binders) a ≡ true
    → fits (signature_of c.declared) (length c.vars) (length c.binders) (bound_by q xs a) ≡ true
bound-fits q [] c a h = h
bound-fits ForAll (x ∷ xs) c a h =
    subst (λ d. fits (signature_of c.declared) (length c.vars) d (bound_by ForAll xs a) ≡ true) (omega arith) (bound-fits ForAll xs (under_name c x) a h)
bound-fits Exists (x ∷ xs) c a h =
    subst (λ d. fits (signature_of c.declared) (length c.vars) d (bound_by Exists xs a) ≡ true) (omega arith) (bound-fits Exists xs (under_name c x) a h)

from-whole : (s : Signature) (vars depth n : ℕ) (a : Fm) → n ≡ 0 → fits s vars depth a ≡ true → FormulaFits s vars depth n a
from-whole s vars depth n (pred p ts) e h =
    let k = and_parts _ _ h in
    (ap (holds_of (slice_get s.predicates p)) (omega (arith, e)) ∙ k.0, k.1)
from-whole s vars depth n falsum e h = h
from-whole s vars depth n (eq t u) e h = h
from-whole s vars depth n (and a b) e h = h
from-whole s vars depth n (or a b) e h = h
from-whole s vars depth n (imp a b) e h = h
from-whole s vars depth n (all x a) e h = h
from-whole s vars depth n (ex x a) e h = h

sign-formula : (c : Scope) (n at from : ℕ) (op : Op) (l r : Shape) → n ≡ 0 → misfit FormulaSort (Some (sign_sort op)) from ≡ None → use_fault at 2 (sign_needs c op) ≡ None
    → (Is c TermSort l → Fits c l) → (Is c TermSort r → Fits c r) → (Is c FormulaSort l → Holds c l) → (Is c FormulaSort r → Holds c r)
    → Is c (operand_sort op) l → Is c (operand_sort op) r → FormulaFitsIn c n (formula_of c (Binary at op l r))
sign-formula c n at from Plus l r e m u f g p q h k = absurd cc
sign-formula c n at from Times l r e m u f g p q h k = absurd cc
sign-formula c n at from Power l r e m u f g p q h k = absurd cc
sign-formula c n at from Implies l r e m u f g p q h k = and_from _ _ (p h) (q k)
sign-formula c n at from Or l r e m u f g p q h k = and_from _ _ (p h) (q k)
sign-formula c n at from And l r e m u f g p q h k = and_from _ _ (p h) (q k)
sign-formula c n at from Equal l r e m u f g p q h k = and_from _ _ (f h) (g k)
sign-formula c n at from NotEqual l r e m u f g p q h k = and_from _ _ (and_from _ _ (f h) (g k)) refl
sign-formula c n at from LessEqual l r e m u f g p q h k = predicate_sign c at n (sign_text LessEqual) (term_of c l) (term_of c r) e u (f h) (g k)
sign-formula c n at from Less l r e m u f g p q h k = predicate_sign c at n (sign_text Less) (term_of c l) (term_of c r) e u (f h) (g k)

term-inside : (c : Scope) (s : Shape) → IsShape s → Is c TermSort s → Fits c s
term-inside c s i k = term-whole _ _ _ (term_of c s) (fits-term c 0 s i (inl refl) (faultless c TermSort s k))

fits-formula : (c : Scope) (n : ℕ) (s : Shape) → IsShape s → May n s → Faultless c FormulaSort n s → FormulaFitsIn c n (formula_of c s)
fits-formula c n (Named x) i m h = thing-formula c x.at x.at n (looked_up c x.text) (found c x.text) h.sorted h.headed
fits-formula c n (Numeral x) i m h = absurd cc
fits-formula c n (Falsum at) i m h = refl
fits-formula c n (Paren at s) i (inl e) h = fits-formula c n s i (inl e) (record { sorted = moved FormulaSort (sort c s) at (beginning s) h.sorted; headed = h.headed; parts = h.parts })
fits-formula c n (Paren at s) i (inr e) h = absurd cc
fits-formula c n (Next at s) i m h = absurd cc
fits-formula c n (App f s) i m h =
    let p = neither (parts_fault c f) (own_or c TermSort s (parts_fault c s)) h.parts in
    let first = fits-formula c (n + 1) f i.2 (inr i.0) (record { sorted = h.sorted; headed = h.headed; parts = p.0 }) in
    formula-more _ _ _ n (formula_of c f) (term_of c s) first (term-inside c s i.3 p.1)
fits-formula c n (Neg at s) i m h = and_from _ _ (formula-whole _ _ _ (formula_of c s) (fits-formula c 0 s i.1 (inl refl) (faultless c FormulaSort s h.parts))) refl
fits-formula c n (Quant at q b s) i (inr e) h = absurd cc
fits-formula c n (Quant at q b s) i (inl e) h =
    let body : Holds (in_body c b) s = formula-whole _ _ _ (formula_of (in_body c b) s) (fits-formula (in_body c b) 0 s i (inl refl) (faultless (in_body c b) FormulaSort s h.parts)) in
    from-whole _ _ _ n (bound_by q (binder_words b) (formula_of (in_body c b) s)) e (bound-fits q (binder_words b) c (formula_of (in_body c b) s) body)
fits-formula c n (Binary at op l r) i (inr e) h = absurd cc
fits-formula c n (Binary at op l r) i (inl e) h =
    let p = neither (own_or c (operand_sort op) l (parts_fault c l)) (own_or c (operand_sort op) r (parts_fault c r)) h.parts in
    let left : Is c FormulaSort l → Holds c l = λ k. formula-whole _ _ _ (formula_of c l) (fits-formula c 0 l i.2 (inl refl) (faultless c FormulaSort l k)) in
    let right : Is c FormulaSort r → Holds c r = λ k. formula-whole _ _ _ (formula_of c r) (fits-formula c 0 r i.3 (inl refl) (faultless c FormulaSort r k)) in
    sign-formula c n at (beginning l) op l r e h.sorted h.headed (term-inside c l i.2) (term-inside c r i.3) left right p.0 p.1

pub formula-fit : FormulaFitLaw
formula-fit c s i e = formula-whole _ _ _ (formula_of c s) (fits-formula c 0 s i (inl refl) (faultless c FormulaSort s e))
