-- What a shape means has live variables only.
use Rattle.std.proofs.Common.{◌≡◌, ℕ, Bool, true, false, List, [], ◌∷◌, position, Option, Some, None, refl, ap, ◌∙◌, sym, subst}
use Rattle.std.specs.Prelude.{slice_get}
use Rattle.std.proofs.lemmas.Bool.{and_parts, and_from}
use Rattle.std.proofs.lemmas.Option.{get_or_from_slice_get}
use Rattle.std.proofs.lemmas.List.Quantifiers.{position-Some}
use Rattle.pg_logic.specs.Tree.{Tm, free, bound, nought, succ, app, Tms, none, arg, Fm, falsum, eq, pred, and, or, imp, all, ex}
use Rattle.pg_grammar.specs.Shapes.{Implies, Or, And, Equal, NotEqual, LessEqual, Less, Plus, Times, Power, Quantifier, ForAll, Exists, Word, Named, Numeral, Falsum, Paren, Next, App, Neg, Quant, Binary}
use Rattle.pg_grammar.specs.Printing.{binder_words}
use Rattle.pg_meaning.specs.Scope.{Scope, under_name, under, in_body, Thing, Binder, Variable, Function, Predicate, is_called, function_named, predicate_named, looked_up, is_zero, sign_text}
use Rattle.pg_meaning.specs.Meaning.{function_term, thing_term, number_term, two, with_last, applied, term_of, predicate_formula, thing_formula, holds_at, bound_by, formula_of}
use Rattle.pg_meaning.specs.Live.{is_named, is_live, are_live, is_live_formula}
use Rattle.pg_meaning.specs.Laws.{TermLiveLaw, FormulaLiveLaw}
use Rattle.pg_meaning.proofs.Lookups.{either, made, there}

position_named : (x : List ℕ) (vars : List (Option (List ℕ))) (i : ℕ) → position (is_called x) vars ≡ Some i → is_named (slice_get vars i) ≡ true
position_named x vars i e =
    let found = position-Some (is_called x) vars i None e in
    let (v, is) = there vars i found.0 in
    ap is_named is ∙ called v (ap (is_called x) (sym (get_or_from_slice_get vars i v None is)) ∙ found.1)
  where
    called : (v : Option (List ℕ)) → is_called x v ≡ true → is_named (Some v) ≡ true
    called None h = cc
    called (Some name) h = refl

abbrev IsLive : Scope → Thing → Type 0
IsLive c thing = is_live c.vars (thing_term (Some thing)) ≡ true

thing-live : (c : Scope) (x : List ℕ) → is_live c.vars (thing_term (looked_up c x)) ≡ true
thing-live c x = by_thing (looked_up c x) refl
  where
    each : (thing : Thing) → looked_up c x ≡ Some thing → IsLive c thing
    each =
        either (IsLive c) _ _ (made (IsLive c) Binder _ (λ i e. refl))
        (either (IsLive c) _ _ (made (IsLive c) Variable _ (position_named x c.vars))
        (either (IsLive c) _ _ (made (IsLive c) Function _ (λ f e. refl))
        (made (IsLive c) Predicate _ (λ p e. refl))))

    by_thing : (o : Option Thing) → looked_up c x ≡ o → is_live c.vars (thing_term (looked_up c x)) ≡ true
    by_thing None e = ap (λ o. is_live c.vars (thing_term o)) e
    by_thing (Some thing) e = ap (λ o. is_live c.vars (thing_term o)) e ∙ each thing e

function-live : (vars : List (Option (List ℕ))) (o : Option ℕ) (ts : Tms) → are_live vars ts ≡ true → is_live vars (function_term o ts) ≡ true
function-live vars None ts h = refl
function-live vars (Some f) ts h = h

predicate-live : (vars : List (Option (List ℕ))) (o : Option ℕ) (ts : Tms) → are_live vars ts ≡ true → is_live_formula vars (predicate_formula o ts) ≡ true
predicate-live vars None ts h = refl
predicate-live vars (Some p) ts h = h

number-live : (c : Scope) (text : List ℕ) → is_live c.vars (number_term c text) ≡ true
number-live c text = by_test (is_zero text) refl
  where
    by_test : (b : Bool) → is_zero text ≡ b → is_live c.vars (number_term c text) ≡ true
    by_test true is = rw is refl
    by_test false is = rw is (function-live c.vars (function_named c.declared text) none refl)

last-live : (vars : List (Option (List ℕ))) (ts : Tms) (t : Tm) → are_live vars ts ≡ true → is_live vars t ≡ true → are_live vars (with_last ts t) ≡ true
last-live vars none t h k = and_from _ _ k refl
last-live vars (arg s ss) t h k = let p = and_parts _ _ h in and_from _ _ p.0 (last-live vars ss t p.1 k)

applied-live : (vars : List (Option (List ℕ))) (s t : Tm) → is_live vars s ≡ true → is_live vars t ≡ true → is_live vars (applied s t) ≡ true
applied-live vars (app f ts) t h k = last-live vars ts t h k
applied-live vars (free i) t h k = h
applied-live vars (bound i) t h k = h
applied-live vars nought t h k = h
applied-live vars (succ s) t h k = h

holds-live : (vars : List (Option (List ℕ))) (a : Fm) (t : Tm) → is_live_formula vars a ≡ true → is_live vars t ≡ true → is_live_formula vars (holds_at a t) ≡ true
holds-live vars (pred p ts) t h k = last-live vars ts t h k
holds-live vars falsum t h k = h
holds-live vars (eq u v) t h k = h
holds-live vars (and a b) t h k = h
holds-live vars (or a b) t h k = h
holds-live vars (imp a b) t h k = h
holds-live vars (all x a) t h k = h
holds-live vars (ex x a) t h k = h

pub term-live : TermLiveLaw
term-live c (Named x) = thing-live c x.text
term-live c (Numeral x) = number-live c x.text
term-live c (Falsum at) = refl
term-live c (Paren at s) = term-live c s
term-live c (Next at s) = term-live c s
term-live c (App f s) = applied-live c.vars (term_of c f) (term_of c s) (term-live c f) (term-live c s)
term-live c (Neg at s) = refl
term-live c (Quant at q b s) = refl
term-live c (Binary at op l r) =
    function-live c.vars (function_named c.declared (sign_text op)) (two (term_of c l) (term_of c r)) (and_from _ _ (term-live c l) (and_from _ _ (term-live c r) refl))

formula-thing : (c : Scope) (o : Option Thing) → is_live_formula c.vars (thing_formula o) ≡ true
formula-thing c None = refl
formula-thing c (Some (Binder i)) = refl
formula-thing c (Some (Variable i)) = refl
formula-thing c (Some (Function f)) = refl
formula-thing c (Some (Predicate p)) = refl

under-vars : (xs : List Word) (c : Scope) → (under c xs).vars ≡ c.vars
under-vars [] c = refl
under-vars (x ∷ xs) c = under-vars xs (under_name c x)

bound-live : (vars : List (Option (List ℕ))) (q : Quantifier) (xs : List Word) (a : Fm) → is_live_formula vars a ≡ true → is_live_formula vars (bound_by q xs a) ≡ true
bound-live vars q [] a h = h
bound-live vars ForAll (x ∷ xs) a h = bound-live vars ForAll xs a h
bound-live vars Exists (x ∷ xs) a h = bound-live vars Exists xs a h

pub formula-live : FormulaLiveLaw
formula-live c (Named x) = formula-thing c (looked_up c x.text)
formula-live c (Numeral x) = refl
formula-live c (Falsum at) = refl
formula-live c (Paren at s) = formula-live c s
formula-live c (Next at s) = refl
formula-live c (App f s) = holds-live c.vars (formula_of c f) (term_of c s) (formula-live c f) (term-live c s)
formula-live c (Neg at s) = and_from _ _ (formula-live c s) refl
formula-live c (Quant at q b s) =
    bound-live c.vars q (binder_words b) (formula_of (in_body c b) s) (subst (λ vars. is_live_formula vars (formula_of (in_body c b) s) ≡ true) (under-vars (binder_words b) c) (formula-live (in_body c b) s))
formula-live c (Binary at Implies l r) = and_from _ _ (formula-live c l) (formula-live c r)
formula-live c (Binary at Or l r) = and_from _ _ (formula-live c l) (formula-live c r)
formula-live c (Binary at And l r) = and_from _ _ (formula-live c l) (formula-live c r)
formula-live c (Binary at Equal l r) = and_from _ _ (term-live c l) (term-live c r)
formula-live c (Binary at NotEqual l r) = and_from _ _ (and_from _ _ (term-live c l) (term-live c r)) refl
formula-live c (Binary at LessEqual l r) =
    predicate-live c.vars (predicate_named c.declared (sign_text LessEqual)) (two (term_of c l) (term_of c r)) (and_from _ _ (term-live c l) (and_from _ _ (term-live c r) refl))
formula-live c (Binary at Less l r) =
    predicate-live c.vars (predicate_named c.declared (sign_text Less)) (two (term_of c l) (term_of c r)) (and_from _ _ (term-live c l) (and_from _ _ (term-live c r) refl))
formula-live c (Binary at Plus l r) = refl
formula-live c (Binary at Times l r) = refl
formula-live c (Binary at Power l r) = refl
