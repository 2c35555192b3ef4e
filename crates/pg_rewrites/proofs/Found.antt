-- The values that are found: as many as there are binders, whose names are the first ones.
use Rattle.std.proofs.Common.{◌≡◌, ℕ, ◌≤◌, ◌<◌, ◌^◌, List, [], ◌∷◌, ◌++◌, length, take, Bool, true, false, ◌&&◌, Option, Some, None, refl, arith, ap, sym, ◌∙◌, subst}
use Rattle.std.specs.Prelude.{Result, Ok, Err, option_map, if◌then◌else◌}
use Rattle.std.specs.List.{list_all}
use Rattle.std.proofs.lemmas.List.{length-map}
use Rattle.pg_logic.specs.Tree.{Tm, free, bound, nought, succ, app, Fm, is_tight, is_tight_formula, falsum, eq, pred, and, or, imp, all, ex, same, same_formula, nodes_of}
use Rattle.pg_logic.specs.Declarations.{Name}
use Rattle.pg_terms.specs.declared.term.Term.{Term}
use Rattle.pg_terms.specs.View.{term, terms}
use Rattle.pg_moves.specs.Causes.{NoInstance, and_then, wanted}
use Rattle.pg_moves.specs.Instances.{Values, filled_formula, standing_formula, values_of, terms_of, is_closed, formula_instance, term_instance, first_found, first_instance, subterms_of, filled, standing}
use Rattle.pg_moves.specs.Stripped.{Matched, strippings, fewest, fixed, unbound}
use Rattle.pg_moves.proofs.Rewritten.{length-values}
use Rattle.pg_match.specs.View.{found_values}
use Rattle.pg_match.specs.declared.found.Found.{Found}
use Rattle.pg_reduction.specs.declared.cause.ActFault.{ActFault}
use Rattle.pg_reduction.specs.declared.cause.ActFault.TheVariants.{Stop, OutOfMemory}
use Rattle.pg_reduction.specs.Doing.{Yields}
use Rattle.pg_rewrites.specs.declared.applying.Fewest.{Fewest}
use Rattle.std.proofs.lemmas.Bool.{and_parts}
use Rattle.pg_match.specs.Answers.{is_bare}
use Rattle.pg_moves.specs.Rewriting.{Sides, sides, not_bare, no_binder}
use Rattle.pg_rewrites.specs.Rewriting.{instance_terms, rule_terms}
use Rattle.pg_rewrites.specs.Applying.{steps_of, fitted, fit, forward_terms}
use Rattle.pg_rewrites.specs.Searching.{left_side, old_side, looks, Short, short, shortened}
use Rattle.pg_rewrites.specs.Taking.{binder_names}
use Rattle.pg_rewrites.specs.View.{fit_of}
use Rattle.pg_rewrites.proofs.Names.{front-is, length-front, names-nodes, unbound-names, unbound-tight}
use Rattle.pg_rewrites.proofs.Staged.{finding}

-- ---- how many values there are

if-length : (holes : ℕ) (us vs : Values) (b : Bool) → length us ≡ holes → (if b then Some us else None) ≡ Some vs → length vs ≡ holes
if-length holes us vs true l e = let q : us ≡ vs = cc in ap length (sym q) ∙ l
if-length holes us vs false l e = absurd (cc)

count-values : (holes : ℕ) (value : ℕ → Option Tm) → length (values_of holes value) ≡ holes
count-values holes value = length-values [] 0 holes value

pub formula-count : (p : Fm) (holes : ℕ) (subject : Fm) (vs : Values) → formula_instance p holes subject ≡ Some vs → length vs ≡ holes
formula-count p holes subject vs e =
    let us = values_of holes (λ i. standing_formula i p subject) in
    if-length holes us vs (list_all is_closed us && same_formula (filled_formula (terms_of us) p) subject) (count-values holes (λ i. standing_formula i p subject)) e

term-count : (p : Tm) (holes : ℕ) (subject : Tm) (vs : Values) → term_instance p holes subject ≡ Some vs → length vs ≡ holes
term-count p holes subject vs e =
    let us = values_of holes (λ i. standing i p subject) in
    if-length holes us vs (list_all is_closed us && same (filled (terms_of us) p) subject) (count-values holes (λ i. standing i p subject)) e

here-count : (holes : ℕ) (o more : Option Values) (vs : Values) → ((us : Values) → o ≡ Some us → length us ≡ holes) → (more ≡ Some vs → length vs ≡ holes) → (elim o [ Some y ↦ Some y | None ↦ more ]) ≡ Some vs → length vs ≡ holes
here-count holes (Some us) more vs f g e = f vs e
here-count holes None more vs f g e = g e

first-count : (p : Tm) (holes : ℕ) (ts : List Tm) (vs : Values) → first_found (term_instance p holes) ts ≡ Some vs → length vs ≡ holes
first-count p holes [] vs e = absurd (cc)
first-count p holes (t ∷ ts) vs e = here-count holes (term_instance p holes t) (first_found (term_instance p holes) ts) vs (λ us q. term-count p holes t us q) (first-count p holes ts vs) e

pub instance-count : (p : Tm) (holes : ℕ) (a : Fm) (vs : Values) → first_instance p holes a ≡ Some vs → length vs ≡ holes
instance-count p holes a vs e = first-count p holes (subterms_of a) vs e

pub found-length : (f : Found) (n : ℕ) → length (found_values f) ≡ n → length f.values ≡ n
found-length f n e = sym (length-map f.values (option_map term)) ∙ e

-- ---- binders alone

-- so many names come first, and there are fewer than nodes
pub record First (a : Fm) (xs : List Name) (n : ℕ) : Type 0 where
  pub few : n < 2 ^ 32
  pub names : n ≤ length (binder_names a)
  pub first : take n (binder_names a) ≡ xs

pub firsts : (a : Fm) (xs behind : List Name) (n : ℕ) → nodes_of a ≤ 4096 → xs ++ behind ≡ binder_names a → n ≡ length xs → First a xs n
firsts a xs behind n few e l =
    let k = length-front xs behind (binder_names a) e in
    record {
      few = omega (arith, few, k, l, names-nodes a);
      names = omega (arith, k, l);
      first = ap (λ n. take n (binder_names a)) l ∙ front-is xs behind (binder_names a) e;
    }

pub unbound-firsts : (a : Fm) (f : Found) (n : ℕ) → nodes_of a ≤ 4096 → n ≡ length (unbound [] a).binders → length (found_values f) ≡ n → First a (unbound [] a).binders (length f.values)
unbound-firsts a f n few e l = let k = unbound-names [] a in firsts a (unbound [] a).binders k.0 (length f.values) few k.1 (found-length f n l ∙ e)

-- what the first names fix
pub yields-first : (a : Fm) (xs : List Name) (n : ℕ) (vs : Values) (r : Result (List Term) ActFault) → First a xs n → Yields terms (fixed (take n (binder_names a)) vs) r → Yields terms (fixed xs vs) r
yields-first a xs n vs r k y = subst (λ xs. Yields terms (fixed xs vs) r) k.first y

-- ---- the fewest

pub record Found_as (a subject : Fm) (f : Fewest) : Type 0 where
  pub matched : Matched
  pub there : fewest a subject ≡ Some matched
  pub is : short f ≡ shortened matched
  pub first : First a matched.form.binders (length f.values.values)

pub found-as : (a subject : Fm) (o : Option Fewest) (f : Fewest) → nodes_of a ≤ 4096 → o ≡ Some f → option_map short o ≡ option_map shortened (first_found (looks subject) (strippings [] [] a)) → Found_as a subject f
found-as a subject o f few is e = go (first_found (looks subject) (strippings [] [] a)) refl (sym (ap (option_map short) is) ∙ e)
  where
    go : (m : Option Matched) → first_found (looks subject) (strippings [] [] a) ≡ m → Some (short f) ≡ option_map shortened m → Found_as a subject f
    go None q e = absurd (cc)
    go (Some m) q e =
        let w : short f ≡ shortened m = cc in
        let k = finding subject [] [] a m q in
        let l = formula-count m.form.rest (length m.form.binders) subject m.values k.values in
        record { matched = m; there = q; is = w; first = firsts a m.form.binders k.behind (length f.values.values) few k.names (found-length f.values (length m.form.binders) (ap (λ (s : Short). length s.values) w ∙ l)) }

-- terms for the binders
pub fit-ok : (a subject : Fm) (f : Fewest) (ts : List Term) → Found_as a subject f → fixed (take (length f.values.values) (binder_names a)) (found_values f.values) ≡ Ok (terms ts) →
    fit a subject ≡ Ok (record { terms = terms ts; steps = f.steps })
fit-ok a subject f ts k e =
    let m = k.matched in
    ap (λ o. and_then (wanted o NoInstance) fitted) k.there
    ∙ ap (λ x. and_then x (λ ts. Ok (record { terms = ts; steps = steps_of m.form }))) (ap (fixed m.form.binders) (sym (ap (λ (s : Short). s.values) k.is)) ∙ ap (λ xs. fixed xs (found_values f.values)) (sym k.first.first) ∙ e)
    ∙ ap (λ n. Ok (record { terms = terms ts; steps = n })) (sym (ap (λ (s : Short). s.steps) k.is))

pub fit-err : (a subject : Fm) (f : Fewest) (e : ActFault) → Found_as a subject f → Yields terms (fixed (take (length f.values.values) (binder_names a)) (found_values f.values)) (Err e) → Yields fit_of (fit a subject) (Err e)
fit-err a subject f OutOfMemory k y = tt
fit-err a subject f (Stop c) k y =
    let m = k.matched in
    ap (λ o. and_then (wanted o NoInstance) fitted) k.there
    ∙ ap (λ x. and_then x (λ ts. Ok (record { terms = ts; steps = steps_of m.form }))) (ap (fixed m.form.binders) (sym (ap (λ (s : Short). s.values) k.is)) ∙ ap (λ xs. fixed xs (found_values f.values)) (sym k.first.first) ∙ y)

-- ---- the left side of an implication, the side of an equation that is replaced

is-implication : (r p : Fm) → left_side r ≡ Some p → (q : Fm) × (r ≡ imp p q)
is-implication (imp a b) p e = let q : a ≡ p = cc in (b, ap (λ a. imp a b) q)
is-implication falsum p e = absurd (cc)
is-implication (eq t u) p e = absurd (cc)
is-implication (pred x ts) p e = absurd (cc)
is-implication (and a b) p e = absurd (cc)
is-implication (or a b) p e = absurd (cc)
is-implication (all x a) p e = absurd (cc)
is-implication (ex x a) p e = absurd (cc)

pub left-tight : (a p : Fm) (count : ℕ) → left_side (unbound [] a).rest ≡ Some p → count ≡ length (unbound [] a).binders → is_tight_formula 0 a ≡ true → is_tight_formula count p ≡ true
left-tight a p count e l h =
    let w = is-implication (unbound [] a).rest p e in
    let k = unbound-tight [] a 0 refl h in
    (and_parts _ _ (subst (λ c. is_tight_formula count c ≡ true) w.1 (subst (λ n. is_tight_formula n (unbound [] a).rest ≡ true) (sym l) k))).0

instance-of : (o : Option Found) (f : Found) (v : Option Values) → o ≡ Some f → option_map found_values o ≡ v → v ≡ Some (found_values f)
instance-of o f v is e = sym e ∙ ap (option_map found_values) is

pub left-firsts : (a p subject : Fm) (count : ℕ) (o : Option Found) (f : Found) → nodes_of a ≤ 4096 → count ≡ length (unbound [] a).binders → o ≡ Some f → option_map found_values o ≡ formula_instance p count subject → First a (unbound [] a).binders (length f.values)
left-firsts a p subject count o f few l is e = unbound-firsts a f count few l (formula-count p count subject (found_values f) (instance-of o f (formula_instance p count subject) is e))

pub forward-yields : (a p subject : Fm) (count : ℕ) (o : Option Found) (f : Found) (r : Result (List Term) ActFault) → nodes_of a ≤ 4096 → left_side (unbound [] a).rest ≡ Some p → count ≡ length (unbound [] a).binders → o ≡ Some f →
    option_map found_values o ≡ formula_instance p count subject → Yields terms (fixed (take (length f.values) (binder_names a)) (found_values f)) r → Yields terms (forward_terms (unbound [] a) (unbound [] a).rest subject) r
forward-yields a p subject count o f r few ep l is e y =
    let st = unbound [] a in
    let w = is-implication st.rest p ep in
    let k = left-firsts a p subject count o f few l is e in
    let there : formula_instance p (length st.binders) subject ≡ Some (found_values f) = ap (λ n. formula_instance p n subject) (sym l) ∙ instance-of o f (formula_instance p count subject) is e in
    let q : forward_terms st st.rest subject ≡ fixed st.binders (found_values f) = ap (λ c. forward_terms st c subject) w.1 ∙ ap (λ v. and_then (wanted v NoInstance) (fixed st.binders)) there in
    subst (λ t. Yields terms t r) (sym q) (yields-first a st.binders (length f.values) (found_values f) r k y)

is-equation : (back : Bool) (r : Fm) (o : Tm) → old_side back r ≡ Some o → (z : Sides) × (sides back r ≡ Ok z) × (z.old ≡ o) × ((n : ℕ) → is_tight_formula n r ≡ true → is_tight n o ≡ true)
is-equation true (eq s t) o e = let q : t ≡ o = cc in (record { old = t; new = s }, refl, q, λ n h. subst (λ o. is_tight n o ≡ true) q (and_parts _ _ h).1)
is-equation false (eq s t) o e = let q : s ≡ o = cc in (record { old = s; new = t }, refl, q, λ n h. subst (λ o. is_tight n o ≡ true) q (and_parts _ _ h).0)
is-equation back falsum o e = absurd (cc)
is-equation back (pred x ts) o e = absurd (cc)
is-equation back (and a b) o e = absurd (cc)
is-equation back (or a b) o e = absurd (cc)
is-equation back (imp a b) o e = absurd (cc)
is-equation back (all x a) o e = absurd (cc)
is-equation back (ex x a) o e = absurd (cc)

pub side-tight : (back : Bool) (a : Fm) (o : Tm) (count : ℕ) → old_side back (unbound [] a).rest ≡ Some o → count ≡ length (unbound [] a).binders → is_tight_formula 0 a ≡ true → is_tight count o ≡ true
side-tight back a o count e l h = subst (λ n. is_tight n o ≡ true) (sym l) ((is-equation back (unbound [] a).rest o e).3 (length (unbound [] a).binders) (unbound-tight [] a 0 refl h))

pub side-firsts : (a : Fm) (o : Tm) (subject : Fm) (count : ℕ) (f : Found) → nodes_of a ≤ 4096 → count ≡ length (unbound [] a).binders → first_instance o count subject ≡ Some (found_values f) → First a (unbound [] a).binders (length f.values)
side-firsts a o subject count f few l e = unbound-firsts a f count few l (instance-count o count subject (found_values f) e)

not-bound : (t : Tm) (z : Sides) → is_bare t ≡ false → not_bare t z ≡ Ok z
not-bound (bound i) z e = absurd (cc)
not-bound (free i) z e = refl
not-bound nought z e = refl
not-bound (succ t) z e = refl
not-bound (app f ts) z e = refl

pub rule-yields : (back : Bool) (a : Fm) (o : Tm) (subject : Fm) (count : ℕ) (f : Found) (r : Result (List Term) ActFault) → nodes_of a ≤ 4096 → old_side back (unbound [] a).rest ≡ Some o → count ≡ length (unbound [] a).binders →
    is_bare o ≡ false → first_instance o count subject ≡ Some (found_values f) → Yields terms (fixed (take (length f.values) (binder_names a)) (found_values f)) r → Yields terms (rule_terms back (unbound [] a) subject) r
rule-yields back a o subject count f r few eo l bare e y =
    let st = unbound [] a in
    let w = is-equation back st.rest o eo in
    let z = w.0 in
    let k = side-firsts a o subject count f few l e in
    let q : rule_terms back st subject ≡ fixed st.binders (found_values f) =
    ap (λ x. and_then x (λ z. and_then (no_binder z) (instance_terms st subject))) w.1
    ∙ ap (λ x. and_then x (instance_terms st subject)) (not-bound z.old z (ap is_bare w.2 ∙ bare))
    ∙ ap (λ v. and_then (wanted v NoInstance) (fixed st.binders)) (ap (λ t. first_instance t (length st.binders) subject) w.2 ∙ ap (λ n. first_instance o n subject) (sym l) ∙ e) in
    subst (λ t. Yields terms t r) (sym q) (yields-first a st.binders (length f.values) (found_values f) r k y)
