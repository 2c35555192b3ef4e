-- An instance is found exactly where some terms make it, and these are its values.
use Rattle.std.proofs.Common.{◌≡◌, ◌↔◌, ℕ, zero, suc, ◌+◌, ◌-◌, ◌<◌, ◌≤◌, List, [], ◌∷◌, length, Bool, true, false, ◌&&◌, ◌||◌, Option, Some, None, refl, arith, ap, sym, ◌∙◌, subst, ⊎_elim}
use Rattle.std.specs.Prelude.{if◌then◌else◌, ◌==◌, nat_eq, unwrap_or}
use Rattle.std.specs.Option.{option_or}
use Rattle.std.specs.List.{list_all, AllByRecursion}
use Rattle.std.proofs.lemmas.Bool.{and_parts, and_from, ltb-true, lt-ltb, eqb-true, eq-eqb, ne_eqb, cases_order}
use Rattle.std.proofs.lemmas.List.Elements.{All-from_recursion, recursion_from_All}
use Rattle.pg_logic.specs.Tree.{Tm, free, bound, nought, succ, app, Tms, none, arg, same, same_all, Fm, falsum, eq, pred, and, or, imp, all, ex, same_formula, mapped, mapped_all, mapped_formula, kept_free, opened_bound, opened, opened_formula, is_tight, are_tight, is_tight_formula}
use Rattle.pg_logic.proofs.Stable.{same-true}
use Rattle.pg_moves.specs.Instances.{Values, filled, filled_formula, standing, standing_in, standing_formula, values_of, terms_of, is_closed, term_instance, formula_instance, has_hole, have_hole, has_hole_formula, values_for, MakesTerm, MakesFormula}
use Rattle.pg_moves.specs.Instances as specs
use Rattle.pg_moves.specs.Laws.{TermInstanceLaw, FormulaInstanceLaw}
use Rattle.pg_moves.proofs.Maps.{opened_here, opened_below}
use Rattle.pg_moves.proofs.Filled.{opened_above}
use Rattle.pg_moves.proofs.Rules.{same-refl, same_formula-refl}

-- the terms hold no bound variable, by recursion
abbrev AreTight : List Tm → Type 0
AreTight ts = AllByRecursion (λ t. is_tight 0 t ≡ true) ts

-- ---- holes filled under d binders

abbrev put : ℕ → Tm → Tm → Tm
put d t x = mapped kept_free (opened_bound t) d x

-- such a term is left by opening
mutual
  alone : (u t : Tm) (d : ℕ) → is_tight 0 t ≡ true → put d u t ≡ t
  alone u (free i) d h = refl
  alone u (bound i) d h = let lt = ltb-true i 0 h in absurd (omega (arith, lt))
  alone u nought d h = refl
  alone u (succ t) d h = ap succ (alone u t d h)
  alone u (app f ts) d h = ap (app f) (all_alone u ts d h)

  all_alone : (u : Tm) (ts : Tms) (d : ℕ) → are_tight 0 ts ≡ true → mapped_all kept_free (opened_bound u) d ts ≡ ts
  all_alone u none d h = refl
  all_alone u (arg t ts) d h =
      let p = and_parts (is_tight 0 t) (are_tight 0 ts) h in
      ap (λ x. arg x (mapped_all kept_free (opened_bound u) d ts)) (alone u t d p.0) ∙ ap (arg t) (all_alone u ts d p.1)

-- the holes of a term, of arguments, of a formula filled there
abbrev within : ℕ → List Tm → Tm → Tm
within d [] x = x
within d (t ∷ ts) x = put d t (within d ts x)

abbrev all_within : ℕ → List Tm → Tms → Tms
all_within d [] xs = xs
all_within d (t ∷ ts) xs = mapped_all kept_free (opened_bound t) d (all_within d ts xs)

abbrev formula_within : ℕ → List Tm → Fm → Fm
formula_within d [] a = a
formula_within d (t ∷ ts) a = mapped_formula kept_free (opened_bound t) d (formula_within d ts a)

at-root : (ts : List Tm) (x : Tm) → within 0 ts x ≡ filled ts x
at-root [] x = refl
at-root (t ∷ ts) x = ap (opened t) (at-root ts x)

at_root-formula : (ts : List Tm) (a : Fm) → formula_within 0 ts a ≡ filled_formula ts a
at_root-formula [] a = refl
at_root-formula (t ∷ ts) a = ap (opened_formula t) (at_root-formula ts a)

module _ (d : ℕ) where
  within-succ : (ts : List Tm) (p : Tm) → within d ts (succ p) ≡ succ (within d ts p)
  within-succ [] p = refl
  within-succ (t ∷ ts) p = ap (put d t) (within-succ ts p)

  within-app : (ts : List Tm) (f : ℕ) (ps : Tms) → within d ts (app f ps) ≡ app f (all_within d ts ps)
  within-app [] f ps = refl
  within-app (t ∷ ts) f ps = ap (put d t) (within-app ts f ps)

  within-arg : (ts : List Tm) (p : Tm) (ps : Tms) → all_within d ts (arg p ps) ≡ arg (within d ts p) (all_within d ts ps)
  within-arg [] p ps = refl
  within-arg (t ∷ ts) p ps = ap (mapped_all kept_free (opened_bound t) d) (within-arg ts p ps)

  within-none : (ts : List Tm) → all_within d ts none ≡ none
  within-none [] = refl
  within-none (t ∷ ts) = ap (mapped_all kept_free (opened_bound t) d) (within-none ts)

  within-free : (ts : List Tm) (i : ℕ) → within d ts (free i) ≡ free i
  within-free [] i = refl
  within-free (t ∷ ts) i = ap (put d t) (within-free ts i)

  within-nought : (ts : List Tm) → within d ts nought ≡ nought
  within-nought [] = refl
  within-nought (t ∷ ts) = ap (put d t) (within-nought ts)

  -- a formula's own binders
  within-below : (ts : List Tm) (j : ℕ) → j < d → within d ts (bound j) ≡ bound j
  within-below [] j lt = refl
  within-below (t ∷ ts) j lt = ap (put d t) (within-below ts j lt) ∙ opened_below t d j lt

  abbrev opening : Tm → Fm → Fm
  opening t a = mapped_formula kept_free (opened_bound t) d a

  within-falsum : (ts : List Tm) → formula_within d ts falsum ≡ falsum
  within-falsum [] = refl
  within-falsum (t ∷ ts) = ap (opening t) (within-falsum ts)

  within-eq : (ts : List Tm) (p q : Tm) → formula_within d ts (eq p q) ≡ eq (within d ts p) (within d ts q)
  within-eq [] p q = refl
  within-eq (t ∷ ts) p q = ap (opening t) (within-eq ts p q)

  within-pred : (ts : List Tm) (p : ℕ) (ps : Tms) → formula_within d ts (pred p ps) ≡ pred p (all_within d ts ps)
  within-pred [] p ps = refl
  within-pred (t ∷ ts) p ps = ap (opening t) (within-pred ts p ps)

  within-and : (ts : List Tm) (a b : Fm) → formula_within d ts (and a b) ≡ and (formula_within d ts a) (formula_within d ts b)
  within-and [] a b = refl
  within-and (t ∷ ts) a b = ap (opening t) (within-and ts a b)

  within-or : (ts : List Tm) (a b : Fm) → formula_within d ts (or a b) ≡ or (formula_within d ts a) (formula_within d ts b)
  within-or [] a b = refl
  within-or (t ∷ ts) a b = ap (opening t) (within-or ts a b)

  within-imp : (ts : List Tm) (a b : Fm) → formula_within d ts (imp a b) ≡ imp (formula_within d ts a) (formula_within d ts b)
  within-imp [] a b = refl
  within-imp (t ∷ ts) a b = ap (opening t) (within-imp ts a b)

  within-all : (ts : List Tm) (x : List ℕ) (a : Fm) → formula_within d ts (all x a) ≡ all x (formula_within (d + 1) ts a)
  within-all [] x a = refl
  within-all (t ∷ ts) x a = ap (opening t) (within-all ts x a)

  within-ex : (ts : List Tm) (x : List ℕ) (a : Fm) → formula_within d ts (ex x a) ≡ ex x (formula_within (d + 1) ts a)
  within-ex [] x a = refl
  within-ex (t ∷ ts) x a = ap (opening t) (within-ex ts x a)

-- ---- the value of a hole

-- the term for hole i
abbrev value : List Tm → ℕ → Tm
value [] i = nought
value (t ∷ ts) i = if i == length ts then t else value ts i

value-first : (t : Tm) (ts : List Tm) (i : ℕ) → i ≡ length ts → value (t ∷ ts) i ≡ t
value-first t ts i e = rw (eq-eqb i (length ts) e) refl

value-later : (t : Tm) (ts : List Tm) (i : ℕ) → i < length ts → value (t ∷ ts) i ≡ value ts i
value-later t ts i lt = let ne : i ≡ length ts → ⊥ = λ e. omega arith in rw (ne_eqb i (length ts) ne) refl

-- the first of the holes, or one further in
by_place : (P : Type 0) (i n : ℕ) → i < suc n → (i ≡ n → P) → (i < n → P) → P
by_place P i n lt here further =
    ⊎_elim (λ (e : i ≡ n). here e) (λ o. ⊎_elim (λ (l : i < n). further l) (λ (g : n < i). absurd (omega arith)) o) (cases_order i n)

value-tight : (ts : List Tm) (i : ℕ) → AreTight ts → i < length ts → is_tight 0 (value ts i) ≡ true
value-tight [] i c lt = absurd (omega arith)
value-tight (t ∷ ts) i c lt =
    by_place (is_tight 0 (value (t ∷ ts) i) ≡ true) i (length ts) lt
    (λ e. subst (λ x. is_tight 0 x ≡ true) (sym (value-first t ts i e)) c.0)
    (λ l. subst (λ x. is_tight 0 x ≡ true) (sym (value-later t ts i l)) (value-tight ts i c.1 l))

-- a binder further out
within-outer : (d : ℕ) (ts : List Tm) (k : ℕ) → within d ts (bound (d + length ts + k)) ≡ bound (d + k)
within-outer d [] k = let e : d + 0 + k ≡ d + k = omega arith in ap bound e
within-outer d (t ∷ ts) k =
    let e : d + suc (length ts) + k ≡ d + length ts + (k + 1) = omega arith in
    let e' : d + (k + 1) - 1 ≡ d + k = omega arith in
    ap (λ i. put d t (within d ts (bound i))) e ∙ ap (put d t) (within-outer d ts (k + 1)) ∙ opened_above t d (d + (k + 1)) (omega arith) ∙ ap bound e'

-- a hole is filled with its value
fills : (d : ℕ) (ts : List Tm) (i : ℕ) → AreTight ts → i < length ts → within d ts (bound (d + i)) ≡ value ts i
fills d [] i c lt = absurd (omega arith)
fills d (t ∷ ts) i c lt =
    by_place (within d (t ∷ ts) (bound (d + i)) ≡ value (t ∷ ts) i) i (length ts) lt
    (λ e.
    let k : d + i ≡ d + length ts + 0 = omega (arith, e) in
    let z : d + 0 ≡ d = omega arith in
    ap (λ j. put d t (within d ts (bound j))) k ∙ ap (put d t) (within-outer d ts 0 ∙ ap bound z) ∙ opened_here t d ∙ sym (value-first t ts i e))
    (λ l. ap (put d t) (fills d ts i c.1 l) ∙ alone t (value ts i) d (value-tight ts i c.1 l) ∙ sym (value-later t ts i l))

-- ---- what stands where a hole is

-- what is found, where the pattern has the hole
abbrev seen : Bool → Tm → Option Tm
seen b t = if b then Some t else None

or-seen : (b c : Bool) (t : Tm) → option_or (seen b t) (seen c t) ≡ seen (b || c) t
or-seen true c t = refl
or-seen false c t = refl

module _ (ts : List Tm) (c : AreTight ts) where
  -- it is the value of the hole, where there is that hole
  mutual
    stands : (p : Tm) (d i : ℕ) → i < length ts → standing (d + i) p (within d ts p) ≡ seen (has_hole (d + i) p) (value ts i)
    stands (bound j) d i lt = at-hole (nat_eq (d + i) j) refl
      where
        at-hole : (b : Bool) → nat_eq (d + i) j ≡ b → (if b then Some (within d ts (bound j)) else None) ≡ (if b then Some (value ts i) else None)
        at-hole true e = let q = eqb-true (d + i) j e in ap Some (ap (λ k. within d ts (bound k)) (sym q) ∙ fills d ts i c lt)
        at-hole false e = refl
    stands (succ p) d i lt = ap (standing (d + i) (succ p)) (within-succ d ts p) ∙ stands p d i lt
    stands (app f ps) d i lt = ap (standing (d + i) (app f ps)) (within-app d ts f ps) ∙ stands_in ps d i lt
    stands (free k) d i lt = refl
    stands nought d i lt = refl

    stands_in : (ps : Tms) (d i : ℕ) → i < length ts → standing_in (d + i) ps (all_within d ts ps) ≡ seen (have_hole (d + i) ps) (value ts i)
    stands_in none d i lt = refl
    stands_in (arg p ps) d i lt =
        ap (standing_in (d + i) (arg p ps)) (within-arg d ts p ps)
        ∙ ap (λ o. option_or o (standing_in (d + i) ps (all_within d ts ps))) (stands p d i lt)
        ∙ ap (option_or (seen (has_hole (d + i) p) (value ts i))) (stands_in ps d i lt)
        ∙ or-seen (has_hole (d + i) p) (have_hole (d + i) ps) (value ts i)

  -- the same in a formula
  abbrev Stands : Fm → Type 0
  Stands a = (d i : ℕ) → i < length ts → standing_formula (d + i) a (formula_within d ts a) ≡ seen (has_hole_formula (d + i) a) (value ts i)

  under : (a : Fm) → Stands a → (d i : ℕ) → i < length ts → standing_formula (d + i + 1) a (formula_within (d + 1) ts a) ≡ seen (has_hole_formula (d + i + 1) a) (value ts i)
  under a go d i lt =
      let e : d + 1 + i ≡ d + i + 1 = omega arith in
      subst (λ k. standing_formula k a (formula_within (d + 1) ts a) ≡ seen (has_hole_formula k a) (value ts i)) e (go (d + 1) i lt)

  either : (a b : Fm) → Stands a → Stands b → (d i : ℕ) → i < length ts →
      option_or (standing_formula (d + i) a (formula_within d ts a)) (standing_formula (d + i) b (formula_within d ts b)) ≡ seen (has_hole_formula (d + i) a || has_hole_formula (d + i) b) (value ts i)
  either a b go go' d i lt =
      ap (λ o. option_or o (standing_formula (d + i) b (formula_within d ts b))) (go d i lt)
      ∙ ap (option_or (seen (has_hole_formula (d + i) a) (value ts i))) (go' d i lt)
      ∙ or-seen (has_hole_formula (d + i) a) (has_hole_formula (d + i) b) (value ts i)

  stands_formula : (a : Fm) → Stands a
  stands_formula falsum d i lt = refl
  stands_formula (eq p q) d i lt =
      ap (standing_formula (d + i) (eq p q)) (within-eq d ts p q)
      ∙ ap (λ o. option_or o (standing (d + i) q (within d ts q))) (stands p d i lt)
      ∙ ap (option_or (seen (has_hole (d + i) p) (value ts i))) (stands q d i lt)
      ∙ or-seen (has_hole (d + i) p) (has_hole (d + i) q) (value ts i)
  stands_formula (pred p ps) d i lt = ap (standing_formula (d + i) (pred p ps)) (within-pred d ts p ps) ∙ stands_in ps d i lt
  stands_formula (and a b) d i lt = ap (standing_formula (d + i) (and a b)) (within-and d ts a b) ∙ either a b (stands_formula a) (stands_formula b) d i lt
  stands_formula (or a b) d i lt = ap (standing_formula (d + i) (or a b)) (within-or d ts a b) ∙ either a b (stands_formula a) (stands_formula b) d i lt
  stands_formula (imp a b) d i lt = ap (standing_formula (d + i) (imp a b)) (within-imp d ts a b) ∙ either a b (stands_formula a) (stands_formula b) d i lt
  stands_formula (all x a) d i lt = ap (standing_formula (d + i) (all x a)) (within-all d ts x a) ∙ under a (stands_formula a) d i lt
  stands_formula (ex x a) d i lt = ap (standing_formula (d + i) (ex x a)) (within-ex d ts x a) ∙ under a (stands_formula a) d i lt

-- ---- the names of binders do not matter to what stands there

stands-same : (p a b : Fm) (i : ℕ) → same_formula a b ≡ true → standing_formula i p a ≡ standing_formula i p b
stands-same p falsum falsum i h = refl
stands-same p (eq s t) (eq u v) i h =
    let k = and_parts (same s u) (same t v) h in
    ap (λ x. standing_formula i p (eq x t)) (same-true s u k.0) ∙ ap (λ x. standing_formula i p (eq u x)) (same-true t v k.1)
stands-same (pred r ps) (pred f ss) (pred g ts) i h = ap (standing_in i ps) (same_all-true ss ts (and_parts (nat_eq f g) (same_all ss ts) h).1)
  where
    same_all-true : (ss ts : Tms) → same_all ss ts ≡ true → ss ≡ ts
    same_all-true none none h = refl
    same_all-true (arg s ss) (arg t ts) h = let k = and_parts (same s t) (same_all ss ts) h in ap (λ x. arg x ss) (same-true s t k.0) ∙ ap (arg t) (same_all-true ss ts k.1)
    same_all-true none (arg t ts) h = absurd (cc)
    same_all-true (arg s ss) none h = absurd (cc)
stands-same (and p q) (and a c) (and b d) i h =
    let k = and_parts (same_formula a b) (same_formula c d) h in
    ap (λ o. option_or o (standing_formula i q c)) (stands-same p a b i k.0) ∙ ap (option_or (standing_formula i p b)) (stands-same q c d i k.1)
stands-same (or p q) (or a c) (or b d) i h =
    let k = and_parts (same_formula a b) (same_formula c d) h in
    ap (λ o. option_or o (standing_formula i q c)) (stands-same p a b i k.0) ∙ ap (option_or (standing_formula i p b)) (stands-same q c d i k.1)
stands-same (imp p q) (imp a c) (imp b d) i h =
    let k = and_parts (same_formula a b) (same_formula c d) h in
    ap (λ o. option_or o (standing_formula i q c)) (stands-same p a b i k.0) ∙ ap (option_or (standing_formula i p b)) (stands-same q c d i k.1)
stands-same (all x p) (all y a) (all z b) i h = stands-same p a b (i + 1) h
stands-same (ex x p) (ex y a) (ex z b) i h = stands-same p a b (i + 1) h
stands-same _ (pred f ss) (pred g ts) i h = refl
stands-same _ (and a c) (and b d) i h = refl
stands-same _ (or a c) (or b d) i h = refl
stands-same _ (imp a c) (imp b d) i h = refl
stands-same _ (all y a) (all z b) i h = refl
stands-same _ (ex y a) (ex z b) i h = refl
stands-same _ _ _ i h = absurd (cc)

-- ---- terms that agree on a pattern's holes

or-first : (b c : Bool) → b ≡ true → (b || c) ≡ true
or-first true c e = refl
or-first false c e = absurd (cc)

or-second : (b c : Bool) → c ≡ true → (b || c) ≡ true
or-second true c e = refl
or-second false c e = e

module _ (ts us : List Tm) (c : AreTight ts) (c' : AreTight us) (long : length us ≡ length ts) where
  -- on these holes
  abbrev Agree : (ℕ → Bool) → ℕ → Type 0
  Agree has d = (i : ℕ) → i < length ts → has (d + i) ≡ true → value us i ≡ value ts i

  mutual
    agree : (p : Tm) (d : ℕ) → is_tight (d + length ts) p ≡ true → Agree (λ k. has_hole k p) d → within d us p ≡ within d ts p
    agree (bound j) d h f =
        ⊎_elim
        (λ (e : j ≡ d). at-hole (omega (arith, e)))
        (λ o. ⊎_elim (λ (l : j < d). within-below d us j l ∙ sym (within-below d ts j l)) (λ (g : d < j). at-hole (omega (arith, g))) o)
        (cases_order j d)
      where
        at-hole : d ≤ j → within d us (bound j) ≡ within d ts (bound j)
        at-hole le =
            let lt = ltb-true j (d + length ts) h in
            let k : d + (j - d) ≡ j = omega (arith, le) in
            let l : j - d < length ts = omega (arith, le, lt) in
            let l' : j - d < length us = omega (arith, le, lt, long) in
            ap (λ j. within d us (bound j)) (sym k) ∙ fills d us (j - d) c' l' ∙ f (j - d) l (eq-eqb (d + (j - d)) j k) ∙ sym (fills d ts (j - d) c l)
            ∙ ap (λ j. within d ts (bound j)) k
    agree (succ p) d h f = within-succ d us p ∙ ap succ (agree p d h f) ∙ sym (within-succ d ts p)
    agree (app g ps) d h f = within-app d us g ps ∙ ap (app g) (agree_in ps d h f) ∙ sym (within-app d ts g ps)
    agree (free k) d h f = within-free d us k ∙ sym (within-free d ts k)
    agree nought d h f = within-nought d us ∙ sym (within-nought d ts)

    agree_in : (ps : Tms) (d : ℕ) → are_tight (d + length ts) ps ≡ true → Agree (λ k. have_hole k ps) d → all_within d us ps ≡ all_within d ts ps
    agree_in none d h f = within-none d us ∙ sym (within-none d ts)
    agree_in (arg p ps) d h f =
        let k = and_parts (is_tight (d + length ts) p) (are_tight (d + length ts) ps) h in
        within-arg d us p ps
        ∙ ap (λ x. arg x (all_within d us ps)) (agree p d k.0 (λ i lt e. f i lt (or-first (has_hole (d + i) p) (have_hole (d + i) ps) e)))
        ∙ ap (arg (within d ts p)) (agree_in ps d k.1 (λ i lt e. f i lt (or-second (has_hole (d + i) p) (have_hole (d + i) ps) e)))
        ∙ sym (within-arg d ts p ps)

  abbrev Agreed : Fm → Type 0
  Agreed a = (d : ℕ) → is_tight_formula (d + length ts) a ≡ true → Agree (λ k. has_hole_formula k a) d → formula_within d us a ≡ formula_within d ts a

  agree_under : (a : Fm) → Agreed a → (d : ℕ) → is_tight_formula (d + length ts + 1) a ≡ true → Agree (λ k. has_hole_formula (k + 1) a) d → formula_within (d + 1) us a ≡ formula_within (d + 1) ts a
  agree_under a go d h f =
      let e : d + length ts + 1 ≡ d + 1 + length ts = omega arith in
      go (d + 1) (subst (λ n. is_tight_formula n a ≡ true) e h)
      (λ i lt q. let k : d + 1 + i ≡ d + i + 1 = omega arith in f i lt (subst (λ n. has_hole_formula n a ≡ true) k q))

  agree_both : (a b : Fm) → Agreed a → Agreed b → (d : ℕ) → (is_tight_formula (d + length ts) a && is_tight_formula (d + length ts) b) ≡ true → Agree (λ k. has_hole_formula k a || has_hole_formula k b) d →
      (formula_within d us a ≡ formula_within d ts a) × (formula_within d us b ≡ formula_within d ts b)
  agree_both a b go go' d h f =
      let k = and_parts (is_tight_formula (d + length ts) a) (is_tight_formula (d + length ts) b) h in (
        go d k.0 (λ i lt e. f i lt (or-first (has_hole_formula (d + i) a) (has_hole_formula (d + i) b) e)),
        go' d k.1 (λ i lt e. f i lt (or-second (has_hole_formula (d + i) a) (has_hole_formula (d + i) b) e)),
      )

  agree_formula : (a : Fm) → Agreed a
  agree_formula falsum d h f = within-falsum d us ∙ sym (within-falsum d ts)
  agree_formula (eq p q) d h f =
      let k = and_parts (is_tight (d + length ts) p) (is_tight (d + length ts) q) h in
      within-eq d us p q
      ∙ ap (λ x. eq x (within d us q)) (agree p d k.0 (λ i lt e. f i lt (or-first (has_hole (d + i) p) (has_hole (d + i) q) e)))
      ∙ ap (eq (within d ts p)) (agree q d k.1 (λ i lt e. f i lt (or-second (has_hole (d + i) p) (has_hole (d + i) q) e)))
      ∙ sym (within-eq d ts p q)
  agree_formula (pred p ps) d h f = within-pred d us p ps ∙ ap (pred p) (agree_in ps d h f) ∙ sym (within-pred d ts p ps)
  agree_formula (and a b) d h f =
      let k = agree_both a b (agree_formula a) (agree_formula b) d h f in
      within-and d us a b ∙ ap (λ x. and x (formula_within d us b)) k.0 ∙ ap (and (formula_within d ts a)) k.1 ∙ sym (within-and d ts a b)
  agree_formula (or a b) d h f =
      let k = agree_both a b (agree_formula a) (agree_formula b) d h f in
      within-or d us a b ∙ ap (λ x. or x (formula_within d us b)) k.0 ∙ ap (or (formula_within d ts a)) k.1 ∙ sym (within-or d ts a b)
  agree_formula (imp a b) d h f =
      let k = agree_both a b (agree_formula a) (agree_formula b) d h f in
      within-imp d us a b ∙ ap (λ x. imp x (formula_within d us b)) k.0 ∙ ap (imp (formula_within d ts a)) k.1 ∙ sym (within-imp d ts a b)
  agree_formula (all x a) d h f = within-all d us x a ∙ ap (all x) (agree_under a (agree_formula a) d h f) ∙ sym (within-all d ts x a)
  agree_formula (ex x a) d h f = within-ex d us x a ∙ ap (ex x) (agree_under a (agree_formula a) d h f) ∙ sym (within-ex d ts x a)

-- ---- the values that are found

module _ (has : ℕ → Bool) where
  -- they are those of the terms
  values-are : (found : ℕ → Option Tm) (ts : List Tm) → ((i : ℕ) → i < length ts → found i ≡ seen (has i) (value ts i)) → values_of (length ts) found ≡ values_for has ts
  values-are found [] f = refl
  values-are found (t ∷ ts) f =
      ap (λ o. o ∷ values_of (length ts) found) (f (length ts) (omega arith) ∙ ap (seen (has (length ts))) (value-first t ts (length ts) refl))
      ∙ ap (λ l. (if has (length ts) then Some t else None) ∷ l) (values-are found ts (λ i lt. f i (omega (arith, lt)) ∙ ap (seen (has i)) (value-later t ts i lt)))

  all-closed : (ts : List Tm) → AreTight ts → list_all is_closed (values_for has ts) ≡ true
  all-closed [] c = refl
  all-closed (t ∷ ts) c = and_from _ _ (one (has (length ts))) (all-closed ts c.1)
    where
      one : (b : Bool) → is_closed (if b then Some t else None) ≡ true
      one true = c.0
      one false = refl

  -- the terms that stand for them
  abbrev stood : List Tm → List Tm
  stood ts = terms_of (values_for has ts)

  stood-long : (ts : List Tm) → length (stood ts) ≡ length ts
  stood-long [] = refl
  stood-long (t ∷ ts) = ap suc (stood-long ts)

  stood-tight : (ts : List Tm) → AreTight ts → AreTight (stood ts)
  stood-tight [] c = tt
  stood-tight (t ∷ ts) c = (one (has (length ts)), stood-tight ts c.1)
    where
      one : (b : Bool) → is_tight 0 (unwrap_or (if b then Some t else None) nought) ≡ true
      one true = c.0
      one false = refl

  stood-value : (ts : List Tm) (i : ℕ) → i < length ts → has i ≡ true → value (stood ts) i ≡ value ts i
  stood-value [] i lt e = absurd (omega arith)
  stood-value (t ∷ ts) i lt e =
      let u = unwrap_or (if has (length ts) then Some t else None) nought in
      by_place (value (u ∷ stood ts) i ≡ value (t ∷ ts) i) i (length ts) lt
      (λ q. value-first u (stood ts) i (q ∙ sym (stood-long ts)) ∙ ap (λ b. unwrap_or (if b then Some t else None) nought) (ap has (sym q) ∙ e) ∙ sym (value-first t ts i q))
      (λ l. value-later u (stood ts) i (subst (λ n. i < n) (sym (stood-long ts)) l) ∙ stood-value ts i l e ∙ sym (value-later t ts i l))

both-true : {X : Type 0} (b c : Bool) (x : X) → b ≡ true → c ≡ true → (if b && c then Some x else None) ≡ Some x
both-true true true x e e' = refl
both-true true false x e e' = absurd (cc)
both-true false c x e e' = absurd (cc)

zero-left : (i : ℕ) → 0 + i ≡ i
zero-left i = omega arith

term-values : (p : Tm) (ts : List Tm) → AreTight ts → values_of (length ts) (λ i. standing i p (filled ts p)) ≡ values_for (λ i. has_hole i p) ts
term-values p ts c =
    values-are (λ i. has_hole i p) (λ i. standing i p (filled ts p)) ts
    (λ i lt. ap (standing i p) (sym (at-root ts p)) ∙ subst (λ k. standing k p (within 0 ts p) ≡ seen (has_hole k p) (value ts i)) (zero-left i) (stands ts c p 0 i lt))

formula-values : (p : Fm) (ts : List Tm) (subject : Fm) → AreTight ts → same_formula (filled_formula ts p) subject ≡ true →
    values_of (length ts) (λ i. standing_formula i p subject) ≡ values_for (λ i. has_hole_formula i p) ts
formula-values p ts subject c is =
    values-are (λ i. has_hole_formula i p) (λ i. standing_formula i p subject) ts
    (λ i lt.
    sym (stands-same p (filled_formula ts p) subject i is) ∙ ap (standing_formula i p) (sym (at_root-formula ts p))
    ∙ subst (λ k. standing_formula k p (formula_within 0 ts p) ≡ seen (has_hole_formula k p) (value ts i)) (zero-left i) (stands_formula ts c p 0 i lt))

term-made : (p : Tm) (ts : List Tm) → AreTight ts → is_tight (length ts) p ≡ true → filled (stood (λ i. has_hole i p) ts) p ≡ filled ts p
term-made p ts c h =
    let has = λ (i : ℕ). has_hole i p in
    sym (at-root (stood has ts) p)
    ∙ agree ts (stood has ts) c (stood-tight has ts c) (stood-long has ts) p 0 (subst (λ n. is_tight n p ≡ true) (sym (zero-left (length ts))) h)
    (λ i lt e. stood-value has ts i lt (subst (λ k. has_hole k p ≡ true) (zero-left i) e))
    ∙ at-root ts p

formula-made : (p : Fm) (ts : List Tm) → AreTight ts → is_tight_formula (length ts) p ≡ true → filled_formula (stood (λ i. has_hole_formula i p) ts) p ≡ filled_formula ts p
formula-made p ts c h =
    let has = λ (i : ℕ). has_hole_formula i p in
    sym (at_root-formula (stood has ts) p)
    ∙ agree_formula ts (stood has ts) c (stood-tight has ts c) (stood-long has ts) p 0 (subst (λ n. is_tight_formula n p ≡ true) (sym (zero-left (length ts))) h)
    (λ i lt e. stood-value has ts i lt (subst (λ k. has_hole_formula k p ≡ true) (zero-left i) e))
    ∙ at_root-formula ts p

-- ---- the laws

tight : (ts : List Tm) → specs.AreTight ts → AreTight ts
tight ts c = recursion_from_All (λ t. is_tight 0 t ≡ true) ts c

found-tight : (vs : Values) → list_all is_closed vs ≡ true → AreTight (terms_of vs)
found-tight [] h = tt
found-tight (None ∷ vs) h = (refl, found-tight vs (and_parts (is_closed None) (list_all is_closed vs) h).1)
found-tight (Some t ∷ vs) h = let q = and_parts (is_closed (Some t)) (list_all is_closed vs) h in (q.0, found-tight vs q.1)

found-long : (n : ℕ) (found : ℕ → Option Tm) → length (terms_of (values_of n found)) ≡ n
found-long zero found = refl
found-long (suc n) found = ap suc (found-long n found)

if-some : {X : Type 0} (b c : Bool) (x y : X) → (if b && c then Some x else None) ≡ Some y → (b ≡ true) × (c ≡ true)
if-some true true x y e = (refl, refl)
if-some true false x y e = absurd (cc)
if-some false c x y e = absurd (cc)

pub term-instance-law : TermInstanceLaw
term-instance-law p n subject h = (found, made)
  where
    found : (ts : List Tm) → MakesTerm p n subject ts → term_instance p n subject ≡ Some (values_for (λ i. has_hole i p) ts)
    found ts m =
        let c = tight ts m.1 in
        let vs = values_for (λ i. has_hole i p) ts in
        let q : values_of n (λ i. standing i p subject) ≡ vs =
        ap (λ n. values_of n (λ i. standing i p subject)) (sym m.0) ∙ ap (λ s. values_of (length ts) (λ i. standing i p s)) (sym m.2) ∙ term-values p ts c in
        let is : same (filled (terms_of vs) p) subject ≡ true =
        ap (λ s. same s subject) (term-made p ts c (subst (λ n. is_tight n p ≡ true) (sym m.0) h) ∙ m.2) ∙ same-refl subject in
        ap (λ vs. if list_all is_closed vs && same (filled (terms_of vs) p) subject then Some vs else None) q
        ∙ both-true (list_all is_closed vs) (same (filled (terms_of vs) p) subject) vs (all-closed (λ i. has_hole i p) ts c) is

    made : (vs : Values) → term_instance p n subject ≡ Some vs → (ts : List Tm) × MakesTerm p n subject ts
    made vs e =
        let us = values_of n (λ i. standing i p subject) in
        let k = if-some (list_all is_closed us) (same (filled (terms_of us) p) subject) us vs e in
        (terms_of us, (found-long n (λ i. standing i p subject), All-from_recursion (λ t. is_tight 0 t ≡ true) (terms_of us) (found-tight us k.0), same-true (filled (terms_of us) p) subject k.1))

pub formula-instance-law : FormulaInstanceLaw
formula-instance-law p n subject h = (found, made)
  where
    found : (ts : List Tm) → MakesFormula p n subject ts → formula_instance p n subject ≡ Some (values_for (λ i. has_hole_formula i p) ts)
    found ts m =
        let c = tight ts m.1 in
        let vs = values_for (λ i. has_hole_formula i p) ts in
        let q : values_of n (λ i. standing_formula i p subject) ≡ vs =
        ap (λ n. values_of n (λ i. standing_formula i p subject)) (sym m.0) ∙ formula-values p ts subject c m.2 in
        let is : same_formula (filled_formula (terms_of vs) p) subject ≡ true =
        ap (λ s. same_formula s subject) (formula-made p ts c (subst (λ n. is_tight_formula n p ≡ true) (sym m.0) h)) ∙ m.2 in
        ap (λ vs. if list_all is_closed vs && same_formula (filled_formula (terms_of vs) p) subject then Some vs else None) q
        ∙ both-true (list_all is_closed vs) (same_formula (filled_formula (terms_of vs) p) subject) vs (all-closed (λ i. has_hole_formula i p) ts c) is

    made : (vs : Values) → formula_instance p n subject ≡ Some vs → (ts : List Tm) × MakesFormula p n subject ts
    made vs e =
        let us = values_of n (λ i. standing_formula i p subject) in
        let k = if-some (list_all is_closed us) (same_formula (filled_formula (terms_of us) p) subject) us vs e in
        (terms_of us, (found-long n (λ i. standing_formula i p subject), All-from_recursion (λ t. is_tight 0 t ≡ true) (terms_of us) (found-tight us k.0), k.1))
