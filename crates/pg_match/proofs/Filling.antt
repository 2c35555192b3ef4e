-- Patterns with their holes filled, under d binders of their own.
use Rattle.std.proofs.Common.{◌≡◌, ℕ, suc, ◌+◌, ◌-◌, ◌<◌, List, [], ◌∷◌, length, true, refl, arith, ap, sym, ◌∙◌, subst}
use Rattle.std.specs.Prelude.{if◌then◌else◌, ◌==◌}
use Rattle.std.specs.List.{AllByRecursion}
use Rattle.std.proofs.lemmas.Bool.{and_parts, ltb-true, eq-eqb, ne_eqb}
use Rattle.pg_logic.specs.Tree.{Tm, free, bound, nought, succ, app, Tms, none, arg, Fm, falsum, eq, pred, and, or, imp, all, ex, mapped, mapped_all, mapped_formula, kept_free, opened_bound, opened, opened_formula, is_tight, are_tight}
use Rattle.pg_moves.specs.Instances.{filled, filled_formula}
use Rattle.pg_moves.proofs.Maps.{opened_here, opened_below}
use Rattle.pg_moves.proofs.Filled.{opened_above}
use Rattle.pg_match.proofs.Joining.{by_place}

-- the terms hold no bound variable
abbrev pub AreTight : List Tm → Type 0
AreTight ts = AllByRecursion (λ t. is_tight 0 t ≡ true) ts

-- ---- holes filled under d binders

abbrev fill : ℕ → Tm → Tm → Tm
fill d t x = mapped kept_free (opened_bound t) d x

-- a term with no loose bound variable is left by filling
mutual
  alone : (u t : Tm) (d : ℕ) → is_tight 0 t ≡ true → fill d u t ≡ t
  alone u (free i) d h = refl
  alone u (bound i) d h = let lt = ltb-true i 0 h in absurd (omega (arith, lt))
  alone u nought d h = refl
  alone u (succ t) d h = ap succ (alone u t d h)
  alone u (app f ts) d h = ap (app f) (all_alone u ts d h)

  all_alone : (u : Tm) (ts : Tms) (d : ℕ) → are_tight 0 ts ≡ true → mapped_all kept_free (opened_bound u) d ts ≡ ts
  all_alone u none d h = refl
  all_alone u (arg t ts) d h =
      let p = and_parts (is_tight 0 t) (are_tight 0 ts) h in
      ap (λ x. arg x (mapped_all kept_free (opened_bound u) d ts)) (alone u t d p.0) ∙ ap (arg t) (all_alone u ts d p.1)

abbrev pub within : ℕ → List Tm → Tm → Tm
within d [] x = x
within d (t ∷ ts) x = fill d t (within d ts x)

abbrev pub all_within : ℕ → List Tm → Tms → Tms
all_within d [] xs = xs
all_within d (t ∷ ts) xs = mapped_all kept_free (opened_bound t) d (all_within d ts xs)

abbrev pub formula_within : ℕ → List Tm → Fm → Fm
formula_within d [] a = a
formula_within d (t ∷ ts) a = mapped_formula kept_free (opened_bound t) d (formula_within d ts a)

pub at-root : (ts : List Tm) (x : Tm) → within 0 ts x ≡ filled ts x
at-root [] x = refl
at-root (t ∷ ts) x = ap (opened t) (at-root ts x)

pub at_root-formula : (ts : List Tm) (a : Fm) → formula_within 0 ts a ≡ filled_formula ts a
at_root-formula [] a = refl
at_root-formula (t ∷ ts) a = ap (opened_formula t) (at_root-formula ts a)

-- the term for hole i
abbrev pub value : List Tm → ℕ → Tm
value [] i = nought
value (t ∷ ts) i = if i == length ts then t else value ts i

pub value-first : (t : Tm) (ts : List Tm) (i : ℕ) → i ≡ length ts → value (t ∷ ts) i ≡ t
value-first t ts i e = rw (eq-eqb i (length ts) e) refl

pub value-later : (t : Tm) (ts : List Tm) (i : ℕ) → i < length ts → value (t ∷ ts) i ≡ value ts i
value-later t ts i lt = let ne : i ≡ length ts → ⊥ = λ e. omega arith in rw (ne_eqb i (length ts) ne) refl

value-tight : (ts : List Tm) (i : ℕ) → AreTight ts → i < length ts → is_tight 0 (value ts i) ≡ true
value-tight [] i c lt = absurd (omega arith)
value-tight (t ∷ ts) i c lt =
    by_place (is_tight 0 (value (t ∷ ts) i) ≡ true) i (length ts) lt
    (λ e. subst (λ x. is_tight 0 x ≡ true) (sym (value-first t ts i e)) c.0)
    (λ l. subst (λ x. is_tight 0 x ≡ true) (sym (value-later t ts i l)) (value-tight ts i c.1 l))

module _ (d : ℕ) where
  pub within-succ : (ts : List Tm) (p : Tm) → within d ts (succ p) ≡ succ (within d ts p)
  within-succ [] p = refl
  within-succ (t ∷ ts) p = ap (fill d t) (within-succ ts p)

  pub within-app : (ts : List Tm) (f : ℕ) (ps : Tms) → within d ts (app f ps) ≡ app f (all_within d ts ps)
  within-app [] f ps = refl
  within-app (t ∷ ts) f ps = ap (fill d t) (within-app ts f ps)

  pub within-arg : (ts : List Tm) (p : Tm) (ps : Tms) → all_within d ts (arg p ps) ≡ arg (within d ts p) (all_within d ts ps)
  within-arg [] p ps = refl
  within-arg (t ∷ ts) p ps = ap (mapped_all kept_free (opened_bound t) d) (within-arg ts p ps)

  pub within-none : (ts : List Tm) → all_within d ts none ≡ none
  within-none [] = refl
  within-none (t ∷ ts) = ap (mapped_all kept_free (opened_bound t) d) (within-none ts)

  pub within-free : (ts : List Tm) (i : ℕ) → within d ts (free i) ≡ free i
  within-free [] i = refl
  within-free (t ∷ ts) i = ap (fill d t) (within-free ts i)

  pub within-nought : (ts : List Tm) → within d ts nought ≡ nought
  within-nought [] = refl
  within-nought (t ∷ ts) = ap (fill d t) (within-nought ts)

  -- a pattern's own binders
  pub within-below : (ts : List Tm) (j : ℕ) → j < d → within d ts (bound j) ≡ bound j
  within-below [] j lt = refl
  within-below (t ∷ ts) j lt = ap (fill d t) (within-below ts j lt) ∙ opened_below t d j lt

  abbrev opening : Tm → Fm → Fm
  opening t a = mapped_formula kept_free (opened_bound t) d a

  pub within-falsum : (ts : List Tm) → formula_within d ts falsum ≡ falsum
  within-falsum [] = refl
  within-falsum (t ∷ ts) = ap (opening t) (within-falsum ts)

  pub within-eq : (ts : List Tm) (p q : Tm) → formula_within d ts (eq p q) ≡ eq (within d ts p) (within d ts q)
  within-eq [] p q = refl
  within-eq (t ∷ ts) p q = ap (opening t) (within-eq ts p q)

  pub within-pred : (ts : List Tm) (p : ℕ) (ps : Tms) → formula_within d ts (pred p ps) ≡ pred p (all_within d ts ps)
  within-pred [] p ps = refl
  within-pred (t ∷ ts) p ps = ap (opening t) (within-pred ts p ps)

  pub within-and : (ts : List Tm) (a b : Fm) → formula_within d ts (and a b) ≡ and (formula_within d ts a) (formula_within d ts b)
  within-and [] a b = refl
  within-and (t ∷ ts) a b = ap (opening t) (within-and ts a b)

  pub within-or : (ts : List Tm) (a b : Fm) → formula_within d ts (or a b) ≡ or (formula_within d ts a) (formula_within d ts b)
  within-or [] a b = refl
  within-or (t ∷ ts) a b = ap (opening t) (within-or ts a b)

  pub within-imp : (ts : List Tm) (a b : Fm) → formula_within d ts (imp a b) ≡ imp (formula_within d ts a) (formula_within d ts b)
  within-imp [] a b = refl
  within-imp (t ∷ ts) a b = ap (opening t) (within-imp ts a b)

  pub within-all : (ts : List Tm) (x : List ℕ) (a : Fm) → formula_within d ts (all x a) ≡ all x (formula_within (d + 1) ts a)
  within-all [] x a = refl
  within-all (t ∷ ts) x a = ap (opening t) (within-all ts x a)

  pub within-ex : (ts : List Tm) (x : List ℕ) (a : Fm) → formula_within d ts (ex x a) ≡ ex x (formula_within (d + 1) ts a)
  within-ex [] x a = refl
  within-ex (t ∷ ts) x a = ap (opening t) (within-ex ts x a)

-- a binder further out
pub within-outer : (d : ℕ) (ts : List Tm) (k : ℕ) → within d ts (bound (d + length ts + k)) ≡ bound (d + k)
within-outer d [] k = let e : d + 0 + k ≡ d + k = omega arith in ap bound e
within-outer d (t ∷ ts) k =
    let e : d + suc (length ts) + k ≡ d + length ts + (k + 1) = omega arith in
    let e' : d + (k + 1) - 1 ≡ d + k = omega arith in
    ap (λ i. fill d t (within d ts (bound i))) e ∙ ap (fill d t) (within-outer d ts (k + 1)) ∙ opened_above t d (d + (k + 1)) (omega arith) ∙ ap bound e'

-- a hole is filled with its value
pub fills : (d : ℕ) (ts : List Tm) (i : ℕ) → AreTight ts → i < length ts → within d ts (bound (d + i)) ≡ value ts i
fills d [] i c lt = absurd (omega arith)
fills d (t ∷ ts) i c lt =
    by_place (within d (t ∷ ts) (bound (d + i)) ≡ value (t ∷ ts) i) i (length ts) lt
    (λ e.
    let k : d + i ≡ d + length ts + 0 = omega (arith, e) in
    let z : d + 0 ≡ d = omega arith in
    ap (λ j. fill d t (within d ts (bound j))) k ∙ ap (fill d t) (within-outer d ts 0 ∙ ap bound z) ∙ opened_here t d ∙ sym (value-first t ts i e))
    (λ l. ap (fill d t) (fills d ts i c.1 l) ∙ alone t (value ts i) d (value-tight ts i c.1 l) ∙ sym (value-later t ts i l))
