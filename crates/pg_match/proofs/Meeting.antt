-- A walk goes through exactly where some terms make the subject, and its values are then among them.
use Rattle.std.proofs.Common.{◌≡◌, ℕ, suc, ◌+◌, ◌-◌, ◌<◌, ◌≤◌, List, [], ◌∷◌, length, Bool, true, false, ◌&&◌, Option, Some, None, refl, arith, ap, sym, ◌∙◌, subst}
use Rattle.std.specs.Prelude.{if◌then◌else◌, ◌==◌, nat_lt, option_map, option_and_then}
use Rattle.std.proofs.Math.Bool.{and-false}
use Rattle.std.proofs.lemmas.Bool.{and_parts, ltb-true, ltb-false, lt-ltb, false≢true}
use Rattle.pg_logic.specs.Tree.{Tm, free, bound, nought, succ, app, Tms, none, arg, same, same_all, Fm, falsum, eq, pred, and, or, imp, all, ex, same_formula, is_tight, are_tight, is_tight_formula}
use Rattle.pg_logic.proofs.Stable.{same-true}
use Rattle.pg_moves.specs.Instances.{Values, standing, standing_formula}
use Rattle.pg_moves.proofs.Rules.{same-refl}
use Rattle.pg_match.specs.Walks.{if_so, put_at, walk_bound, walk, walk_all, walk_formula}
use Rattle.pg_match.proofs.Joining.{joined-long, Goes, walk-goes, formula-goes, put_there, there-cons, by_place}
use Rattle.pg_match.proofs.Filling.{AreTight, within, all_within, formula_within, value, value-first, value-later, fills, within-succ, within-app, within-arg, within-none, within-free, within-nought, within-below, within-falsum, within-eq, within-pred, within-and, within-or, within-imp, within-all, within-ex}

-- whether a term may stand for a hole with this value
abbrev pub fit_one : Option Tm → Tm → Bool
fit_one None t = true
fit_one (Some u) t = same u t

-- whether these terms may stand for holes with these values
abbrev pub fit : Values → List Tm → Bool
fit [] [] = true
fit (v ∷ vs) (t ∷ ts) = fit_one v t && fit vs ts
fit _ _ = false

abbrev pub passes : Option Values → List Tm → Bool
passes None ts = false
passes (Some vs) ts = fit vs ts

-- ---- tests

and-assoc : (b c e : Bool) → ((b && c) && e) ≡ (b && (c && e))
and-assoc true c e = refl
and-assoc false c e = refl

and-swap : (b c : Bool) → (b && c) ≡ (c && b)
and-swap true true = refl
and-swap true false = refl
and-swap false true = refl
and-swap false false = refl

and-true : (b : Bool) → (b && true) ≡ b
and-true true = refl
and-true false = refl

guarded : (b c x y : Bool) → (b ≡ true → x ≡ y) → ((b && c) && x) ≡ ((b && c) && y)
guarded true c x y h = ap (λ z. c && z) (h refl)
guarded false c x y h = refl

same-swap : (s t : Tm) → same s t ≡ same t s
same-swap s t = go (same s t) (same t s) refl refl
  where
    go : (b c : Bool) → same s t ≡ b → same t s ≡ c → b ≡ c
    go true true e q = refl
    go false false e q = refl
    go true false e q = absurd (false≢true (sym q ∙ subst (λ x. same x s ≡ true) (same-true s t e) (same-refl s)))
    go false true e q = absurd (false≢true (sym e ∙ subst (λ x. same x t ≡ true) (same-true t s q) (same-refl t)))

differ : (t s : Tm) → is_tight 0 t ≡ true → is_tight 0 s ≡ false → same t s ≡ false
differ t s c e = go (same t s) refl
  where
    go : (b : Bool) → same t s ≡ b → b ≡ false
    go false q = refl
    go true q = absurd (false≢true (sym e ∙ ap (is_tight 0) (sym (same-true t s q)) ∙ c))

passes-if : (b : Bool) (vs : Values) (ts : List Tm) → passes (if_so b vs) ts ≡ (fit vs ts && b)
passes-if true vs ts = sym (and-true (fit vs ts))
passes-if false vs ts = sym (and-false (fit vs ts))

passes-cons : (v : Option Tm) (t : Tm) (o : Option Values) (ts : List Tm) → passes (option_map (λ l. v ∷ l) o) (t ∷ ts) ≡ (fit_one v t && passes o ts)
passes-cons v t None ts = sym (and-false (fit_one v t))
passes-cons v t (Some new) ts = refl

-- ---- a subject put at a hole

put-here : (s : Tm) (v : Option Tm) (vs : Values) (t : Tm) (ts : List Tm) → is_tight 0 t ≡ true → passes (put_there (v ∷ vs) 0 s) (t ∷ ts) ≡ ((fit_one v t && fit vs ts) && same t s)
put-here s None vs t ts c = so (is_tight 0 s) refl
  where
    so : (b : Bool) → is_tight 0 s ≡ b → passes (if_so b (Some s ∷ vs)) (t ∷ ts) ≡ (fit vs ts && same t s)
    so true e = and-swap (same s t) (fit vs ts) ∙ ap (λ b. fit vs ts && b) (same-swap s t)
    so false e = sym (ap (λ b. fit vs ts && b) (differ t s c e) ∙ and-false (fit vs ts))
put-here s (Some u) vs t ts c =
    passes-if (same u s) (Some u ∷ vs) (t ∷ ts) ∙ guarded (same u t) (fit vs ts) (same u s) (same t s) (λ e. ap (λ x. same x s) (same-true u t e))

put-meets : (s : Tm) (i : ℕ) (vs : Values) (ts : List Tm) → AreTight ts → length vs ≡ length ts → i < length ts → passes (put_there vs (length vs - 1 - i) s) ts ≡ (fit vs ts && same (value ts i) s)
put-meets s i [] [] c e lt = absurd (omega arith)
put-meets s i [] (t ∷ ts) c e lt = absurd (omega (arith, e))
put-meets s i (v ∷ vs) [] c e lt = absurd (omega arith)
put-meets s i (v ∷ vs) (t ∷ ts) c e lt =
    by_place (passes (put_there (v ∷ vs) (suc (length vs) - 1 - i) s) (t ∷ ts) ≡ (fit (v ∷ vs) (t ∷ ts) && same (value (t ∷ ts) i) s)) i (length ts) lt
    (λ q.
    let z : 0 ≡ suc (length vs) - 1 - i = omega (arith, q, e) in
    subst (λ k. passes (put_there (v ∷ vs) k s) (t ∷ ts) ≡ (fit (v ∷ vs) (t ∷ ts) && same (value (t ∷ ts) i) s)) z
    (put-here s v vs t ts c.0 ∙ ap (λ x. fit (v ∷ vs) (t ∷ ts) && same x s) (sym (value-first t ts i q))))
    (λ l.
    let z : suc (length vs - 1 - i) ≡ suc (length vs) - 1 - i = omega (arith, l, e) in
    let e' : length vs ≡ length ts = omega (arith, e) in
    subst (λ k. passes (put_there (v ∷ vs) k s) (t ∷ ts) ≡ (fit (v ∷ vs) (t ∷ ts) && same (value (t ∷ ts) i) s)) z
    (ap (λ o. passes o (t ∷ ts)) (there-cons v vs (length vs - 1 - i) s) ∙ passes-cons v t (put_there vs (length vs - 1 - i) s) ts
    ∙ ap (λ b. fit_one v t && b) (put-meets s i vs ts c.1 e' l) ∙ sym (and-assoc (fit_one v t) (fit vs ts) (same (value ts i) s))
    ∙ ap (λ x. fit (v ∷ vs) (t ∷ ts) && same x s) (sym (value-later t ts i l))))

-- ---- walks

module _ (ts : List Tm) (tight : AreTight ts) where
  -- the walk goes through where these terms may stand for the holes, and the test holds
  abbrev Meets : Values → Option Values → Bool → Type 0
  Meets vs o b = passes o ts ≡ (fit vs ts && b)

  abbrev Long : Values → Type 0
  Long vs = length vs ≡ length ts

  meets-then : (vs : Values) (b c : Bool) (f : ℕ → Option Tm) (o : Option Values) (next : Values → Option Values) → Long vs → Goes vs f o → Meets vs o b →
      ((new : Values) → Long new → Meets new (next new) c) → Meets vs (option_and_then next o) (b && c)
  meets-then vs b c f None next e g h go = ap (λ x. x && c) h ∙ and-assoc (fit vs ts) b c
  meets-then vs b c f (Some mid) next e g h go = go mid (ap length g.0 ∙ joined-long vs f ∙ e) ∙ ap (λ x. x && c) h ∙ and-assoc (fit vs ts) b c

  meets-if : (b c : Bool) (vs : Values) (o : Option Values) → Meets vs o c → Meets vs (if b then o else None) (b && c)
  meets-if true c vs o h = h
  meets-if false c vs o h = sym (and-false (fit vs ts))

  -- the test of another tree
  along : (vs : Values) (o : Option Values) (x y s : Tm) → x ≡ y → Meets vs o (same y s) → Meets vs o (same x s)
  along vs o x y s e h = h ∙ ap (λ x. fit vs ts && same x s) (sym e)

  along_all : (vs : Values) (o : Option Values) (x y s : Tms) → x ≡ y → Meets vs o (same_all y s) → Meets vs o (same_all x s)
  along_all vs o x y s e h = h ∙ ap (λ x. fit vs ts && same_all x s) (sym e)

  along_formula : (vs : Values) (o : Option Values) (x y s : Fm) → x ≡ y → Meets vs o (same_formula y s) → Meets vs o (same_formula x s)
  along_formula vs o x y s e h = h ∙ ap (λ x. fit vs ts && same_formula x s) (sym e)

  misses : (vs : Values) → Meets vs None false
  misses vs = sym (and-false (fit vs ts))

  through : (vs : Values) → Meets vs (Some vs) true
  through vs = sym (and-true (fit vs ts))

  at-hole : (d j : ℕ) (s : Tm) (vs : Values) → Long vs → d ≤ j → j < d + length ts → Meets vs (put_at vs (j - d) s) (same (within d ts (bound j)) s)
  at-hole d j s vs e le lt =
      let l : j - d < length ts = omega (arith, le, lt) in
      let l' : j - d < length vs = omega (arith, l, e) in
      let k : d + (j - d) ≡ j = omega (arith, le) in
      ap (λ b. passes (if b then put_there vs (length vs - 1 - (j - d)) s else None) ts) (lt-ltb (j - d) (length vs) l')
      ∙ put-meets s (j - d) vs ts tight e l
      ∙ ap (λ x. fit vs ts && same x s) (sym (fills d ts (j - d) tight l) ∙ ap (λ j. within d ts (bound j)) k)

  bound-meets : (d j : ℕ) (s : Tm) (vs : Values) → Long vs → j < d + length ts → Meets vs (walk_bound d vs j s) (same (within d ts (bound j)) s)
  bound-meets d j s vs e lt = so (nat_lt j d) refl
    where
      so : (b : Bool) → nat_lt j d ≡ b → Meets vs (if b then if_so (same (bound j) s) vs else put_at vs (j - d) s) (same (within d ts (bound j)) s)
      so true q = passes-if (same (bound j) s) vs ts ∙ ap (λ x. fit vs ts && same x s) (sym (within-below d ts j (ltb-true j d q)))
      so false q = at-hole d j s vs e (ltb-false j d q) lt

  mutual
    pub walk-meets : (d : ℕ) (p s : Tm) (vs : Values) → Long vs → is_tight (d + length ts) p ≡ true → Meets vs (walk d vs p s) (same (within d ts p) s)
    walk-meets d (bound j) s vs e h = bound-meets d j s vs e (ltb-true j (d + length ts) h)
    walk-meets d (free i) (free k) vs e h = along vs (if_so (i == k) vs) _ _ (free k) (within-free d ts i) (passes-if (i == k) vs ts)
    walk-meets d nought nought vs e h = along vs (Some vs) _ _ nought (within-nought d ts) (through vs)
    walk-meets d (succ p) (succ s) vs e h = along vs (walk d vs p s) _ _ (succ s) (within-succ d ts p) (walk-meets d p s vs e h)
    walk-meets d (app f ps) (app g ss) vs e h =
        along vs (if f == g then walk_all d vs ps ss else None) _ _ (app g ss) (within-app d ts f ps) (meets-if (f == g) (same_all (all_within d ts ps) ss) vs (walk_all d vs ps ss) (walk_all-meets d ps ss vs e h))
    walk-meets d (free i) s vs e h = along vs None _ _ s (within-free d ts i) (misses vs)
    walk-meets d nought s vs e h = along vs None _ _ s (within-nought d ts) (misses vs)
    walk-meets d (succ p) s vs e h = along vs None _ _ s (within-succ d ts p) (misses vs)
    walk-meets d (app f ps) s vs e h = along vs None _ _ s (within-app d ts f ps) (misses vs)

    pub walk_all-meets : (d : ℕ) (ps ss : Tms) (vs : Values) → Long vs → are_tight (d + length ts) ps ≡ true → Meets vs (walk_all d vs ps ss) (same_all (all_within d ts ps) ss)
    walk_all-meets d none none vs e h = along_all vs (Some vs) _ _ none (within-none d ts) (through vs)
    walk_all-meets d (arg p ps) (arg s ss) vs e h =
        let k = and_parts (is_tight (d + length ts) p) (are_tight (d + length ts) ps) h in
        along_all vs (walk_all d vs (arg p ps) (arg s ss)) _ _ (arg s ss) (within-arg d ts p ps)
        (meets-then vs (same (within d ts p) s) (same_all (all_within d ts ps) ss) (λ i. standing (d + i) p s) (walk d vs p s) (λ vs. walk_all d vs ps ss) e (walk-goes d vs p s)
        (walk-meets d p s vs e k.0) (λ new e. walk_all-meets d ps ss new e k.1))
    walk_all-meets d none (arg s ss) vs e h = along_all vs None _ _ (arg s ss) (within-none d ts) (misses vs)
    walk_all-meets d (arg p ps) none vs e h = along_all vs None _ _ none (within-arg d ts p ps) (misses vs)

  -- both sides of a connective
  both : (d : ℕ) (p q a b : Fm) (vs : Values) → Long vs → ((vs : Values) → Long vs → Meets vs (walk_formula d vs p a) (same_formula (formula_within d ts p) a)) →
      ((vs : Values) → Long vs → Meets vs (walk_formula d vs q b) (same_formula (formula_within d ts q) b)) →
      Meets vs (option_and_then (λ vs. walk_formula d vs q b) (walk_formula d vs p a)) (same_formula (formula_within d ts p) a && same_formula (formula_within d ts q) b)
  both d p q a b vs e go go' =
      meets-then vs (same_formula (formula_within d ts p) a) (same_formula (formula_within d ts q) b) (λ i. standing_formula (d + i) p a) (walk_formula d vs p a) (λ vs. walk_formula d vs q b) e
      (formula-goes d vs p a) (go vs e) go'

  deeper : (d : ℕ) (p : Fm) → is_tight_formula (d + length ts + 1) p ≡ true → is_tight_formula (d + 1 + length ts) p ≡ true
  deeper d p h = let e : d + length ts + 1 ≡ d + 1 + length ts = omega arith in subst (λ n. is_tight_formula n p ≡ true) e h

  pub formula-meets : (d : ℕ) (p a : Fm) (vs : Values) → Long vs → is_tight_formula (d + length ts) p ≡ true → Meets vs (walk_formula d vs p a) (same_formula (formula_within d ts p) a)
  formula-meets d falsum falsum vs e h = along_formula vs (Some vs) _ _ falsum (within-falsum d ts) (through vs)
  formula-meets d (eq p q) (eq s t) vs e h =
      let k = and_parts (is_tight (d + length ts) p) (is_tight (d + length ts) q) h in
      along_formula vs (walk_formula d vs (eq p q) (eq s t)) _ _ (eq s t) (within-eq d ts p q)
      (meets-then vs (same (within d ts p) s) (same (within d ts q) t) (λ i. standing (d + i) p s) (walk d vs p s) (λ vs. walk d vs q t) e (walk-goes d vs p s)
      (walk-meets d p s vs e k.0) (λ new e. walk-meets d q t new e k.1))
  formula-meets d (pred p ps) (pred q ss) vs e h =
      along_formula vs (if p == q then walk_all d vs ps ss else None) _ _ (pred q ss) (within-pred d ts p ps) (meets-if (p == q) (same_all (all_within d ts ps) ss) vs (walk_all d vs ps ss) (walk_all-meets d ps ss vs e h))
  formula-meets d (and p q) (and a b) vs e h =
      let k = and_parts (is_tight_formula (d + length ts) p) (is_tight_formula (d + length ts) q) h in
      along_formula vs (walk_formula d vs (and p q) (and a b)) _ _ (and a b) (within-and d ts p q) (both d p q a b vs e (λ vs e. formula-meets d p a vs e k.0) (λ vs e. formula-meets d q b vs e k.1))
  formula-meets d (or p q) (or a b) vs e h =
      let k = and_parts (is_tight_formula (d + length ts) p) (is_tight_formula (d + length ts) q) h in
      along_formula vs (walk_formula d vs (or p q) (or a b)) _ _ (or a b) (within-or d ts p q) (both d p q a b vs e (λ vs e. formula-meets d p a vs e k.0) (λ vs e. formula-meets d q b vs e k.1))
  formula-meets d (imp p q) (imp a b) vs e h =
      let k = and_parts (is_tight_formula (d + length ts) p) (is_tight_formula (d + length ts) q) h in
      along_formula vs (walk_formula d vs (imp p q) (imp a b)) _ _ (imp a b) (within-imp d ts p q) (both d p q a b vs e (λ vs e. formula-meets d p a vs e k.0) (λ vs e. formula-meets d q b vs e k.1))
  formula-meets d (all x p) (all y a) vs e h = along_formula vs (walk_formula (d + 1) vs p a) _ _ (all y a) (within-all d ts x p) (formula-meets (d + 1) p a vs e (deeper d p h))
  formula-meets d (ex x p) (ex y a) vs e h = along_formula vs (walk_formula (d + 1) vs p a) _ _ (ex y a) (within-ex d ts x p) (formula-meets (d + 1) p a vs e (deeper d p h))
  formula-meets d falsum a vs e h = along_formula vs None _ _ a (within-falsum d ts) (misses vs)
  formula-meets d (eq p q) a vs e h = along_formula vs None _ _ a (within-eq d ts p q) (misses vs)
  formula-meets d (pred p ps) a vs e h = along_formula vs None _ _ a (within-pred d ts p ps) (misses vs)
  formula-meets d (and p q) a vs e h = along_formula vs None _ _ a (within-and d ts p q) (misses vs)
  formula-meets d (or p q) a vs e h = along_formula vs None _ _ a (within-or d ts p q) (misses vs)
  formula-meets d (imp p q) a vs e h = along_formula vs None _ _ a (within-imp d ts p q) (misses vs)
  formula-meets d (all x p) a vs e h = along_formula vs None _ _ a (within-all d ts x p) (misses vs)
  formula-meets d (ex x p) a vs e h = along_formula vs None _ _ a (within-ex d ts x p) (misses vs)
