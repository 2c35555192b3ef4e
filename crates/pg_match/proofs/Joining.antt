-- The values after a walk: those before it, and what stands in the subject where the other holes stand first.
use Rattle.std.proofs.Common.{◌≡◌, ℕ, suc, ◌+◌, ◌-◌, ◌<◌, [], ◌∷◌, length, Bool, true, false, Option, Some, None, refl, arith, ap, sym, ◌∙◌, subst, ⊎_elim}
use Rattle.std.specs.Prelude.{if◌then◌else◌, ◌==◌, nat_lt, option_map, option_and_then, slice_get, slice_set}
use Rattle.std.specs.Option.{option_or}
use Rattle.std.specs.List.{list_all}
use Rattle.std.proofs.lemmas.Bool.{and_parts, and_from, ltb-true, ltb-false, eq-eqb, ne_eqb, cases_order}
use Rattle.pg_logic.specs.Tree.{Tm, free, bound, nought, succ, app, Tms, none, arg, same, Fm, falsum, eq, pred, and, or, imp, all, ex, is_tight}
use Rattle.pg_moves.specs.Instances.{Values, standing, standing_in, standing_formula, is_closed}
use Rattle.pg_match.specs.Walks.{if_so, put, put_at, walk_bound, walk, walk_all, walk_formula}

-- values, and others where there are none
abbrev pub joined : Values → (ℕ → Option Tm) → Values
joined [] f = []
joined (v ∷ vs) f = option_or v (f (length vs)) ∷ joined vs f

pub joined-long : (vs : Values) (f : ℕ → Option Tm) → length (joined vs f) ≡ length vs
joined-long [] f = refl
joined-long (v ∷ vs) f = ap suc (joined-long vs f)

or-or : (u v w : Option Tm) → option_or (option_or u v) w ≡ option_or u (option_or v w)
or-or None v w = refl
or-or (Some t) v w = refl

or-none : (v : Option Tm) → option_or v None ≡ v
or-none None = refl
or-none (Some t) = refl

joined-twice : (vs : Values) (f g : ℕ → Option Tm) → joined (joined vs f) g ≡ joined vs (λ i. option_or (f i) (g i))
joined-twice [] f g = refl
joined-twice (v ∷ vs) f g =
    ap (λ n. option_or (option_or v (f (length vs))) (g n) ∷ joined (joined vs f) g) (joined-long vs f)
    ∙ ap (λ x. x ∷ joined (joined vs f) g) (or-or v (f (length vs)) (g (length vs)))
    ∙ ap (λ l. option_or v (option_or (f (length vs)) (g (length vs))) ∷ l) (joined-twice vs f g)

joined-nothing : (vs : Values) (f : ℕ → Option Tm) → ((i : ℕ) → i < length vs → f i ≡ None) → joined vs f ≡ vs
joined-nothing [] f h = refl
joined-nothing (v ∷ vs) f h =
    ap (λ o. option_or v o ∷ joined vs f) (h (length vs) (omega arith)) ∙ ap (λ x. x ∷ joined vs f) (or-none v)
    ∙ ap (λ l. v ∷ l) (joined-nothing vs f (λ i lt. h i (omega (arith, lt))))

abbrev are_closed : Values → Bool
are_closed vs = list_all is_closed vs

-- what is known of the values after a walk
abbrev pub Goes : Values → (ℕ → Option Tm) → Option Values → Type 0
Goes vs f None = Unit {0}
Goes vs f (Some new) = (new ≡ joined vs f) × (list_all is_closed vs ≡ true → list_all is_closed new ≡ true)

goes-on : (vs : Values) (f g : ℕ → Option Tm) (o : Option Values) (next : Values → Option Values) → Goes vs f o →
    ((new : Values) → Goes new g (next new)) → Goes vs (λ i. option_or (f i) (g i)) (option_and_then next o)
goes-on vs f g None next h go = tt
goes-on vs f g (Some mid) next h go = last (next mid) (go mid)
  where
    last : (o : Option Values) → Goes mid g o → Goes vs (λ i. option_or (f i) (g i)) o
    last None k = tt
    last (Some new) k = (k.0 ∙ ap (λ l. joined l g) h.0 ∙ joined-twice vs f g, λ c. k.1 (h.1 c))

goes-if : (b : Bool) (vs : Values) (f : ℕ → Option Tm) (o : Option Values) → Goes vs f o → Goes vs f (if b then o else None)
goes-if true vs f o h = h
goes-if false vs f o h = tt

stays : (b : Bool) (vs : Values) (f : ℕ → Option Tm) → ((i : ℕ) → i < length vs → f i ≡ None) → Goes vs f (if_so b vs)
stays true vs f h = (sym (joined-nothing vs f h), λ c. c)
stays false vs f h = tt

-- a place further in
pub put-cons : (v : Option Tm) (vs : Values) (k : ℕ) (o : Option (Option Tm)) (s : Tm) → put (v ∷ vs) (suc k) o s ≡ option_map (λ l. v ∷ l) (put vs k o s)
put-cons v vs k None s = refl
put-cons v vs k (Some None) s = so (is_tight 0 s)
  where
    so : (b : Bool) → if_so b (slice_set (v ∷ vs) (suc k) (Some s)) ≡ option_map (λ l. v ∷ l) (if_so b (slice_set vs k (Some s)))
    so true = refl
    so false = refl
put-cons v vs k (Some (Some t)) s = so (same t s)
  where
    so : (b : Bool) → if_so b (v ∷ vs) ≡ option_map (λ l. v ∷ l) (if_so b vs)
    so true = refl
    so false = refl

-- a subject put at a place
abbrev pub put_there : Values → ℕ → Tm → Option Values
put_there vs k s = put vs k (slice_get vs k) s

pub there-cons : (v : Option Tm) (vs : Values) (k : ℕ) (s : Tm) → put_there (v ∷ vs) (suc k) s ≡ option_map (λ l. v ∷ l) (put_there vs k s)
there-cons v vs k s = put-cons v vs k (slice_get vs k) s

-- hole i is the last of them, or one further in
pub by_place : (P : Type 0) (i n : ℕ) → i < suc n → (i ≡ n → P) → (i < n → P) → P
by_place P i n lt here further =
    ⊎_elim (λ (e : i ≡ n). here e) (λ o. ⊎_elim (λ (l : i < n). further l) (λ (g : n < i). absurd (omega arith)) o) (cases_order i n)

module _ (f : ℕ → Option Tm) (i : ℕ) (s : Tm) (at : f i ≡ Some s) (off : (k : ℕ) → (k ≡ i → ⊥) → f k ≡ None) where
  here : (v : Option Tm) (vs : Values) → i ≡ length vs → Goes (v ∷ vs) f (put_there (v ∷ vs) 0 s)
  here None vs e = so (is_tight 0 s) refl
    where
      rest : joined vs f ≡ vs
      rest = joined-nothing vs f (λ k lt. off k (λ q. omega (arith, e, q, lt)))

      so : (b : Bool) → is_tight 0 s ≡ b → Goes (None ∷ vs) f (if_so b (Some s ∷ vs))
      so false q = tt
      so true q = (sym (ap (λ o. o ∷ joined vs f) (ap f (sym e) ∙ at) ∙ ap (λ l. Some s ∷ l) rest), λ c. and_from _ _ q (and_parts true (list_all is_closed vs) c).1)
  here (Some t) vs e = so (same t s)
    where
      rest : joined vs f ≡ vs
      rest = joined-nothing vs f (λ k lt. off k (λ q. omega (arith, e, q, lt)))

      so : (b : Bool) → Goes (Some t ∷ vs) f (if_so b (Some t ∷ vs))
      so false = tt
      so true = (sym (ap (λ l. Some t ∷ l) rest), λ c. c)

  behind : (v : Option Tm) (vs : Values) (o : Option Values) → (i ≡ length vs → ⊥) → Goes vs f o → Goes (v ∷ vs) f (option_map (λ l. v ∷ l) o)
  behind v vs None ne h = tt
  behind v vs (Some new) ne h = (
    sym (ap (λ o. option_or v o ∷ joined vs f) (off (length vs) (λ q. ne (sym q))) ∙ ap (λ x. x ∷ joined vs f) (or-none v) ∙ ap (λ l. v ∷ l) (sym h.0)),
    λ c. let k = and_parts (is_closed v) (list_all is_closed vs) c in and_from _ _ k.0 (h.1 k.1),
  )

  put-goes : (vs : Values) → i < length vs → Goes vs f (put_there vs (length vs - 1 - i) s)
  put-goes [] lt = absurd (omega arith)
  put-goes (v ∷ vs) lt =
      by_place (Goes (v ∷ vs) f (put_there (v ∷ vs) (suc (length vs) - 1 - i) s)) i (length vs) lt
      (λ e. let z : 0 ≡ suc (length vs) - 1 - i = omega (arith, e) in subst (λ k. Goes (v ∷ vs) f (put_there (v ∷ vs) k s)) z (here v vs e))
      (λ l.
      let z : suc (length vs - 1 - i) ≡ suc (length vs) - 1 - i = omega (arith, l) in
      subst (λ k. Goes (v ∷ vs) f (put_there (v ∷ vs) k s)) z
      (subst (Goes (v ∷ vs) f) (sym (there-cons v vs (length vs - 1 - i) s)) (behind v vs (put_there vs (length vs - 1 - i) s) (λ e. omega (arith, e, l)) (put-goes vs l))))

  put_at-goes : (vs : Values) → Goes vs f (put_at vs i s)
  put_at-goes vs = so (nat_lt i (length vs)) refl
    where
      so : (b : Bool) → nat_lt i (length vs) ≡ b → Goes vs f (if b then put_there vs (length vs - 1 - i) s else None)
      so true e = put-goes vs (ltb-true i (length vs) e)
      so false e = tt

-- what stands for a bound variable
found-at : (d j k : ℕ) (s : Tm) → d + k ≡ j → standing (d + k) (bound j) s ≡ Some s
found-at d j k s e = ap (λ b. if b then Some s else None) (eq-eqb (d + k) j e)

not-at : (d j k : ℕ) (s : Tm) → (d + k ≡ j → ⊥) → standing (d + k) (bound j) s ≡ None
not-at d j k s e = ap (λ b. if b then Some s else None) (ne_eqb (d + k) j e)

bound-goes : (d : ℕ) (vs : Values) (j : ℕ) (s : Tm) → Goes vs (λ i. standing (d + i) (bound j) s) (walk_bound d vs j s)
bound-goes d vs j s = so (nat_lt j d) refl
  where
    so : (b : Bool) → nat_lt j d ≡ b → Goes vs (λ i. standing (d + i) (bound j) s) (if b then if_so (same (bound j) s) vs else put_at vs (j - d) s)
    so true e = let lt = ltb-true j d e in stays (same (bound j) s) vs (λ i. standing (d + i) (bound j) s) (λ i l. not-at d j i s (λ q. omega (arith, lt, q)))
    so false e =
        let le = ltb-false j d e in
        put_at-goes (λ i. standing (d + i) (bound j) s) (j - d) s (found-at d j (j - d) s (omega (arith, le))) (λ k ne. not-at d j k s (λ q. ne (omega (arith, le, q)))) vs

mutual
  pub walk-goes : (d : ℕ) (vs : Values) (p s : Tm) → Goes vs (λ i. standing (d + i) p s) (walk d vs p s)
  walk-goes d vs (bound j) s = bound-goes d vs j s
  walk-goes d vs (free i) (free j) = stays (i == j) vs (λ k. None) (λ k lt. refl)
  walk-goes d vs nought nought = stays true vs (λ k. None) (λ k lt. refl)
  walk-goes d vs (succ p) (succ s) = walk-goes d vs p s
  walk-goes d vs (app f ps) (app g ss) = goes-if (f == g) vs (λ i. standing_in (d + i) ps ss) (walk_all d vs ps ss) (walk_all-goes d vs ps ss)
  walk-goes d vs _ _ = tt

  pub walk_all-goes : (d : ℕ) (vs : Values) (ps ss : Tms) → Goes vs (λ i. standing_in (d + i) ps ss) (walk_all d vs ps ss)
  walk_all-goes d vs none none = stays true vs (λ k. None) (λ k lt. refl)
  walk_all-goes d vs (arg p ps) (arg s ss) =
      goes-on vs (λ i. standing (d + i) p s) (λ i. standing_in (d + i) ps ss) (walk d vs p s) (λ vs. walk_all d vs ps ss) (walk-goes d vs p s) (λ new. walk_all-goes d new ps ss)
  walk_all-goes d vs _ _ = tt

-- under one binder more
deeper : (vs : Values) (d : ℕ) (p a : Fm) (o : Option Values) → Goes vs (λ i. standing_formula (d + 1 + i) p a) o → Goes vs (λ i. standing_formula (d + i + 1) p a) o
deeper vs d p a None h = tt
deeper vs d p a (Some new) h = (h.0 ∙ alike vs, h.1)
  where
    alike : (vs : Values) → joined vs (λ i. standing_formula (d + 1 + i) p a) ≡ joined vs (λ i. standing_formula (d + i + 1) p a)
    alike [] = refl
    alike (v ∷ vs) =
        let e : d + 1 + length vs ≡ d + length vs + 1 = omega arith in
        ap (λ k. option_or v (standing_formula k p a) ∷ joined vs (λ i. standing_formula (d + 1 + i) p a)) e ∙ ap (λ l. option_or v (standing_formula (d + length vs + 1) p a) ∷ l) (alike vs)

pub formula-goes : (d : ℕ) (vs : Values) (p a : Fm) → Goes vs (λ i. standing_formula (d + i) p a) (walk_formula d vs p a)
formula-goes d vs falsum falsum = stays true vs (λ k. None) (λ k lt. refl)
formula-goes d vs (eq p q) (eq s t) =
    goes-on vs (λ i. standing (d + i) p s) (λ i. standing (d + i) q t) (walk d vs p s) (λ vs. walk d vs q t) (walk-goes d vs p s) (λ new. walk-goes d new q t)
formula-goes d vs (pred p ps) (pred q ss) = goes-if (p == q) vs (λ i. standing_in (d + i) ps ss) (walk_all d vs ps ss) (walk_all-goes d vs ps ss)
formula-goes d vs (and p q) (and a b) =
    goes-on vs (λ i. standing_formula (d + i) p a) (λ i. standing_formula (d + i) q b) (walk_formula d vs p a) (λ vs. walk_formula d vs q b) (formula-goes d vs p a) (λ new. formula-goes d new q b)
formula-goes d vs (or p q) (or a b) =
    goes-on vs (λ i. standing_formula (d + i) p a) (λ i. standing_formula (d + i) q b) (walk_formula d vs p a) (λ vs. walk_formula d vs q b) (formula-goes d vs p a) (λ new. formula-goes d new q b)
formula-goes d vs (imp p q) (imp a b) =
    goes-on vs (λ i. standing_formula (d + i) p a) (λ i. standing_formula (d + i) q b) (walk_formula d vs p a) (λ vs. walk_formula d vs q b) (formula-goes d vs p a) (λ new. formula-goes d new q b)
formula-goes d vs (all x p) (all y a) = deeper vs d p a (walk_formula (d + 1) vs p a) (formula-goes (d + 1) vs p a)
formula-goes d vs (ex x p) (ex y a) = deeper vs d p a (walk_formula (d + 1) vs p a) (formula-goes (d + 1) vs p a)
formula-goes d vs _ _ = tt
