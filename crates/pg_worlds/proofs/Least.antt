-- The flags of the levels before a level, by a test.
use Rattle.std.proofs.Common.{◌≡◌, ℕ, zero, suc, ◌+◌, ◌<◌, Bool, true, false, ◌&&◌, ◌||◌, eqb, List, [], ◌∷◌, length, refl, sym, ap, ◌∙◌, inl, inr, arith}
use Rattle.std.specs.Prelude.{◌↔◌, ◌⊎◌, slice_index, IsTrue, nat_lt}
use Rattle.std.proofs.lemmas.Bool.{and_from, and_parts, cases_Bool, cases_lt, eq-eqb, eqb-true, false≢true, lt-ltb, ltb-true, or_cases, or_left, or_right}
use Rattle.pg_worlds.specs.Flags.{flag, has}
use Rattle.pg_worlds.specs.Worlds.{Worlds, needs_of, IsGraph, IsWorldOrder}
use Rattle.pg_worlds.specs.Course.{Plan, IsPlan, IsBefore, IsLeastWon, Needs, flags_from, is_before, leads_to, least_won, world_of}
use Rattle.pg_worlds.proofs.Placing.{has_place}
use Rattle.pg_worlds.proofs.Reached.{apart, in_range}
use Rattle.pg_worlds.proofs.Waiting.{any_gives, any_has, needs_below, needs_on}

-- ---- needs that lead from world to world

leads-needs : (g : Worlds) (n a b : ℕ) → leads_to g n a b ≡ true → Needs g a b
leads-needs g zero a b e = absurd (false≢true e)
leads-needs g (suc n) a b e =
    let r = any_gives (needs_of g a) (λ c. eqb c b || leads_to g n c b) e in
    elim (or_cases (eqb r.0 b) (leads_to g n r.0 b) r.2) [
      | inl here ↦ Needs.directly b (ap (has (needs_of g a)) (sym (eqb-true r.0 b here)) ∙ r.1)
      | inr later ↦ needs_on g a r.0 b (Needs.directly r.0 r.1) (leads-needs g n r.0 b later)
    ]

-- the first need on the way
abbrev FirstNeed : Worlds → (a b : ℕ) → Type 0
FirstNeed g a b = (c : ℕ) × IsTrue (has (needs_of g a) c) × ((c ≡ b) ⊎ Needs g c b)

first-need : (g : Worlds) (a b : ℕ) → Needs g a b → FirstNeed g a b
first-need g a b (Needs.directly _ e) = (b, e, inl refl)
first-need g a b (Needs.through c _ n e) =
    let r = first-need g a c n in (
      r.0,
      r.1,
      elim r.2 [
        | inl same ↦ inr (Needs.directly b (ap (λ w. has (needs_of g w) b) same ∙ e))
        | inr rest ↦ inr (Needs.through c b rest e)
      ],
    )

-- what a world needs stands before it in an order, so no more needs lead there than worlds stand up to it
needs-lead : (g : Worlds) (order : List ℕ) → IsGraph g → IsWorldOrder g order → (n i a b : ℕ) → i < n → i < length order → slice_index order i ≡ a → Needs g a b → leads_to g n a b ≡ true
needs-lead g order graph ordered zero i a b l h at n = absurd (omega (arith, l))
needs-lead g order graph ordered (suc m) i a b l h at n =
    let r = first-need g a b n in
    let c : ℕ = r.0 in
    let test : ℕ → Bool = λ c. eqb c b || leads_to g m c b in
    elim r.2 [
      | inl same ↦ any_has (needs_of g a) test c r.1 (or_left (eqb c b) (leads_to g m c b) (eq-eqb c b same))
      | inr rest ↦
          let p = has_place order c (ordered.every_world c (in_range g graph a c (Needs.directly c r.1))) in
          elim (cases_lt p.0 i) [
            | inl less ↦ any_has (needs_of g a) test c r.1 (or_right (eqb c b) (leads_to g m c b) (needs-lead g order graph ordered m p.0 c b (omega (arith, less, l)) p.1 p.2 rest))
            | inr more ↦ absurd (apart g order ordered i p.0 more p.1 (ap (λ w. has (needs_of g w) (slice_index order p.0)) at ∙ ap (has (needs_of g a)) p.2 ∙ r.1))
          ]
    ]

-- ---- levels before a level

before-test : (p : Plan) → IsPlan p → (level k : ℕ) → k < length p.levels → IsTrue (is_before p level k) ↔ IsBefore p level k
before-test p plan level k h = (to, λ before. from before.1)
  where
    a : ℕ
    a = world_of p level

    b : ℕ
    b = world_of p k

    to : is_before p level k ≡ true → IsBefore p level k
    to e = elim (or_cases (leads_to p.worlds (length p.order) a b) (eqb b a && nat_lt k level) e) [
      | inl leads ↦ (h, inl (leads-needs p.worlds (length p.order) a b leads))
      | inr same ↦ let r = and_parts (eqb b a) (nat_lt k level) same in (h, inr (eqb-true b a r.0, ltb-true k level r.1))
    ]

    from : Needs p.worlds a b ⊎ ((b ≡ a) × (k < level)) → is_before p level k ≡ true
    from (inl n) =
        let r = has_place p.order a (plan.ordered.every_world a (needs_below p.worlds a b n)) in
        or_left _ (eqb b a && nat_lt k level) (needs-lead p.worlds p.order plan.graph plan.ordered (length p.order) r.0 a b r.1 r.1 r.2 n)
    from (inr same) = or_right (leads_to p.worlds (length p.order) a b) _ (and_from _ _ (eq-eqb b a same.0) (lt-ltb k level same.1))

-- ---- flags by a test

flags-are : (test : ℕ → Bool) (k : ℕ) (flags : List Bool) → ((i : ℕ) → i < length flags → flag flags i ≡ test (k + i)) → flags ≡ flags_from test k (length flags)
flags-are test k [] same = refl
flags-are test k (b ∷ bs) same =
    ap (λ c. c ∷ bs) (same 0 (omega arith) ∙ (let e : k + 0 ≡ k = omega arith in ap test e))
    ∙ ap (λ cs. test k ∷ cs) (flags-are test (k + 1) bs (λ i l. same (suc i) (omega (arith, l)) ∙ (let e : k + suc i ≡ k + 1 + i = omega arith in ap test e)))

same-flag : (c d : Bool) → (c ≡ true → d ≡ true) → (d ≡ true → c ≡ true) → c ≡ d
same-flag true d to from = sym (to refl)
same-flag false d to from = elim (cases_Bool d) [ inl e ↦ from e ∙ sym e | inr e ↦ sym e ]

pub least_is : (p : Plan) → IsPlan p → (level : ℕ) (won : List Bool) → IsLeastWon p level won → won ≡ least_won p level
least_is p plan level won least =
    flags-are (is_before p level) 0 won
    (λ i l.
    let t = before-test p plan level i (omega (arith, least.0, l)) in
    same-flag (flag won i) (is_before p level i) (λ e. t.1 ((least.1 i).0 e)) (λ e. (least.1 i).1 (t.0 e))
    ∙ (let e : i ≡ 0 + i = omega arith in ap (is_before p level) e))
    ∙ ap (flags_from (is_before p level) 0) least.0
