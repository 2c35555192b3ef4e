-- The first fault of the first command that has one is the first of all.
use Rattle.std.proofs.Common.{◌≡◌, ◌∙◌, ℕ, ◌<◌, ◌≤◌, true, false, not, T, List, [], ◌∷◌, ◌++◌, refl, sym, ap, subst, arith, Option, Some, None, nat_lt, if◌then◌else◌, inl, inr, ltb→lt, nltb→le}
use Rattle.std.specs.Prelude.{◌||◌, ◌==◌}
use Rattle.std.proofs.lemmas.Bool.{cases_lt}
use Rattle.pg_gametext.specs.Faults.{LimitName, limit_rank, Kind, Worlds, Levels, Functions, Predicates, Arity, Tokens, Nesting, Nodes, Height, Variables, Hypotheses, ScriptBytes, Steps, Blocks, Hints, BadToken, Unknown, Duplicate, LevelGap, Limit, NotRecursive, Fault, rank, key, earlier, least, fault_if, Expected}
use Rattle.pg_gametext.specs.Placed.{Placed}
use Rattle.pg_gametext.specs.Checks.{command_faults}
use Rattle.pg_gametext.specs.Before.{lacks_statement, level_count}
use Rattle.pg_gametext.specs.Game.{end_faults, faults_behind}
use Rattle.pg_gametext.specs.Laws.{or_else, first_behind, Each, IsWithin, GoesOnAt, AreLaid, LaidLaw}

pub less_of : (a b : ℕ) → nat_lt a b ≡ true → a < b
less_of a b e = ltb→lt a b (subst T (sym e) tt)

pub not_less : (a b : ℕ) → nat_lt a b ≡ false → b ≤ a
not_less a b e = nltb→le a b (subst (λ x. T (not x)) (sym e) tt)

-- ---- the earlier of two

earlier_left : (f g : Fault) → key f ≤ key g → earlier f (Some g) ≡ f
earlier_left f g h = elim (nat_lt (key g) (key f)) as (λ b. nat_lt (key g) (key f) ≡ b → (if b then g else f) ≡ f) [
  | true ↦ λ e. (let l = less_of (key g) (key f) e in absurd (omega (arith, l, h)))
  | false ↦ λ e. refl
] refl

-- what holds of both holds of the earlier
earlier_of : (P : Fault → Type 0) (f g : Fault) → P f → P g → P (earlier f (Some g))
earlier_of P f g p q = elim (nat_lt (key g) (key f)) as (λ b. P (if b then g else f)) [ true ↦ q | false ↦ p ]

abbrev NotAfter : Fault → Fault → Fault → Type 0
NotAfter m f g = (key m ≤ key f) × (key m ≤ key g)

earlier_least : (f g : Fault) → NotAfter (earlier f (Some g)) f g
earlier_least f g = elim (nat_lt (key g) (key f)) as (λ b. nat_lt (key g) (key f) ≡ b → NotAfter (if b then g else f) f g) [
  | true ↦ λ e. (let l = less_of (key g) (key f) e in (omega (arith, l), omega arith))
  | false ↦ λ e. (let l = not_less (key g) (key f) e in (omega arith, omega (arith, l)))
] refl

some_is : (f g : Fault) → (let o : Option Fault = Some f in o) ≡ Some g → f ≡ g
some_is f g e = cc

pub some_none : (f : Fault) → (let o : Option Fault = Some f in o) ≡ None → ⊥
some_none f e = cc

-- ---- the least of many

-- what holds of each holds of the least
least_of : (P : Fault → Type 0) (fs : List Fault) → Each P fs → (m : Fault) → least fs ≡ Some m → P m
least_of P [] each m e = absurd (some_none m (sym e))
least_of P (f ∷ fs) each m e = subst P (some_is _ m e) (
    elim (least fs) as (λ o. least fs ≡ o → P (earlier f o)) [
      | None ↦ λ e. each.0
      | Some g ↦ λ e. earlier_of P f g each.0 (least_of P fs each.1 g e)
    ] refl)

pub each_more : (P Q : Fault → Type 0) → ((f : Fault) → P f → Q f) → (fs : List Fault) → Each P fs → Each Q fs
each_more P Q h [] each = tt
each_more P Q h (f ∷ fs) each = (h f each.0, each_more P Q h fs each.1)

pub each_append : (P : Fault → Type 0) (fs gs : List Fault) → Each P fs → Each P gs → Each P (fs ++ gs)
each_append P [] gs p q = q
each_append P (f ∷ fs) gs p q = (p.0, each_append P fs gs p.1 q)

abbrev AtLeast : ℕ → Fault → Type 0
AtLeast n f = n ≤ key f

-- none comes before the least
least_first : (fs : List Fault) (m : Fault) → least fs ≡ Some m → Each (AtLeast (key m)) fs
least_first [] m e = tt
least_first (f ∷ fs) m e =
    elim (least fs) as (λ o. least fs ≡ o → earlier f o ≡ m → Each (AtLeast (key m)) (f ∷ fs)) [
      | None ↦ λ none same. (omega (arith, ap key same), least_first_none fs none m)
      | Some g ↦ λ some same.
          let l = earlier_least f g in
          let k : key (earlier f (Some g)) ≡ key m = ap key same in
          (omega (arith, l.0, k), each_more (AtLeast (key g)) (AtLeast (key m)) (λ h p. omega (arith, p, l.1, k)) fs (least_first fs g some))
    ] refl (some_is _ m e)
  where
    least_first_none : (fs : List Fault) → least fs ≡ None → (m : Fault) → Each (AtLeast (key m)) fs
    least_first_none [] e m = tt
    least_first_none (f ∷ fs) e m = absurd (some_none _ e)

-- where no later one comes before the least, more change nothing
least_append : (fs gs : List Fault) (m : Fault) → least fs ≡ Some m → Each (AtLeast (key m)) gs → least (fs ++ gs) ≡ Some m
least_append [] gs m e each = absurd (some_none m (sym e))
least_append (f ∷ fs) gs m e each =
    elim (least fs) as (λ o. least fs ≡ o → earlier f o ≡ m → least (f ∷ (fs ++ gs)) ≡ Some m) [
      | None ↦ λ none same. first_append f fs gs m none same each
      | Some g ↦ λ some same. more_append f fs gs g m some same each (λ each_g. least_append fs gs g some each_g)
    ] refl (some_is _ m e)
  where
    -- one alone, in front of others
    in_front : (f : Fault) (rest : List Fault) → Each (AtLeast (key f)) rest → least (f ∷ rest) ≡ Some f
    in_front f rest each = elim (least rest) as (λ o. least rest ≡ o → (let r : Option Fault = Some (earlier f o) in r) ≡ Some f) [
      | None ↦ λ e. refl
      | Some g ↦ λ e. ap Some (earlier_left f g (least_of (AtLeast (key f)) rest each g e))
    ] refl

    none_empty : (fs gs : List Fault) → least fs ≡ None → fs ++ gs ≡ gs
    none_empty [] gs e = refl
    none_empty (f ∷ fs) gs e = absurd (some_none _ e)

    first_append : (f : Fault) (fs gs : List Fault) (m : Fault) → least fs ≡ None → f ≡ m → Each (AtLeast (key m)) gs → least (f ∷ (fs ++ gs)) ≡ Some m
    first_append f fs gs m none same each =
        let each_f : Each (AtLeast (key f)) gs = subst (λ x. Each (AtLeast (key x)) gs) (sym same) each in
        ap (λ (xs : List Fault). least (f ∷ xs)) (none_empty fs gs none) ∙ in_front f gs each_f ∙ ap Some same

    more_append : (f : Fault) (fs gs : List Fault) (g m : Fault) → least fs ≡ Some g → earlier f (Some g) ≡ m → Each (AtLeast (key m)) gs
        → (Each (AtLeast (key g)) gs → least (fs ++ gs) ≡ Some g) → least (f ∷ (fs ++ gs)) ≡ Some m
    more_append f fs gs g m some same each go =
        elim (nat_lt (key g) (key f)) as (λ b. nat_lt (key g) (key f) ≡ b → (if b then g else f) ≡ m → least (f ∷ (fs ++ gs)) ≡ Some m) [
          | true ↦ λ e is. ap (λ o. Some (earlier f o)) (go (subst (λ x. Each (AtLeast (key x)) gs) (sym is) each)) ∙ ap Some same
          | false ↦ λ e is.
              let each_f : Each (AtLeast (key f)) gs = subst (λ x. Each (AtLeast (key x)) gs) (sym is) each in
              let each_fs : Each (AtLeast (key f)) fs = each_more (AtLeast (key g)) (AtLeast (key f)) (λ h p. let l = not_less (key g) (key f) e in omega (arith, p, l)) fs (least_first fs g some) in
              in_front f (fs ++ gs) (each_append (AtLeast (key f)) fs gs each_fs each_f) ∙ ap Some is
        ] refl same

-- ---- commands

-- what is behind a place and no fault of a token
abbrev Behind : ℕ → Fault → Type 0
Behind at f = (at ≤ f.at) × (0 < rank f.kind)

end_behind : (end : ℕ) (before : List Placed) → Each (Behind end) (end_faults end before)
end_behind end before = elim (lacks_statement before || (level_count before == 0)) as (λ b. Each (Behind end) (fault_if b end Expected)) [
  | true ↦ ((omega arith, omega arith), tt)
  | false ↦ tt
]

all_behind : (end : ℕ) (before : List Placed) (more : List Placed) (at : ℕ) → GoesOnAt end at more → AreLaid end before more → Each (Behind at) (faults_behind end before more)
all_behind end before [] at next laid = each_more (Behind end) (Behind at) (λ f p. (omega (arith, p.0, next), p.1)) (end_faults end before) (end_behind end before)
all_behind end before (c ∷ more) at next laid =
    each_append (Behind at) (command_faults before c) (faults_behind end (c ∷ before) more)
    (each_more (IsWithin c.at c.end) (Behind at) (λ f p. (omega (arith, p.behind, next), p.no_token)) (command_faults before c) laid.2)
    (each_more (Behind c.end) (Behind at) (λ f p. (omega (arith, p.0, next, laid.0), p.1)) _ (all_behind end (c ∷ before) more c.end laid.1 laid.3))

limit_below : (l : LimitName) → limit_rank l < 15
limit_below Worlds = omega arith
limit_below Levels = omega arith
limit_below Functions = omega arith
limit_below Predicates = omega arith
limit_below Arity = omega arith
limit_below Tokens = omega arith
limit_below Nesting = omega arith
limit_below Nodes = omega arith
limit_below Height = omega arith
limit_below Variables = omega arith
limit_below Hypotheses = omega arith
limit_below ScriptBytes = omega arith
limit_below Steps = omega arith
limit_below Blocks = omega arith
limit_below Hints = omega arith

pub rank_below : (k : Kind) → rank k < 32
rank_below BadToken = omega arith
rank_below Expected = omega arith
rank_below Unknown = omega arith
rank_below (Duplicate n) = omega arith
rank_below (LevelGap n) = omega arith
rank_below (Limit l n) = let low = limit_below l in omega (arith, low)
rank_below NotRecursive = omega arith

-- a fault of a command and one behind it
later : (from to : ℕ) (f g : Fault) → IsWithin from to f → Behind to g → key f ≤ key g
later from to f g p q =
    let low : rank f.kind < 32 = rank_below f.kind in
    elim (cases_lt f.at to) [
      | inl less ↦ omega (arith, low, less, q.0)
      | inr more ↦ let same : f.at ≡ to = omega (arith, more, p.before) in let one = p.missing same in omega (arith, one, same, q.0, q.1)
    ]

pub laid-law : LaidLaw
laid-law end before [] laid = refl
laid-law end before (c ∷ more) laid =
    elim (least (command_faults before c)) as (λ o. least (command_faults before c) ≡ o → least (command_faults before c ++ faults_behind end (c ∷ before) more) ≡ or_else o (first_behind end (c ∷ before) more)) [
      | None ↦ λ e. ap (λ (fs : List Fault). least (fs ++ faults_behind end (c ∷ before) more)) (none_is (command_faults before c) e) ∙ laid-law end (c ∷ before) more laid.3
      | Some m ↦ λ e.
          let within = least_of (IsWithin c.at c.end) (command_faults before c) laid.2 m e in
          least_append (command_faults before c) (faults_behind end (c ∷ before) more) m e
          (each_more (Behind c.end) (AtLeast (key m)) (λ g p. later c.at c.end m g within p) _ (all_behind end (c ∷ before) more c.end laid.1 laid.3))
    ] refl
  where
    none_is : (fs : List Fault) → least fs ≡ None → fs ≡ []
    none_is [] e = refl
    none_is (f ∷ fs) e = absurd (some_none _ e)
