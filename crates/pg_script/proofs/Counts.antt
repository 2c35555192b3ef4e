-- How many tokens a part and an argument have, in two lists that begin alike.
use Rattle.std.proofs.Common.{◌≡◌, ◌∙◌, ℕ, zero, suc, ◌+◌, ◌-◌, ◌<◌, ◌≤◌, true, false, ◌&&◌, List, [], ◌∷◌, ◌++◌, length, take, drop, refl, sym, ap, subst, arith, Ok, Err, if◌then◌else◌, ◌==◌, nat_le, ◌⊎◌, inl, inr}
use Rattle.std.proofs.Math.Dec.{eqb-suc-zero}
use Rattle.pg_base.specs.declared.token.Wanted.{Wanted}
use Rattle.pg_base.specs.declared.token.Wanted.TheVariants as wanted
use Rattle.pg_base.specs.Tokens.{Word}
use Rattle.pg_script.specs.declared.fault.ScriptFault.{ScriptFault}
use Rattle.pg_script.specs.declared.fault.ScriptFault.TheVariants.{Expected, Deep}
use Rattle.pg_script.specs.declared.mark.Mark.{Mark}
use Rattle.pg_script.specs.declared.mark.Mark.TheVariants.{Open, Close}
use Rattle.pg_script.specs.declared.span.Until.{Until}
use Rattle.pg_script.specs.Data.{Part}
use Rattle.pg_script.specs.Marks.{mark, place}
use Rattle.pg_script.specs.Lines.{Read, and_then, stops, may_end, more, length_step, length_until, part_of, some_part, past_part, closes_first, part_at}
use Rattle.pg_script.proofs.Alike.{Along, AtToken, AtEnd, Two, along_place, Leaves, Alike, past, wrong, kept, Local, moved, all_past}

-- ---- counts

abbrev pub Behind : (ScriptFault → Type 0) → ℕ → Read ℕ → Type 0
Behind P k (Ok n) = k ≤ n
Behind P k (Err e) = P e

-- The first count comes past the k tokens that the two share; or both have one fault in them; or both end within them.
pub data Counted (t : Two) (k : ℕ) (r s : Read ℕ) : Type 0 where
  behind : Behind t.Past k r → Counted t k r s
  fault : (e : ScriptFault) → r ≡ Err e → s ≡ Err e → t.Front e → Counted t k r s
  within : (n : ℕ) → n < k → r ≡ Ok n → s ≡ Ok n → Counted t k r s

pub lt_or_le : (a b : ℕ) → (a < b) ⊎ (b ≤ a)
lt_or_le a zero = inr (omega arith)
lt_or_le zero (suc b) = inl (omega arith)
lt_or_le (suc a) (suc b) = elim (lt_or_le a b) as (λ x. (suc a < suc b) ⊎ (suc b ≤ suc a)) [
  | inl h ↦ inl (omega (arith, h))
  | inr h ↦ inr (omega (arith, h))
]

-- of one list alone, whose places are all past
pub none-behind : (P : ScriptFault → Type 0) (end : ℕ) (ws : List Word) (a : Along P ws) (e : AtEnd P end) (k : ℕ) (r s : Read ℕ) → Counted (all_past P end ws a e) k r s → Behind P 0 r
none-behind P end ws a e k (Ok n) s h = omega arith
none-behind P end ws a e k (Err x) s (behind h) = h
none-behind P end ws a e k (Err x) s (fault y one two at) = let R : Read ℕ → Type 0 = Behind P 0 in subst R (sym one) at
none-behind P end ws a e k (Err x) s (within n lt one two) = let R : Read ℕ → Type 0 = Behind P 0 in subst R (sym one) (let h : 0 ≤ n = omega arith in h)

more-behind : (P : ScriptFault → Type 0) (d k : ℕ) (r : Read ℕ) → 0 < d → Behind P k r → Behind P (suc k) (more d r)
more-behind P d k (Ok n) some h = omega (arith, h, some)
more-behind P d k (Err e) some h = h

more-over : (t : Two) (d k n : ℕ) (r s : Read ℕ) → suc k ≤ d + n → r ≡ Ok n → Counted t (suc k) (more d r) s
more-over t d k n r s h is = behind (let R : Read ℕ → Type 0 = λ z. Behind t.Past (suc k) (more d z) in subst R (sym is) h)

pub counted_more : (t : Two) (d k : ℕ) (r s : Read ℕ) → 0 < d → Counted t k r s → Counted t (suc k) (more d r) (more d s)
counted_more t d k r s some (behind h) = behind (more-behind t.Past d k r some h)
counted_more t d k r s some (fault e one two at) = fault e (ap (more d) one) (ap (more d) two) at
counted_more t d k r s some (within n lt one two) = elim (lt_or_le (d + n) (suc k)) as (λ x. Counted t (suc k) (more d r) (more d s)) [
  | inl h ↦ within (d + n) h (ap (more d) one) (ap (more d) two)
  | inr h ↦ more-over t d k n r (more d s) h one
]

-- ---- a part

abbrev mark_step : Until → (base depth at : ℕ) → Mark → (same deeper outer : Read ℕ) → Read ℕ
mark_step u base depth at m same deeper outer = elim m [
  | Open ↦ if nat_le 100 depth then Err (Deep at) else more 1 deeper
  | Close ↦ if depth == base then Err (Expected at (past_part u)) else more 1 outer
  | _ ↦ more 1 same
]

counted-mark : (t : Two) (u : Until) (k base depth at : ℕ) (m : Mark) (same deeper outer same' deeper' outer' : Read ℕ) → AtToken t.Front at → Counted t k same same' → Counted t k deeper deeper' → Counted t k outer outer'
    → Counted t (suc k) (mark_step u base depth at m same deeper outer) (mark_step u base depth at m same' deeper' outer')
counted-mark t u k base depth at Open same deeper outer same' deeper' outer' here a b c =
    elim (nat_le 100 depth) as (λ x. Counted t (suc k) (if x then Err (Deep at) else more 1 deeper) (if x then Err (Deep at) else more 1 deeper')) [
      | true ↦ fault (Deep at) refl refl here.2
      | false ↦ counted_more t 1 k deeper deeper' (omega arith) b
    ]
counted-mark t u k base depth at Close same deeper outer same' deeper' outer' here a b c =
    elim (depth == base) as (λ x. Counted t (suc k) (if x then Err (Expected at (past_part u)) else more 1 outer) (if x then Err (Expected at (past_part u)) else more 1 outer')) [
      | true ↦ fault (Expected at (past_part u)) refl refl (here.0 (past_part u))
      | false ↦ counted_more t 1 k outer outer' (omega arith) c
    ]
counted-mark t u k base depth at m same deeper outer same' deeper' outer' here a b c = counted_more t 1 k same same' (omega arith) a

counted-step : (t : Two) (k : ℕ) (u : Until) (base depth at : ℕ) (m : Mark) (same deeper outer same' deeper' outer' : Read ℕ) → AtToken t.Front at → Counted t k same same' → Counted t k deeper deeper' → Counted t k outer outer'
    → Counted t (suc k) (length_step u base depth at m same deeper outer) (length_step u base depth at m same' deeper' outer')
counted-step t k u base depth at m same deeper outer same' deeper' outer' here a b c =
    elim ((depth == base) && stops u m) as (λ x. Counted t (suc k) (if x then Ok 0 else mark_step u base depth at m same deeper outer) (if x then Ok 0 else mark_step u base depth at m same' deeper' outer')) [
      | true ↦ within 0 (omega arith) refl refl
      | false ↦ counted-mark t u k base depth at m same deeper outer same' deeper' outer' here a b c
    ]

until-behind : (u : Until) (base depth : ℕ) (P : ScriptFault → Type 0) (end : ℕ) (ws : List Word) → Along P ws → AtEnd P end → Behind P 0 (length_until u end base depth ws)
until-behind u base depth P end [] a e = elim ((depth == base) && may_end u) as (λ x. Behind P 0 (if x then Ok 0 else Err (Expected end wanted.CloseParen))) [
  | true ↦ omega arith
  | false ↦ e _
]
until-behind u base depth P end (w ∷ ws) a e =
    none-behind P end ws a.1 e 1 (length_until u end base depth (w ∷ ws)) (length_until u end base depth (w ∷ ws))
    (counted-step (all_past P end ws a.1 e) 0 u base depth w.at (mark w)
    (length_until u end base depth ws) (length_until u end base (depth + 1) ws) (length_until u end base (depth - 1) ws)
    (length_until u end base depth ws) (length_until u end base (depth + 1) ws) (length_until u end base (depth - 1) ws) a.0
    (behind (until-behind u base depth P end ws a.1 e)) (behind (until-behind u base (depth + 1) P end ws a.1 e)) (behind (until-behind u base (depth - 1) P end ws a.1 e)))

pub until_counted : (u : Until) (base depth : ℕ) (t : Two) (front : List Word) → Along t.Front front
    → Counted t (length front) (length_until u t.end base depth (front ++ t.back)) (length_until u t.other_end base depth (front ++ t.other))
until_counted u base depth t [] along = behind (until-behind u base depth t.Past t.end t.back t.along t.stands)
until_counted u base depth t (w ∷ ws) along =
    counted-step t (length ws) u base depth w.at (mark w)
    (length_until u t.end base depth (ws ++ t.back)) (length_until u t.end base (depth + 1) (ws ++ t.back)) (length_until u t.end base (depth - 1) (ws ++ t.back))
    (length_until u t.other_end base depth (ws ++ t.other)) (length_until u t.other_end base (depth + 1) (ws ++ t.other)) (length_until u t.other_end base (depth - 1) (ws ++ t.other)) along.0
    (until_counted u base depth t ws along.1) (until_counted u base (depth + 1) t ws along.1) (until_counted u base (depth - 1) t ws along.1)

-- tokens that end within what is shared
pub record Cut (Front : ScriptFault → Type 0) (ws : List Word) (n : ℕ) : Type 0 where
  pub head : Word
  pub tail : List Word
  pub taken : (xs : List Word) → take n (ws ++ xs) ≡ take n ws
  pub left : (xs : List Word) → drop n (ws ++ xs) ≡ head ∷ tail ++ xs
  pub along : Along Front (head ∷ tail)
  pub along_taken : Along Front (take n ws)

pub cut : (Front : ScriptFault → Type 0) (ws : List Word) (n : ℕ) → n < length ws → Along Front ws → Cut Front ws n
cut Front [] n lt a = absurd (omega (arith, lt))
cut Front (w ∷ ws) zero lt a = record { head = w; tail = ws; taken = λ xs. refl; left = λ xs. refl; along = a; along_taken = tt }
cut Front (w ∷ ws) (suc n) lt a =
    let c = cut Front ws n (omega (arith, lt)) a.1 in
    record { head = c.head; tail = c.tail; taken = λ xs. ap (λ ys. w ∷ ys) (c.taken xs); left = c.left; along = c.along; along_taken = (a.0, c.along_taken) }

pub along_drop : (P : ScriptFault → Type 0) (front ws : List Word) (n : ℕ) → length front ≤ n → Along P ws → Along P (drop n (front ++ ws))
along_drop P [] ws zero le a = a
along_drop P [] [] (suc n) le a = tt
along_drop P [] (w ∷ ws) (suc n) le a = along_drop P [] ws n (omega arith) a.1
along_drop P (f ∷ fs) ws zero le a = absurd (omega (arith, le))
along_drop P (f ∷ fs) ws (suc n) le a = along_drop P fs ws n (omega (arith, le)) a

pub same-part : (end n : ℕ) (f : Word) (fs xs : List Word) (Front : ScriptFault → Type 0) (c : Cut Front fs n) → part_of end (suc n) (f ∷ fs ++ xs) ≡ record { tokens = f ∷ take n fs; end = c.head.at }
same-part end n f fs xs Front c =
    ap (λ ys. record { tokens = f ∷ ys; end = place end (drop n (fs ++ xs)) }) (c.taken xs) ∙ ap (λ ys. record { tokens = f ∷ take n fs; end = place end ys }) (c.left xs)

some-is : (what : Wanted) (end n : ℕ) (ws : List Word) → some_part what end (suc n) ws ≡ Ok (part_of end (suc n) ws, drop (suc n) ws)
some-is what end n ws = ap (λ c. if c then Err (Expected (place end ws) what) else Ok (part_of end (suc n) ws, drop (suc n) ws)) (eqb-suc-zero n)

cut-part : (what : Wanted) (end n : ℕ) (f : Word) (fs xs : List Word) (Front : ScriptFault → Type 0) (c : Cut Front fs n)
    → some_part what end (suc n) (f ∷ fs ++ xs) ≡ Ok ((let p : Part = record { tokens = f ∷ take n fs; end = c.head.at } in p), c.head ∷ c.tail ++ xs)
cut-part what end n f fs xs Front c =
    some-is what end n (f ∷ fs ++ xs)
    ∙ ap (λ (p : Part). Ok (p, drop n (fs ++ xs))) (same-part end n f fs xs Front c)
    ∙ ap (λ ys. Ok ((let p : Part = record { tokens = f ∷ take n fs; end = c.head.at } in p), ys)) (c.left xs)

part-within : (what : Wanted) (t : Two) (front : List Word) (n : ℕ) → Along t.Front front → n < length front → Alike t (some_part what t.end n (front ++ t.back)) (some_part what t.other_end n (front ++ t.other))
part-within what t [] n a lt = absurd (omega (arith, lt))
part-within what t (f ∷ fs) zero a lt = wrong (Expected f.at what) refl refl (a.0.0 what)
part-within what t (f ∷ fs) (suc n) a lt =
    let c = cut t.Front fs n (omega (arith, lt)) a.1 in
    kept (record { tokens = f ∷ take n fs; end = c.head.at }) c.head c.tail (cut-part what t.end n f fs t.back t.Front c) (cut-part what t.other_end n f fs t.other t.Front c) c.along

part-behind : (what : Wanted) (P : ScriptFault → Type 0) (end n : ℕ) (front ws : List Word) → Along P ws → AtEnd P end → length front ≤ n → Leaves P (some_part what end n (front ++ ws))
part-behind what P end zero [] ws a e le = along_place P end ws a e what
part-behind what P end zero (f ∷ fs) ws a e le = absurd (omega (arith, le))
part-behind what P end (suc n) front ws a e le =
    let R : Read (Part × List Word) → Type 0 = Leaves P in
    subst R (sym (some-is what end n (front ++ ws))) (along_drop P front ws (suc n) le a)

part-then : (what : Wanted) (P : ScriptFault → Type 0) (end : ℕ) (front ws : List Word) (r : Read ℕ) → Along P ws → AtEnd P end → Behind P (length front) r → Leaves P (and_then r (λ n. some_part what end n (front ++ ws)))
part-then what P end front ws (Ok n) a e h = part-behind what P end n front ws a e h
part-then what P end front ws (Err x) a e h = h

part-counted : (what : Wanted) (t : Two) (front : List Word) (r s : Read ℕ) → Along t.Front front → Counted t (length front) r s
    → Alike t (and_then r (λ n. some_part what t.end n (front ++ t.back))) (and_then s (λ n. some_part what t.other_end n (front ++ t.other)))
part-counted what t front r s a (behind h) = past (part-then what t.Past t.end front t.back r t.along t.stands h)
part-counted what t front r s a (fault e one two at) =
    wrong e (ap (λ z. and_then z (λ n. some_part what t.end n (front ++ t.back))) one) (ap (λ z. and_then z (λ n. some_part what t.other_end n (front ++ t.other))) two) at
part-counted what t front r s a (within n lt one two) =
    moved t _ _ _ _ (ap (λ z. and_then z (λ n. some_part what t.end n (front ++ t.back))) one) (ap (λ z. and_then z (λ n. some_part what t.other_end n (front ++ t.other))) two)
    (part-within what t front n a lt)

pub part_local : (what : Wanted) (u : Until) → Local (part_at what u)
part_local what u t [] a = past (elim (closes_first t.back) as (λ b. Leaves t.Past (if b then Err (Expected (place t.end t.back) what) else and_then (length_until u t.end 0 0 t.back) (λ n. some_part what t.end n t.back))) [
  | true ↦ along_place t.Past t.end t.back t.along t.stands what
  | false ↦ part-then what t.Past t.end [] t.back (length_until u t.end 0 0 t.back) t.along t.stands (until-behind u 0 0 t.Past t.end t.back t.along t.stands)
])
part_local what u t (f ∷ fs) a =
    elim (closes_first (f ∷ [])) as (λ b. Alike t
    (if b then Err (Expected f.at what) else and_then (length_until u t.end 0 0 (f ∷ fs ++ t.back)) (λ n. some_part what t.end n (f ∷ fs ++ t.back)))
    (if b then Err (Expected f.at what) else and_then (length_until u t.other_end 0 0 (f ∷ fs ++ t.other)) (λ n. some_part what t.other_end n (f ∷ fs ++ t.other)))) [
      | true ↦ wrong (Expected f.at what) refl refl (a.0.0 what)
      | false ↦ part-counted what t (f ∷ fs) (length_until u t.end 0 0 (f ∷ fs ++ t.back)) (length_until u t.other_end 0 0 (f ∷ fs ++ t.other)) a (until_counted u 0 0 t (f ∷ fs) a)
    ]
