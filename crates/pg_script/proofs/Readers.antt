-- Expressions, names, rules and terms, in two lists that begin alike.
use Rattle.std.proofs.Common.{◌≡◌, ◌∙◌, ℕ, zero, suc, ◌+◌, ◌-◌, ◌≤◌, true, false, List, [], ◌∷◌, ◌++◌, length, take, refl, sym, ap, subst, arith, Ok, Err, if◌then◌else◌, ◌==◌, nat_le}
use Rattle.std.proofs.Math.Dec.{eqb-suc-zero}
use Rattle.pg_base.specs.declared.token.Wanted.TheVariants as wanted
use Rattle.pg_base.specs.Tokens.{Word}
use Rattle.pg_script.specs.declared.fault.ScriptFault.{ScriptFault}
use Rattle.pg_script.specs.declared.fault.ScriptFault.TheVariants.{Expected, Deep}
use Rattle.pg_script.specs.declared.mark.Mark.{Mark}
use Rattle.pg_script.specs.declared.mark.Mark.TheVariants.{Open, Close, Free, Number}
use Rattle.pg_script.specs.declared.span.Until.TheVariants as until
use Rattle.pg_script.specs.Data.{Part, Expression}
use Rattle.pg_script.specs.Marks.{mark}
use Rattle.pg_script.specs.Lines.{Read, and_then, with_first, more, length_until, part_of, arg_length, arg_step, args_from, with_name, after_close, closed, expr_at}
use Rattle.pg_script.proofs.Alike.{Along, AtToken, AtEnd, Two, Leaves, Alike, past, wrong, kept, Local, moved, ok_local, chain, leaves, all_past, at-one, by_token}
use Rattle.pg_script.proofs.Counts.{Behind, Counted, behind, fault, within, counted_more, until_counted, Cut, cut, same-part, none-behind}

pub map_alike : {V W : Type 0} (t : Two) (k : V → W) (r s : Read (V × List Word)) → Alike t r s → Alike t (and_then r (λ p. Ok (k p.0, p.1))) (and_then s (λ p. Ok (k p.0, p.1)))
map_alike t k r s a = chain t r s (λ p. Ok (k p.0, p.1)) (λ p. Ok (k p.0, p.1)) a (λ x ws h. h) (λ x fs h. ok_local (k x) t fs h)

-- ---- arguments

abbrev arg_mark : (end depth : ℕ) → Mark → (at : ℕ) → List Word → Read ℕ
arg_mark end depth m at ws = elim m [
  | Free ↦ Ok 1
  | Number ↦ Ok 1
  | Open ↦ if nat_le 100 depth then Err (Deep at) else more 2 (length_until until.Close end (depth + 1) (depth + 1) ws)
  | _ ↦ Ok 0
]

one-token : (t : Two) (fs : List Word) → Counted t (suc (length fs)) (Ok 1) (Ok 1)
one-token t [] = behind (omega arith)
one-token t (f ∷ fs) = within 1 (omega arith) refl refl

arg-counted : (depth : ℕ) (t : Two) (m : Mark) (at : ℕ) (fs : List Word) → AtToken t.Front at → Along t.Front fs → Counted t (suc (length fs)) (arg_mark t.end depth m at (fs ++ t.back)) (arg_mark t.other_end depth m at (fs ++ t.other))
arg-counted depth t Free at fs here a = one-token t fs
arg-counted depth t Number at fs here a = one-token t fs
arg-counted depth t Open at fs here a =
    elim (nat_le 100 depth) as (λ x. Counted t (suc (length fs)) (if x then Err (Deep at) else more 2 (length_until until.Close t.end (depth + 1) (depth + 1) (fs ++ t.back)))
    (if x then Err (Deep at) else more 2 (length_until until.Close t.other_end (depth + 1) (depth + 1) (fs ++ t.other)))) [
      | true ↦ fault (Deep at) refl refl here.2
      | false ↦ counted_more t 2 (length fs) (length_until until.Close t.end (depth + 1) (depth + 1) (fs ++ t.back)) (length_until until.Close t.other_end (depth + 1) (depth + 1) (fs ++ t.other)) (omega arith)
          (until_counted until.Close (depth + 1) (depth + 1) t fs a)
    ]
arg-counted depth t m at fs here a = within 0 (omega arith) refl refl

arg-behind : (depth : ℕ) (P : ScriptFault → Type 0) (end : ℕ) (ws : List Word) → Along P ws → AtEnd P end → Behind P 0 (arg_length end depth ws)
arg-behind depth P end [] a e = omega arith
arg-behind depth P end (w ∷ ws) a e =
    none-behind P end ws a.1 e 1 (arg_length end depth (w ∷ ws)) (arg_length end depth (w ∷ ws)) (arg-counted depth (all_past P end ws a.1 e) (mark w) w.at [] a.0 tt)

with_first-is : {V : Type 0} (x : V) (r : Read (List V × List Word)) → with_first x r ≡ and_then r (λ p. Ok (x ∷ p.0, p.1))
with_first-is x (Ok p) = refl
with_first-is x (Err e) = refl

first-leaves : {V : Type 0} (P : ScriptFault → Type 0) (x : V) (r : Read (List V × List Word)) → Leaves P r → Leaves P (with_first x r)
first-leaves P x (Ok p) h = h
first-leaves P x (Err e) h = h

pub first_alike : {V : Type 0} (t : Two) (x : V) (r s : Read (List V × List Word)) → Alike t r s → Alike t (with_first x r) (with_first x s)
first_alike t x r s a = moved t _ _ _ _ (with_first-is x r) (with_first-is x s) (map_alike t (λ xs. x ∷ xs) r s a)

step-leaves : (P : ScriptFault → Type 0) (end : ℕ) (w : Word) (ws : List Word) (more : ℕ → Read (List Part × List Word)) (r : Read ℕ) → Along P (w ∷ ws) → Behind P 0 r → ((n : ℕ) → Leaves P (more n)) → Leaves P (arg_step end (w ∷ ws) more r)
step-leaves P end w ws more (Err x) a h rec = h
step-leaves P end w ws more (Ok n) a h rec = elim (n == 0) as (λ c. Leaves P (if c then Ok ([], w ∷ ws) else with_first (part_of end n (w ∷ ws)) (more n))) [
  | true ↦ a
  | false ↦ first-leaves P (part_of end n (w ∷ ws)) (more n) (rec n)
]

args-leaves : (depth skip : ℕ) (P : ScriptFault → Type 0) (end : ℕ) (ws : List Word) → Along P ws → AtEnd P end → Leaves P (args_from end depth skip ws)
args-leaves depth skip P end [] a e = tt
args-leaves depth (suc skip) P end (w ∷ ws) a e = args-leaves depth skip P end ws a.1 e
args-leaves depth zero P end (w ∷ ws) a e =
    step-leaves P end w ws (λ n. args_from end depth (n - 1) ws) (arg_length end depth (w ∷ ws)) a (arg-behind depth P end (w ∷ ws) a e) (λ n. args-leaves depth (n - 1) P end ws a.1 e)

args-over : (depth skip : ℕ) (t : Two) (front : List Word) → length front ≤ skip → Leaves t.Past (args_from t.end depth skip (front ++ t.back))
args-over depth skip t [] le = args-leaves depth skip t.Past t.end t.back t.along t.stands
args-over depth zero t (f ∷ fs) le = absurd (omega (arith, le))
args-over depth (suc skip) t (f ∷ fs) le = args-over depth skip t fs (omega (arith, le))

arg-some : (end n : ℕ) (ws : List Word) (more : ℕ → Read (List Part × List Word)) → arg_step end ws more (Ok (suc n)) ≡ with_first (part_of end (suc n) ws) (more (suc n))
arg-some end n ws more = ap (λ c. if c then Ok ([], ws) else with_first (part_of end (suc n) ws) (more (suc n))) (eqb-suc-zero n)

less-one : (n : ℕ) → suc n - 1 ≡ n
less-one n = omega arith

over-step : (depth : ℕ) (t : Two) (f : Word) (fs : List Word) (r : Read ℕ) → Behind t.Past (suc (length fs)) r → Leaves t.Past (arg_step t.end (f ∷ fs ++ t.back) (λ n. args_from t.end depth (n - 1) (fs ++ t.back)) r)
over-step depth t f fs (Err x) h = h
over-step depth t f fs (Ok zero) h = absurd (omega (arith, h))
over-step depth t f fs (Ok (suc n)) h =
    let R : Read (List Part × List Word) → Type 0 = Leaves t.Past in
    subst R (sym (arg-some t.end n (f ∷ fs ++ t.back) (λ n. args_from t.end depth (n - 1) (fs ++ t.back))))
    (first-leaves t.Past (part_of t.end (suc n) (f ∷ fs ++ t.back)) (args_from t.end depth (suc n - 1) (fs ++ t.back)) (args-over depth (suc n - 1) t fs (omega (arith, h))))

within-is : (depth : ℕ) (end n : ℕ) (f : Word) (fs xs : List Word) (Front : ScriptFault → Type 0) (c : Cut Front fs n)
    → arg_step end (f ∷ fs ++ xs) (λ k. args_from end depth (k - 1) (fs ++ xs)) (Ok (suc n)) ≡ with_first (record { tokens = f ∷ take n fs; end = c.head.at }) (args_from end depth n (fs ++ xs))
within-is depth end n f fs xs Front c =
    arg-some end n (f ∷ fs ++ xs) (λ k. args_from end depth (k - 1) (fs ++ xs))
    ∙ ap (λ (p : Part). with_first p (args_from end depth (suc n - 1) (fs ++ xs))) (same-part end n f fs xs Front c)
    ∙ ap (λ k. with_first (record { tokens = f ∷ take n fs; end = c.head.at }) (args_from end depth k (fs ++ xs))) (less-one n)

args-step : (depth : ℕ) (t : Two) (f : Word) (fs : List Word) (r s : Read ℕ) → Along t.Front (f ∷ fs) → ((skip : ℕ) → Alike t (args_from t.end depth skip (fs ++ t.back)) (args_from t.other_end depth skip (fs ++ t.other))) → Counted t (suc (length fs)) r s
    → Alike t (arg_step t.end (f ∷ fs ++ t.back) (λ n. args_from t.end depth (n - 1) (fs ++ t.back)) r) (arg_step t.other_end (f ∷ fs ++ t.other) (λ n. args_from t.other_end depth (n - 1) (fs ++ t.other)) s)
args-step depth t f fs r s a rec (behind h) = past (over-step depth t f fs r h)
args-step depth t f fs r s a rec (fault e one two at) =
    wrong e (ap (arg_step t.end (f ∷ fs ++ t.back) (λ n. args_from t.end depth (n - 1) (fs ++ t.back))) one) (ap (arg_step t.other_end (f ∷ fs ++ t.other) (λ n. args_from t.other_end depth (n - 1) (fs ++ t.other))) two) at
args-step depth t f fs r s a rec (within zero lt one two) =
    kept [] f fs (ap (arg_step t.end (f ∷ fs ++ t.back) (λ n. args_from t.end depth (n - 1) (fs ++ t.back))) one) (ap (arg_step t.other_end (f ∷ fs ++ t.other) (λ n. args_from t.other_end depth (n - 1) (fs ++ t.other))) two) a
args-step depth t f fs r s a rec (within (suc n) lt one two) =
    let c = cut t.Front fs n (omega (arith, lt)) a.1 in
    moved t _ _ _ _
    (ap (arg_step t.end (f ∷ fs ++ t.back) (λ n. args_from t.end depth (n - 1) (fs ++ t.back))) one ∙ within-is depth t.end n f fs t.back t.Front c)
    (ap (arg_step t.other_end (f ∷ fs ++ t.other) (λ n. args_from t.other_end depth (n - 1) (fs ++ t.other))) two ∙ within-is depth t.other_end n f fs t.other t.Front c)
    (first_alike t (record { tokens = f ∷ take n fs; end = c.head.at }) (args_from t.end depth n (fs ++ t.back)) (args_from t.other_end depth n (fs ++ t.other)) (rec n))

args-alike : (depth skip : ℕ) (t : Two) (front : List Word) → Along t.Front front → Alike t (args_from t.end depth skip (front ++ t.back)) (args_from t.other_end depth skip (front ++ t.other))
args-alike depth skip t [] a = past (args-leaves depth skip t.Past t.end t.back t.along t.stands)
args-alike depth (suc skip) t (f ∷ fs) a = args-alike depth skip t fs a.1
args-alike depth zero t (f ∷ fs) a =
    args-step depth t f fs (arg_mark t.end depth (mark f) f.at (fs ++ t.back)) (arg_mark t.other_end depth (mark f) f.at (fs ++ t.other)) a (λ skip. args-alike depth skip t fs a.1) (arg-counted depth t (mark f) f.at fs a.0 a.1)

pub args_local : (depth : ℕ) → Local (λ end ws. args_from end depth 0 ws)
args_local depth t front a = args-alike depth 0 t front a

-- ---- one token

abbrev close_mark : ℕ → Mark → List Word → Read (List Word)
close_mark at m ws = elim m [ Close ↦ Ok ws | _ ↦ Err (Expected at wanted.CloseParen) ]

close-begins : {V : Type 0} (x : V) (t : Two) (at : ℕ) (m : Mark) (fs : List Word) → AtToken t.Front at → Along t.Front fs
    → Alike t (and_then (close_mark at m (fs ++ t.back)) (λ rest. Ok (x, rest))) (and_then (close_mark at m (fs ++ t.other)) (λ rest. Ok (x, rest)))
close-begins x t at Close fs here a = ok_local x t fs a
close-begins x t at m fs here a = wrong (Expected at wanted.CloseParen) refl refl (here.0 wanted.CloseParen)

pub close_local : {V : Type 0} (x : V) → Local (λ end ws. and_then (after_close end ws) (λ rest. Ok (x, rest)))
close_local x = by_token (λ end ws. and_then (after_close end ws) (λ rest. Ok (x, rest))) (λ P end e. e _) (λ t w fs here a. close-begins x t w.at (mark w) fs here a)

-- ---- expressions

closed-is : (end : ℕ) (r : Read (Expression × List Word)) → closed end r ≡ and_then r (λ p. and_then (after_close end p.1) (λ rest. Ok (p.0, rest)))
closed-is end (Ok p) = refl
closed-is end (Err e) = refl

closed-alike : (t : Two) (r s : Read (Expression × List Word)) → Alike t r s → Alike t (closed t.end r) (closed t.other_end s)
closed-alike t r s a =
    moved t _ _ _ _ (closed-is t.end r) (closed-is t.other_end s)
    (chain t r s (λ p. and_then (after_close t.end p.1) (λ rest. Ok (p.0, rest))) (λ p. and_then (after_close t.other_end p.1) (λ rest. Ok (p.0, rest))) a
    (λ x ws h. leaves (λ end zs. and_then (after_close end zs) (λ rest. Ok (x, rest))) (close_local x) t.Past t.end ws h t.stands) (λ x fs h. close_local x t fs h))

with_name-is : (w : Word) (r : Read (List Part × List Word)) → with_name w r ≡ and_then r (λ p. Ok ((let e : Expression = record { name = w; args = p.0 } in e), p.1))
with_name-is w (Ok p) = refl
with_name-is w (Err e) = refl

abbrev expr_mark : (end depth : ℕ) → Word → Mark → List Word → Read (Expression × List Word) → Read (Expression × List Word)
expr_mark end depth w m ws inner = elim m [
  | Free ↦ with_name w (args_from end depth 0 ws)
  | Open ↦ if nat_le 100 depth then Err (Deep w.at) else closed end inner
  | _ ↦ Err (Expected w.at wanted.Expression)
]

expr-begins : (depth : ℕ) (t : Two) (w : Word) (m : Mark) (fs : List Word) (r s : Read (Expression × List Word)) → AtToken t.Front w.at → Along t.Front fs → Alike t r s
    → Alike t (expr_mark t.end depth w m (fs ++ t.back) r) (expr_mark t.other_end depth w m (fs ++ t.other) s)
expr-begins depth t w Free fs r s here a h =
    moved t _ _ _ _ (with_name-is w (args_from t.end depth 0 (fs ++ t.back))) (with_name-is w (args_from t.other_end depth 0 (fs ++ t.other)))
    (map_alike t (λ xs. record { name = w; args = xs }) (args_from t.end depth 0 (fs ++ t.back)) (args_from t.other_end depth 0 (fs ++ t.other)) (args_local depth t fs a))
expr-begins depth t w Open fs r s here a h = elim (nat_le 100 depth) as (λ x. Alike t (if x then Err (Deep w.at) else closed t.end r) (if x then Err (Deep w.at) else closed t.other_end s)) [
  | true ↦ wrong (Deep w.at) refl refl here.2
  | false ↦ closed-alike t r s h
]
expr-begins depth t w m fs r s here a h = wrong (Expected w.at wanted.Expression) refl refl (here.0 wanted.Expression)

expr-leaves : (depth : ℕ) (P : ScriptFault → Type 0) (end : ℕ) (ws : List Word) → Along P ws → AtEnd P end → Leaves P (expr_at end depth ws)
expr-leaves depth P end [] a e = e _
expr-leaves depth P end (w ∷ ws) a e =
    at-one P end ws a.1 e (expr_at end depth (w ∷ ws)) (expr_at end depth (w ∷ ws))
    (expr-begins depth (all_past P end ws a.1 e) w (mark w) [] (expr_at end (depth + 1) ws) (expr_at end (depth + 1) ws) a.0 tt (past (expr-leaves (depth + 1) P end ws a.1 e)))

expr-alike : (depth : ℕ) (t : Two) (front : List Word) → Along t.Front front → Alike t (expr_at t.end depth (front ++ t.back)) (expr_at t.other_end depth (front ++ t.other))
expr-alike depth t [] a = past (expr-leaves depth t.Past t.end t.back t.along t.stands)
expr-alike depth t (w ∷ ws) a = expr-begins depth t w (mark w) ws (expr_at t.end (depth + 1) (ws ++ t.back)) (expr_at t.other_end (depth + 1) (ws ++ t.other)) a.0 a.1 (expr-alike (depth + 1) t ws a.1)

pub expr_local : (depth : ℕ) → Local (λ end ws. expr_at end depth ws)
expr_local depth t front a = expr-alike depth t front a
