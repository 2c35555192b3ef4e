-- Expressions are read, and what is read is an expression.
use Rattle.std.proofs.Common.{◌≡◌, ◌∙◌, ℕ, zero, suc, ◌+◌, ◌-◌, ◌<◌, Bool, true, false, List, [], ◌∷◌, ◌++◌, length, take, drop, refl, sym, ap, subst, arith, append_assoc, append-nil, length-append, take-append-drop, Ok, Err, if◌then◌else◌, IsFalse, nat_le, leb-false}
use Rattle.std.proofs.Math.Dec.{eqb-suc-zero}
use Rattle.std.proofs.Math.Seq.{drop-nil}
use Rattle.std.proofs.lemmas.Bool.{lt-leb}
use Rattle.std.proofs.lemmas.List.{take_at, drop_at}
use Rattle.pg_base.specs.declared.token.Wanted.TheVariants as wanted
use Rattle.pg_base.specs.Tokens.{Word}
use Rattle.pg_script.specs.declared.fault.ScriptFault.TheVariants.{Expected, Deep}
use Rattle.pg_script.specs.declared.mark.Mark.{Mark}
use Rattle.pg_script.specs.declared.mark.Mark.TheVariants.{Open, Close, Free, Number}
use Rattle.pg_script.specs.declared.span.Until.{Until}
use Rattle.pg_script.specs.declared.span.Until.TheVariants as until
use Rattle.pg_script.specs.Data.{Part, Expression}
use Rattle.pg_script.specs.Marks.{mark}
use Rattle.pg_script.specs.Lines.{Read, and_then, with_first, stops, more, length_until, part_of, arg_length, arg_step, args_from, with_name, after_close, closed, expr_at, ended, exact_at}
use Rattle.pg_script.specs.Forms.{Matches, no_token, a_token, nested, piece, IsArgument, a_name, a_number, between, AreArguments, no_argument, argument, IsExpression, applied, enclosed}
use Rattle.pg_script.proofs.Found.{clash, and_then_ok, inj}
use Rattle.pg_script.proofs.Pieces.{no_way, other_way, close-stops, Ends, inside_count, count_found}

-- ---- arguments

abbrev begins_mark : Mark → Bool
begins_mark m = elim m [ Free ↦ true | Number ↦ true | Open ↦ true | _ ↦ false ]

-- no argument begins here
abbrev pub BeginsNone : List Word → Type 0
BeginsNone [] = Unit {0}
BeginsNone (w ∷ ws) = IsFalse (begins_mark (mark w))

pub none_begins : (w : Word) (ws : List Word) (m : Mark) → mark w ≡ m → IsFalse (begins_mark m) → BeginsNone (w ∷ ws)
none_begins w ws m h b = ap begins_mark h ∙ b

abbrev arg_mark : (end depth : ℕ) → Mark → (at : ℕ) → List Word → Read ℕ
arg_mark end depth m at ws = elim m [
  | Free ↦ Ok 1
  | Number ↦ Ok 1
  | Open ↦ if nat_le 100 depth then Err (Deep at) else more 2 (length_until until.Close end (depth + 1) (depth + 1) ws)
  | _ ↦ Ok 0
]

none-mark : (end depth at : ℕ) (m : Mark) (ws : List Word) → IsFalse (begins_mark m) → arg_mark end depth m at ws ≡ Ok 0
none-mark end depth at Free ws h = no_way h
none-mark end depth at Number ws h = no_way h
none-mark end depth at Open ws h = no_way h
none-mark end depth at m ws h = refl

arg-read : {depth : ℕ} {ws : List Word} (end : ℕ) (rest : List Word) → IsArgument depth ws → arg_length end depth (ws ++ rest) ≡ Ok (length ws)
arg-read {depth = depth} end rest (a_name w h) = ap (λ m. arg_mark end depth m w.at rest) h
arg-read {depth = depth} end rest (a_number w h) = ap (λ m. arg_mark end depth m w.at rest) h
arg-read {depth = depth} end rest (between o c ws ho hc lt m) =
    let count : 2 + length ws ≡ length (o ∷ ws ++ c ∷ []) = omega (arith, length-append ws (c ∷ [])) in
    let stop : Ends until.Close (c ∷ rest) = ap (λ k. stops until.Close k) hc in
    ap (λ k. arg_mark end depth k o.at ((ws ++ c ∷ []) ++ rest)) ho
    ∙ ap (λ b. if b then Err (Deep o.at) else more 2 (length_until until.Close end (depth + 1) (depth + 1) ((ws ++ c ∷ []) ++ rest))) (lt-leb 100 depth lt)
    ∙ ap (λ t. more 2 (length_until until.Close end (depth + 1) (depth + 1) t)) (append_assoc ws (c ∷ []) rest)
    ∙ ap (more 2) (inside_count end (depth + 1) ws (c ∷ rest) m stop)
    ∙ ap Ok count

arg-some : (end n : ℕ) (ws : List Word) (more : ℕ → Read (List Part × List Word)) → arg_step end ws more (Ok (suc n)) ≡ with_first (part_of end (suc n) ws) (more (suc n))
arg-some end n ws more = ap (λ c. if c then Ok ([], ws) else with_first (part_of end (suc n) ws) (more (suc n))) (eqb-suc-zero n)

less-one : (n : ℕ) → suc n - 1 ≡ n
less-one n = omega arith

skipped : (end depth : ℕ) (ws rest : List Word) → args_from end depth (length ws) (ws ++ rest) ≡ args_from end depth 0 rest
skipped end depth [] rest = refl
skipped end depth (w ∷ ws) rest = skipped end depth ws rest

none-read : (end depth : ℕ) (next : List Word) → BeginsNone next → args_from end depth 0 next ≡ Ok ([], next)
none-read end depth [] h = refl
none-read end depth (w ∷ ws) h = ap (arg_step end (w ∷ ws) (λ n. args_from end depth (n - 1) ws)) (none-mark end depth w.at (mark w) ws h)

first-read : (end depth : ℕ) (w : Word) (xs rest : List Word) → arg_length end depth (w ∷ xs ++ rest) ≡ Ok (suc (length xs)) → args_from end depth 0 (w ∷ xs ++ rest) ≡ with_first (piece end (w ∷ xs) rest) (args_from end depth 0 rest)
first-read end depth w xs rest h =
    ap (arg_step end (w ∷ xs ++ rest) (λ n. args_from end depth (n - 1) (xs ++ rest))) h
    ∙ arg-some end (length xs) (w ∷ xs ++ rest) (λ n. args_from end depth (n - 1) (xs ++ rest))
    ∙ ap (λ k. with_first (part_of end (suc (length xs)) (w ∷ xs ++ rest)) (args_from end depth k (xs ++ rest))) (less-one (length xs))
    ∙ ap (with_first (part_of end (suc (length xs)) (w ∷ xs ++ rest))) (skipped end depth xs rest)
    ∙ ap (λ d. with_first (piece end (w ∷ take (length xs) (xs ++ rest)) d) (args_from end depth 0 rest)) (drop_at xs rest (length xs) refl)
    ∙ ap (λ t. with_first (piece end (w ∷ t) rest) (args_from end depth 0 rest)) (take_at xs rest (length xs) refl)

one-read : {depth : ℕ} {ws : List Word} (end : ℕ) (rest : List Word) → IsArgument depth ws → args_from end depth 0 (ws ++ rest) ≡ with_first (piece end ws rest) (args_from end depth 0 rest)
one-read {depth = depth} end rest (a_name w h) = first-read end depth w [] rest (arg-read end rest (a_name w h))
one-read {depth = depth} end rest (a_number w h) = first-read end depth w [] rest (arg-read end rest (a_number w h))
one-read {depth = depth} end rest (between o c ws ho hc lt m) = first-read end depth o (ws ++ c ∷ []) rest (arg-read end rest (between o c ws ho hc lt m))

args-read : {end depth : ℕ} {ws next : List Word} {ps : List Part} → AreArguments end depth ws next ps → BeginsNone next → args_from end depth 0 (ws ++ next) ≡ Ok (ps, next)
args-read {end = end} {depth = depth} (no_argument next) b = none-read end depth next b
args-read {end = end} {depth = depth} (argument ws vs next ps a k) b =
    ap (args_from end depth 0) (append_assoc ws vs next) ∙ one-read end (vs ++ next) a ∙ ap (with_first (piece end ws (vs ++ next))) (args-read k b)

-- ---- expressions

abbrev expr_mark : (end depth : ℕ) → Word → Mark → List Word → Read (Expression × List Word) → Read (Expression × List Word)
expr_mark end depth w m ws inner = elim m [
  | Free ↦ with_name w (args_from end depth 0 ws)
  | Open ↦ if nat_le 100 depth then Err (Deep w.at) else closed end inner
  | _ ↦ Err (Expected w.at wanted.Expression)
]

abbrev close_read : ℕ → Mark → List Word → Read (List Word)
close_read at m ws = elim m [ Close ↦ Ok ws | _ ↦ Err (Expected at wanted.CloseParen) ]

pub expr_read : {end depth : ℕ} {ws next : List Word} {e : Expression} → IsExpression end depth ws next e → BeginsNone next → expr_at end depth (ws ++ next) ≡ Ok (e, next)
expr_read {end = end} (applied depth w ws next args h a) b =
    ap (λ m. expr_mark end depth w m (ws ++ next) (expr_at end (depth + 1) (ws ++ next))) h ∙ ap (with_name w) (args-read a b)
expr_read {end = end} (enclosed depth o c ws next e ho hc lt i) b =
    ap (λ m. expr_mark end depth o m ((ws ++ c ∷ []) ++ next) (expr_at end (depth + 1) ((ws ++ c ∷ []) ++ next))) ho
    ∙ ap (λ z. if z then Err (Deep o.at) else closed end (expr_at end (depth + 1) ((ws ++ c ∷ []) ++ next))) (lt-leb 100 depth lt)
    ∙ ap (λ t. closed end (expr_at end (depth + 1) t)) (append_assoc ws (c ∷ []) next)
    ∙ ap (closed end) (expr_read i (none_begins c next Close hc refl))
    ∙ ap (λ m. and_then (close_read c.at m next) (λ behind. Ok (e, behind))) hc

-- ---- what is read

more-is : (d : ℕ) (r : Read ℕ) (n : ℕ) → more d r ≡ Ok n → (j : ℕ) × (r ≡ Ok j) × (n ≡ d + j)
more-is d (Ok j) n h = (j, refl, sym (inj (d + j) n h))
more-is d (Err e) n h = absurd (clash e n h)

inside-end : {u : Until} {depth : ℕ} {ws : List Word} → Matches u depth ws → Matches until.End depth ws
inside-end (no_token u depth) = no_token until.End depth
inside-end (a_token u depth w ws not_o nc ns m) = a_token until.End depth w ws not_o nc refl (inside-end m)
inside-end (nested u depth o c inner ws ho hc lt m k) = nested until.End depth o c inner ws ho hc lt m (inside-end k)

inside-rest : (depth : ℕ) (o : Word) (ws front rest : List Word) (j n : ℕ) → mark o ≡ Open → depth < 100 → n ≡ 1 + j → ws ≡ front ++ rest → j ≡ length front → Matches until.Close (depth + 1) front → Ends until.Close rest
    → IsArgument depth (o ∷ take n ws)
inside-rest depth o ws front [] j n ho lt e whole long m ends = other_way ends
inside-rest depth o ws front (c ∷ cs) j n ho lt e whole long m ends =
    let count : length (front ++ c ∷ []) ≡ n = omega (arith, e, long, length-append front (c ∷ [])) in
    let taken : front ++ c ∷ [] ≡ take n ws = sym (ap (take n) (whole ∙ sym (append_assoc front (c ∷ []) cs)) ∙ take_at (front ++ c ∷ []) cs n count) in
    let P : List Word → Type 0 = λ t. IsArgument depth (o ∷ t) in
    subst P taken (between o c front ho (close-stops (mark c) ends) lt (inside-end m))

inside-found : (end depth : ℕ) (o : Word) (ws : List Word) (j n : ℕ) → mark o ≡ Open → depth < 100 → length_until until.Close end (depth + 1) (depth + 1) ws ≡ Ok j → n ≡ 1 + j → IsArgument depth (o ∷ take n ws)
inside-found end depth o ws j n ho lt h e =
    let c = count_found until.Close end (depth + 1) ws j h in inside-rest depth o ws c.front c.rest j n ho lt e c.whole c.long c.inner c.ends

arg-found : (end depth : ℕ) (w : Word) (ws : List Word) (n : ℕ) (m : Mark) → mark w ≡ m → arg_mark end depth m w.at ws ≡ Ok (suc n) → IsArgument depth (w ∷ take n ws)
arg-found end depth w ws n Free hm h =
    let z : 0 ≡ n = omega (arith, inj 1 (suc n) h) in
    let P : ℕ → Type 0 = λ i. IsArgument depth (w ∷ take i ws) in subst P z (a_name w hm)
arg-found end depth w ws n Number hm h =
    let z : 0 ≡ n = omega (arith, inj 1 (suc n) h) in
    let P : ℕ → Type 0 = λ i. IsArgument depth (w ∷ take i ws) in subst P z (a_number w hm)
arg-found end depth w ws n Open hm h =
    elim (nat_le 100 depth) as (λ b. nat_le 100 depth ≡ b → (if b then Err (Deep w.at) else more 2 (length_until until.Close end (depth + 1) (depth + 1) ws)) ≡ Ok (suc n) → IsArgument depth (w ∷ take n ws)) [
      | true ↦ λ e g. absurd (clash (Deep w.at) (suc n) g)
      | false ↦ λ e g.
          let j = more-is 2 (length_until until.Close end (depth + 1) (depth + 1) ws) (suc n) g in
          inside-found end depth w ws j.0 n hm (leb-false 100 depth e) j.1 (omega (arith, j.2))
    ] refl h
arg-found end depth w ws n m hm h = absurd (omega (arith, inj 0 (suc n) h))

abbrev ArgumentsIn : (end depth skip : ℕ) → List Word → List Part × List Word → Type 0
ArgumentsIn end depth skip ws p = (front : List Word) × (drop skip ws ≡ front ++ p.1) × AreArguments end depth front p.1 p.0

first-ok : {V : Type 0} (x : V) (r : Read (List V × List Word)) (p : List V × List Word) → with_first x r ≡ Ok p → (q : List V × List Word) × (r ≡ Ok q) × ((x ∷ q.0, q.1) ≡ p)
first-ok x (Ok q) p h = (q, refl, inj (x ∷ q.0, q.1) p h)
first-ok x (Err e) p h = absurd (clash e p h)

none-found : (end depth : ℕ) (ws : List Word) → ArgumentsIn end depth 0 ws ([], ws)
none-found end depth ws = ([], refl, no_argument ws)

more-found : (end depth n : ℕ) (w : Word) (ws : List Word) (q : List Part × List Word) → IsArgument depth (w ∷ take n ws) → ArgumentsIn end depth n ws q → ArgumentsIn end depth 0 (w ∷ ws) (part_of end (suc n) (w ∷ ws) ∷ q.0, q.1)
more-found end depth n w ws q a i =
    let P : List Word → Type 0 = λ d. AreArguments end depth ((w ∷ take n ws) ++ i.0) q.1 (piece end (w ∷ take n ws) d ∷ q.0) in (
      w ∷ take n ws ++ i.0,
      ap (λ t. w ∷ t) (sym (take-append-drop n ws) ∙ ap (λ d. take n ws ++ d) i.1 ∙ sym (append_assoc (take n ws) i.0 q.1)),
      subst P (sym i.1) (argument (w ∷ take n ws) i.0 q.1 q.0 a i.2),
    )

step-found : (end depth : ℕ) (w : Word) (ws : List Word) (p : List Part × List Word) (r : Read ℕ) → ((n : ℕ) → r ≡ Ok (suc n) → IsArgument depth (w ∷ take n ws))
    → ((n : ℕ) (q : List Part × List Word) → args_from end depth n ws ≡ Ok q → ArgumentsIn end depth n ws q) → arg_step end (w ∷ ws) (λ n. args_from end depth (n - 1) ws) r ≡ Ok p → ArgumentsIn end depth 0 (w ∷ ws) p
step-found end depth w ws p (Err e) one rec h = absurd (clash e p h)
step-found end depth w ws p (Ok zero) one rec h =
    let P : List Part × List Word → Type 0 = ArgumentsIn end depth 0 (w ∷ ws) in subst P (inj ([], w ∷ ws) p h) (none-found end depth (w ∷ ws))
step-found end depth w ws p (Ok (suc n)) one rec h =
    let f = first-ok (part_of end (suc n) (w ∷ ws)) (args_from end depth (suc n - 1) ws) p (sym (arg-some end n (w ∷ ws) (λ k. args_from end depth (k - 1) ws)) ∙ h) in
    let P : List Part × List Word → Type 0 = ArgumentsIn end depth 0 (w ∷ ws) in
    subst P f.2 (more-found end depth n w ws f.0 (one n refl) (rec n f.0 (sym (ap (λ k. args_from end depth k ws) (less-one n)) ∙ f.1)))

args-found : (end depth skip : ℕ) (ws : List Word) (p : List Part × List Word) → args_from end depth skip ws ≡ Ok p → ArgumentsIn end depth skip ws p
args-found end depth skip [] p h =
    let P : List Part × List Word → Type 0 = ArgumentsIn end depth skip [] in subst P (inj ([], []) p h) ([], drop-nil skip, no_argument [])
args-found end depth (suc skip) (w ∷ ws) p h = args-found end depth skip ws p h
args-found end depth zero (w ∷ ws) p h =
    step-found end depth w ws p (arg_length end depth (w ∷ ws)) (λ n e. arg-found end depth w ws n (mark w) refl e) (λ n q e. args-found end depth n ws q e) h

abbrev pub ExpressionIn : (end depth : ℕ) → List Word → Expression × List Word → Type 0
ExpressionIn end depth ws p = (front : List Word) × (ws ≡ front ++ p.1) × IsExpression end depth front p.1 p.0

name-ok : (w : Word) (r : Read (List Part × List Word)) (p : Expression × List Word) → with_name w r ≡ Ok p
    → (q : List Part × List Word) × (r ≡ Ok q) × (((let e : Expression = record { name = w; args = q.0 } in e), q.1) ≡ p)
name-ok w (Ok q) p h = (q, refl, inj ((let e : Expression = record { name = w; args = q.0 } in e), q.1) p h)
name-ok w (Err e) p h = absurd (clash e p h)

close-ok : (c : Word) (cs : List Word) (rest : List Word) (m : Mark) → mark c ≡ m → close_read c.at m cs ≡ Ok rest → (mark c ≡ Close) × (cs ≡ rest)
close-ok c cs rest Close hm h = (hm, inj cs rest h)
close-ok c cs rest m hm h = absurd (clash (Expected c.at wanted.CloseParen) rest h)

pub after_close_ok : (end : ℕ) (ws rest : List Word) → after_close end ws ≡ Ok rest → (c : Word) × (mark c ≡ Close) × (ws ≡ c ∷ rest)
after_close_ok end [] rest h = absurd (clash (Expected end wanted.CloseParen) rest h)
after_close_ok end (c ∷ cs) rest h = let k = close-ok c cs rest (mark c) refl h in (c, k.0, ap (λ t. c ∷ t) k.1)

closed-ok : (end : ℕ) (r : Read (Expression × List Word)) (p : Expression × List Word) → closed end r ≡ Ok p
    → (q : Expression × List Word) × (r ≡ Ok q) × (c : Word) × (mark c ≡ Close) × (q.1 ≡ c ∷ p.1) × (q.0 ≡ p.0)
closed-ok end (Ok q) p h =
    let a = and_then_ok (after_close end q.1) (λ behind. Ok (q.0, behind)) p h in
    let k = after_close_ok end q.1 a.0 a.1 in
    let e : (q.0, a.0) ≡ p = inj (q.0, a.0) p a.2 in
    (q, refl, k.0, k.1, k.2 ∙ ap (λ x. k.0 ∷ x.1) e, ap (λ x. x.0) e)
closed-ok end (Err e) p h = absurd (clash e p h)

close-found : (end depth : ℕ) (o : Word) (ws : List Word) (q p : Expression × List Word) (c : Word) → mark o ≡ Open → depth < 100 → mark c ≡ Close → q.1 ≡ c ∷ p.1 → q.0 ≡ p.0 → ExpressionIn end (depth + 1) ws q
    → ExpressionIn end depth (o ∷ ws) p
close-found end depth o ws q p c ho lt hc rest e i =
    let P : List Word → Type 0 = λ t. IsExpression end (depth + 1) i.0 t q.0 in
    let Q : Expression → Type 0 = λ x. IsExpression end (depth + 1) i.0 (c ∷ p.1) x in (
      o ∷ i.0 ++ c ∷ [],
      ap (λ t. o ∷ t) (i.1 ∙ ap (λ t. i.0 ++ t) rest ∙ sym (append_assoc i.0 (c ∷ []) p.1)),
      enclosed depth o c i.0 p.1 p.0 ho hc lt (subst Q e (subst P rest i.2)),
    )

mark-found : (end depth : ℕ) (w : Word) (ws : List Word) (p : Expression × List Word) (m : Mark) → mark w ≡ m → ((q : Expression × List Word) → expr_at end (depth + 1) ws ≡ Ok q → ExpressionIn end (depth + 1) ws q)
    → expr_mark end depth w m ws (expr_at end (depth + 1) ws) ≡ Ok p → ExpressionIn end depth (w ∷ ws) p
mark-found end depth w ws p Free hm rec h =
    let n = name-ok w (args_from end depth 0 ws) p h in
    let a = args-found end depth 0 ws n.0 n.1 in
    let P : Expression × List Word → Type 0 = ExpressionIn end depth (w ∷ ws) in
    subst P n.2 (w ∷ a.0, ap (λ t. w ∷ t) a.1, applied depth w a.0 n.0.1 n.0.0 hm a.2)
mark-found end depth w ws p Open hm rec h =
    elim (nat_le 100 depth) as (λ b. nat_le 100 depth ≡ b → (if b then Err (Deep w.at) else closed end (expr_at end (depth + 1) ws)) ≡ Ok p → ExpressionIn end depth (w ∷ ws) p) [
      | true ↦ λ e g. absurd (clash (Deep w.at) p g)
      | false ↦ λ e g.
          let k = closed-ok end (expr_at end (depth + 1) ws) p g in
          close-found end depth w ws k.0 p k.2 hm (leb-false 100 depth e) k.3 k.4 k.5 (rec k.0 k.1)
    ] refl h
mark-found end depth w ws p m hm rec h = absurd (clash (Expected w.at wanted.Expression) p h)

pub expr_found : (end depth : ℕ) (ws : List Word) (p : Expression × List Word) → expr_at end depth ws ≡ Ok p → ExpressionIn end depth ws p
expr_found end depth [] p h = absurd (clash (Expected end wanted.Expression) p h)
expr_found end depth (w ∷ ws) p h = mark-found end depth w ws p (mark w) refl (λ q e. expr_found end (depth + 1) ws q e) h

-- ---- an expression and nothing behind it

pub ended_ok : {V : Type 0} (x y : V) (rest : List Word) → ended x rest ≡ Ok y → (rest ≡ []) × (x ≡ y)
ended_ok x y [] h = (refl, inj x y h)
ended_ok x y (w ∷ ws) h = absurd (clash (Expected w.at wanted.EndOfItem) y h)

pub exact_read : (end : ℕ) (ws : List Word) (e : Expression) → IsExpression end 0 ws [] e → exact_at end ws ≡ Ok e
exact_read end ws e i = ap (λ r. and_then r (λ p. ended p.0 p.1)) (ap (expr_at end 0) (sym (append-nil ws)) ∙ expr_read i tt)

pub exact_found : (end : ℕ) (ws : List Word) (e : Expression) → exact_at end ws ≡ Ok e → IsExpression end 0 ws [] e
exact_found end ws e h =
    let m = and_then_ok (expr_at end 0 ws) (λ p. ended p.0 p.1) e h in
    let i = expr_found end 0 ws m.0 m.1 in
    let k = ended_ok m.0.0 e m.0.1 m.2 in
    let whole : i.0 ≡ ws = sym (i.1 ∙ ap (λ t. i.0 ++ t) k.0 ∙ append-nil i.0) in
    let P : List Word → Type 0 = λ t. IsExpression end 0 i.0 t m.0.0 in
    let Q : Expression → Type 0 = λ x. IsExpression end 0 i.0 [] x in
    let R : List Word → Type 0 = λ t. IsExpression end 0 t [] e in
    subst R whole (subst Q k.1 (subst P k.0 i.2))
