-- Parts whose parentheses match are read, and what is read is such a part.
use Rattle.std.proofs.Common.{◌≡◌, ◌∙◌, ℕ, zero, suc, ◌+◌, ◌-◌, ◌<◌, ◌≤◌, Bool, true, false, ◌&&◌, List, [], ◌∷◌, ◌++◌, length, take, drop, refl, sym, ap, subst, arith, append_assoc, Ok, Err, if◌then◌else◌, IsTrue, IsFalse, ◌==◌, nat_le, leb-false, eq-eqb, eqb-true, length-append}
use Rattle.std.proofs.lemmas.Bool.{lt-leb, ne_eqb, and_parts}
use Rattle.std.proofs.lemmas.List.{take_at, drop_at}
use Rattle.pg_base.specs.declared.token.Wanted.{Wanted}
use Rattle.pg_base.specs.declared.token.Wanted.TheVariants as wanted
use Rattle.pg_base.specs.Tokens.{Word}
use Rattle.pg_script.specs.declared.fault.ScriptFault.TheVariants.{Expected, Deep}
use Rattle.pg_script.specs.declared.mark.Mark.{Mark}
use Rattle.pg_script.specs.declared.mark.Mark.TheVariants.{Open, Close}
use Rattle.pg_script.specs.declared.span.Until.{Until}
use Rattle.pg_script.specs.declared.span.Until.TheVariants as until
use Rattle.pg_script.specs.Data.{Part}
use Rattle.pg_script.specs.Marks.{mark, place}
use Rattle.pg_script.specs.Lines.{Read, and_then, stops, may_end, more, length_step, length_until, part_of, some_part, past_part, closes_first, part_at}
use Rattle.pg_script.specs.Forms.{is_open, is_close, Matches, no_token, a_token, nested, IsPiece, piece}
use Rattle.pg_script.proofs.Lists.{more_more, more_none}
use Rattle.pg_script.proofs.Found.{clash, and_then_ok, inj}

-- ---- tests

pub no_way : {A : Type 0} → true ≡ false → A
no_way e = cc

pub other_way : {A : Type 0} → false ≡ true → A
other_way e = cc

pub and_no : (b c : Bool) → IsFalse c → IsFalse (b && c)
and_no true c h = h
and_no false c h = refl

pub and_yes : (b c : Bool) → IsTrue b → IsTrue c → IsTrue (b && c)
and_yes true c h k = k
and_yes false c h k = other_way h

pub differ : (a b : ℕ) → b < a → IsFalse (a == b)
differ a b lt = ne_eqb a b (λ e. omega (arith, lt, e))

abbrev pub open_mark : Mark → Bool
open_mark m = elim m [ Open ↦ true | _ ↦ false ]

abbrev pub close_mark : Mark → Bool
close_mark m = elim m [ Close ↦ true | _ ↦ false ]

no-open : (u : Until) → IsFalse (stops u Open)
no-open until.Close = refl
no-open u = refl

only-close : (m : Mark) → IsFalse (close_mark m) → IsFalse (stops until.Close m)
only-close Close h = no_way h
only-close m h = refl

pub close-stops : (m : Mark) → IsTrue (stops until.Close m) → m ≡ Close
close-stops Close h = refl
close-stops m h = other_way h

-- ---- one token

abbrev mark_step : Until → (base depth at : ℕ) → Mark → (same deeper outer : Read ℕ) → Read ℕ
mark_step u base depth at m same deeper outer = elim m [
  | Open ↦ if nat_le 100 depth then Err (Deep at) else more 1 deeper
  | Close ↦ if depth == base then Err (Expected at (past_part u)) else more 1 outer
  | _ ↦ more 1 same
]

step-other : (u : Until) (base depth at : ℕ) (m : Mark) (same deeper outer : Read ℕ) → IsFalse (open_mark m) → IsFalse (close_mark m) → mark_step u base depth at m same deeper outer ≡ more 1 same
step-other u base depth at Open same deeper outer o c = no_way o
step-other u base depth at Close same deeper outer o c = no_way c
step-other u base depth at m same deeper outer o c = refl

step-on : (u : Until) (base depth at : ℕ) (m : Mark) (same deeper outer : Read ℕ) → IsFalse ((depth == base) && stops u m) → length_step u base depth at m same deeper outer ≡ mark_step u base depth at m same deeper outer
step-on u base depth at m same deeper outer h = ap (λ b. if b then Ok 0 else mark_step u base depth at m same deeper outer) h

opens : (u : Until) (end base depth : ℕ) (o : Word) (xs : List Word) → mark o ≡ Open → depth < 100 → length_until u end base depth (o ∷ xs) ≡ more 1 (length_until u end base (depth + 1) xs)
opens u end base depth o xs h lt =
    ap (λ m. length_step u base depth o.at m (length_until u end base depth xs) (length_until u end base (depth + 1) xs) (length_until u end base (depth - 1) xs)) h
    ∙ step-on u base depth o.at Open (length_until u end base depth xs) (length_until u end base (depth + 1) xs) (length_until u end base (depth - 1) xs) (and_no (depth == base) (stops u Open) (no-open u))
    ∙ ap (λ b. if b then Err (Deep o.at) else more 1 (length_until u end base (depth + 1) xs)) (lt-leb 100 depth lt)

closes : (u : Until) (end base depth : ℕ) (c : Word) (xs : List Word) → mark c ≡ Close → base ≤ depth → length_until u end base (depth + 1) (c ∷ xs) ≡ more 1 (length_until u end base depth xs)
closes u end base depth c xs h le =
    let no : IsFalse (depth + 1 == base) = differ (depth + 1) base (omega (arith, le)) in
    let back : depth + 1 - 1 ≡ depth = omega arith in
    ap (λ m. length_step u base (depth + 1) c.at m (length_until u end base (depth + 1) xs) (length_until u end base (depth + 1 + 1) xs) (length_until u end base (depth + 1 - 1) xs)) h
    ∙ step-on u base (depth + 1) c.at Close (length_until u end base (depth + 1) xs) (length_until u end base (depth + 1 + 1) xs) (length_until u end base (depth + 1 - 1) xs) (ap (λ b. b && stops u Close) no)
    ∙ ap (λ b. if b then Err (Expected c.at (past_part u)) else more 1 (length_until u end base (depth + 1 - 1) xs)) no
    ∙ ap (λ d. more 1 (length_until u end base d xs)) back

-- ---- what matches is counted

add : (a b n : ℕ) (r : Read ℕ) → a + b ≡ n → more a (more b r) ≡ more n r
add a b n r e = more_more a b r ∙ ap (λ k. more k r) e

-- outside of their own parentheses no token stops there
abbrev Stays : Until → Until → (depth base : ℕ) → Type 0
Stays inner outer depth base = (m : Mark) → IsFalse (close_mark m) → IsFalse (stops inner m) → IsFalse ((depth == base) && stops outer m)

deeper-stays : (u : Until) (depth base : ℕ) → base ≤ depth → Stays until.End u (depth + 1) base
deeper-stays u depth base le m c h = let no : IsFalse (depth + 1 == base) = differ (depth + 1) base (omega (arith, le)) in ap (λ b. b && stops u m) no

over : {inner : Until} {depth : ℕ} {ws : List Word} (u : Until) (end base : ℕ) (rest : List Word) → Matches inner depth ws → base ≤ depth → Stays inner u depth base
    → length_until u end base depth (ws ++ rest) ≡ more (length ws) (length_until u end base depth rest)
over u end base rest (no_token i depth) le stays = sym (more_none (length_until u end base depth rest))
over u end base rest (a_token i depth w ws not_o nc ns m) le stays =
    step-on u base depth w.at (mark w) (length_until u end base depth (ws ++ rest)) (length_until u end base (depth + 1) (ws ++ rest)) (length_until u end base (depth - 1) (ws ++ rest)) (stays (mark w) nc ns)
    ∙ step-other u base depth w.at (mark w) (length_until u end base depth (ws ++ rest)) (length_until u end base (depth + 1) (ws ++ rest)) (length_until u end base (depth - 1) (ws ++ rest)) not_o nc
    ∙ ap (more 1) (over u end base rest m le stays)
    ∙ add 1 (length ws) (suc (length ws)) (length_until u end base depth rest) (omega arith)
over u end base rest (nested i depth o c inner ws ho hc lt m k) le stays =
    opens u end base depth o ((inner ++ c ∷ ws) ++ rest) ho lt
    ∙ ap (λ t. more 1 (length_until u end base (depth + 1) t)) (append_assoc inner (c ∷ ws) rest)
    ∙ ap (more 1) (over u end base (c ∷ ws ++ rest) m (omega (arith, le)) (deeper-stays u depth base le))
    ∙ ap (λ r. more 1 (more (length inner) r)) (closes u end base depth c (ws ++ rest) hc le)
    ∙ ap (λ r. more 1 (more (length inner) (more 1 r))) (over u end base rest k le stays)
    ∙ ap (λ r. more 1 (more (length inner) r)) (add 1 (length ws) (suc (length ws)) (length_until u end base depth rest) (omega arith))
    ∙ ap (more 1) (add (length inner) (suc (length ws)) (length inner + suc (length ws)) (length_until u end base depth rest) refl)
    ∙ add 1 (length inner + suc (length ws)) (length (o ∷ inner ++ c ∷ ws)) (length_until u end base depth rest) (omega (arith, length-append inner (c ∷ ws)))

-- what follows a part
abbrev pub Ends : Until → List Word → Type 0
Ends u [] = IsTrue (may_end u)
Ends u (w ∷ ws) = IsTrue (stops u (mark w))

stop-here : (u : Until) (end base : ℕ) (rest : List Word) → Ends u rest → length_until u end base base rest ≡ Ok 0
stop-here u end base [] e = ap (λ b. if b then Ok 0 else Err (Expected end wanted.CloseParen)) (and_yes (base == base) (may_end u) (eq-eqb base base refl) e)
stop-here u end base (w ∷ ws) e =
    ap (λ b. if b then Ok 0 else mark_step u base base w.at (mark w) (length_until u end base base ws) (length_until u end base (base + 1) ws) (length_until u end base (base - 1) ws))
    (and_yes (base == base) (stops u (mark w)) (eq-eqb base base refl) e)

ends-count : (u i : Until) (end base : ℕ) (ws rest : List Word) → Matches i base ws → Stays i u base base → Ends u rest → length_until u end base base (ws ++ rest) ≡ Ok (length ws)
ends-count u i end base ws rest m stays e =
    let none : length ws + 0 ≡ length ws = omega arith in
    over u end base rest m (omega arith) stays ∙ ap (more (length ws)) (stop-here u end base rest e) ∙ ap Ok none

pub piece_count : (u : Until) (end : ℕ) (ws rest : List Word) → Matches u 0 ws → Ends u rest → length_until u end 0 0 (ws ++ rest) ≡ Ok (length ws)
piece_count u end ws rest m e = ends-count u u end 0 ws rest m (λ k c h. and_no (0 == 0) (stops u k) h) e

pub inside_count : (end base : ℕ) (ws rest : List Word) → Matches until.End base ws → Ends until.Close rest → length_until until.Close end base base (ws ++ rest) ≡ Ok (length ws)
inside_count end base ws rest m e = ends-count until.Close until.End end base ws rest m (λ k c h. and_no (base == base) (stops until.Close k) (only-close k c)) e

-- ---- what is counted matches

-- tokens that close so many parentheses more than they open
data Closes (u : Until) (base : ℕ) : (k : ℕ) → List Word → Type 0 where
  level : (ws : List Word) → Matches u base ws → Closes u base zero ws
  closing : (k : ℕ) (p : List Word) (c : Word) (ws : List Word) → Matches until.End (base + suc k) p → mark c ≡ Close → Closes u base k ws → Closes u base (suc k) (p ++ c ∷ ws)

front-token : {k : ℕ} {ws : List Word} (u : Until) (base : ℕ) (w : Word) → IsFalse (is_open w) → IsFalse (is_close w) → (k ≡ 0 → IsFalse (stops u (mark w))) → Closes u base k ws → Closes u base k (w ∷ ws)
front-token u base w not_o nc ns (level ws m) = level (w ∷ ws) (a_token u base w ws not_o nc (ns refl) m)
front-token u base w not_o nc ns (closing k p c ws m hc t) = closing k (w ∷ p) c ws (a_token until.End (base + suc k) w p not_o nc refl m) hc t

front-close : {k : ℕ} {ws : List Word} (u : Until) (base : ℕ) (c : Word) → mark c ≡ Close → Closes u base k ws → Closes u base (suc k) (c ∷ ws)
front-close {k = k} {ws = ws} u base c hc t = closing k [] c ws (no_token until.End (base + suc k)) hc t

enclose : {k : ℕ} {ws : List Word} (u : Until) (base : ℕ) (o c : Word) (p : List Word) → mark o ≡ Open → mark c ≡ Close → base + k < 100 → Matches until.End (base + suc k) p → Closes u base k ws → Closes u base k (o ∷ p ++ c ∷ ws)
enclose u base o c p ho hc lt m (level ws mm) = level (o ∷ p ++ c ∷ ws) (nested u base o c p ws ho hc (omega (arith, lt)) m mm)
enclose u base o c p ho hc lt m (closing k q d ws n hd t) =
    let e : base + suc (suc k) ≡ base + suc k + 1 = omega arith in
    let P : ℕ → Type 0 = λ i. Matches until.End i p in
    let Q : List Word → Type 0 = λ xs. Closes u base (suc k) (o ∷ xs) in
    subst Q (append_assoc p (c ∷ q) (d ∷ ws)) (closing k (o ∷ p ++ c ∷ q) d ws (nested until.End (base + suc k) o c p q ho hc lt (subst P e m) n) hd t)

front-open : {k : ℕ} {ws : List Word} (u : Until) (base : ℕ) (o : Word) → mark o ≡ Open → base + k < 100 → Closes u base (suc k) ws → Closes u base k (o ∷ ws)
front-open u base o ho lt (closing k p c ws m hc t) = enclose u base o c p ho hc lt m t

record Counts (u : Until) (base k : ℕ) (ws : List Word) (n : ℕ) : Type 0 where
  front : List Word
  rest : List Word
  whole : ws ≡ front ++ rest
  long : n ≡ length front
  inner : Closes u base k front
  ends : Ends u rest

more-ok : (d : ℕ) (r : Read ℕ) (n : ℕ) → more d r ≡ Ok n → (j : ℕ) × (r ≡ Ok j) × (n ≡ d + j)
more-ok d (Ok j) n h = (j, refl, sym (inj (d + j) n h))
more-ok d (Err e) n h = absurd (clash e n h)

longer : (u : Until) (base k i : ℕ) (w : Word) (ws : List Word) (j n : ℕ) (c : Counts u base i ws j) → n ≡ 1 + j → Closes u base k (w ∷ c.front) → Counts u base k (w ∷ ws) n
longer u base k i w ws j n c e x =
    record { front = w ∷ c.front; rest = c.rest; whole = ap (λ t. w ∷ t) c.whole; long = omega (arith, c.long, e); inner = x; ends = c.ends }

stopped : (u : Until) (base depth k : ℕ) (ws : List Word) (n : ℕ) → depth ≡ base + k → IsTrue (depth == base) → Ends u ws → 0 ≡ n → Counts u base k ws n
stopped u base depth k ws n at e ends none =
    let h : depth ≡ base = eqb-true depth base e in
    let z : 0 ≡ k = omega (arith, at, h) in
    let P : ℕ → Type 0 = λ i. Closes u base i [] in
    record { front = []; rest = ws; whole = refl; long = sym none; inner = subst P z (level [] (no_token u base)); ends = ends }

abbrev Counted : Until → (end base : ℕ) → List Word → Type 0
Counted u end base ws = (depth k n : ℕ) → depth ≡ base + k → length_until u end base depth ws ≡ Ok n → Counts u base k ws n

no-stop : (u : Until) (base depth k : ℕ) (m : Mark) → depth ≡ base + k → IsFalse ((depth == base) && stops u m) → k ≡ 0 → IsFalse (stops u m)
no-stop u base depth k m at h z =
    let same : depth ≡ base = omega (arith, at, z) in
    sym (ap (λ b. b && stops u m) (eq-eqb depth base same)) ∙ h

close-found : (u : Until) (end base depth k : ℕ) (w : Word) (ws : List Word) (n : ℕ) → Counted u end base ws → depth ≡ base + k → mark w ≡ Close → IsFalse (depth == base)
    → more 1 (length_until u end base (depth - 1) ws) ≡ Ok n → Counts u base k (w ∷ ws) n
close-found u end base depth zero w ws n rec at hm ne h = let same : depth ≡ base = omega (arith, at) in other_way (sym ne ∙ eq-eqb depth base same)
close-found u end base depth (suc k) w ws n rec at hm ne h =
    let m = more-ok 1 (length_until u end base (depth - 1) ws) n h in
    let c = rec (depth - 1) k m.0 (omega (arith, at)) m.1 in
    longer u base (suc k) k w ws m.0 n c m.2 (front-close u base w hm c.inner)

mark-found : (u : Until) (end base depth k : ℕ) (w : Word) (ws : List Word) (n : ℕ) (m : Mark) → Counted u end base ws → depth ≡ base + k → mark w ≡ m → IsFalse ((depth == base) && stops u (mark w))
    → mark_step u base depth w.at m (length_until u end base depth ws) (length_until u end base (depth + 1) ws) (length_until u end base (depth - 1) ws) ≡ Ok n → Counts u base k (w ∷ ws) n
mark-found u end base depth k w ws n Open rec at hm ns h =
    elim (nat_le 100 depth) as (λ b. nat_le 100 depth ≡ b → (if b then Err (Deep w.at) else more 1 (length_until u end base (depth + 1) ws)) ≡ Ok n → Counts u base k (w ∷ ws) n) [
      | true ↦ λ e g. absurd (clash (Deep w.at) n g)
      | false ↦ λ e g.
          let lt : depth < 100 = leb-false 100 depth e in
          let j = more-ok 1 (length_until u end base (depth + 1) ws) n g in
          let c = rec (depth + 1) (suc k) j.0 (omega (arith, at)) j.1 in
          longer u base k (suc k) w ws j.0 n c j.2 (front-open u base w hm (omega (arith, lt, at)) c.inner)
    ] refl h
mark-found u end base depth k w ws n Close rec at hm ns h =
    elim (depth == base) as (λ b. (depth == base) ≡ b → (if b then Err (Expected w.at (past_part u)) else more 1 (length_until u end base (depth - 1) ws)) ≡ Ok n → Counts u base k (w ∷ ws) n) [
      | true ↦ λ e g. absurd (clash (Expected w.at (past_part u)) n g)
      | false ↦ λ e g. close-found u end base depth k w ws n rec at hm e g
    ] refl h
mark-found u end base depth k w ws n m rec at hm ns h =
    let j = more-ok 1 (length_until u end base depth ws) n h in
    let c = rec depth k j.0 at j.1 in
    longer u base k k w ws j.0 n c j.2 (front-token u base w (ap open_mark hm) (ap close_mark hm) (no-stop u base depth k (mark w) at ns) c.inner)

counted : (u : Until) (end base depth k : ℕ) (ws : List Word) (n : ℕ) → depth ≡ base + k → length_until u end base depth ws ≡ Ok n → Counts u base k ws n
counted u end base depth k [] n at h =
    elim ((depth == base) && may_end u) as (λ b. ((depth == base) && may_end u) ≡ b → (if b then Ok 0 else Err (Expected end wanted.CloseParen)) ≡ Ok n → Counts u base k [] n) [
      | true ↦ λ e g. let both = and_parts (depth == base) (may_end u) e in stopped u base depth k [] n at both.0 both.1 (inj 0 n g)
      | false ↦ λ e g. absurd (clash (Expected end wanted.CloseParen) n g)
    ] refl h
counted u end base depth k (w ∷ ws) n at h =
    elim ((depth == base) && stops u (mark w)) as (λ b. ((depth == base) && stops u (mark w)) ≡ b
    → (if b then Ok 0 else mark_step u base depth w.at (mark w) (length_until u end base depth ws) (length_until u end base (depth + 1) ws) (length_until u end base (depth - 1) ws)) ≡ Ok n → Counts u base k (w ∷ ws) n) [
      | true ↦ λ e g. let both = and_parts (depth == base) (stops u (mark w)) e in stopped u base depth k (w ∷ ws) n at both.0 both.1 (inj 0 n g)
      | false ↦ λ e g. mark-found u end base depth k w ws n (mark w) (λ d i j. counted u end base d i ws j) at refl e g
    ] refl h

level-of : {u : Until} {base : ℕ} {ws : List Word} → Closes u base zero ws → Matches u base ws
level-of (level ws m) = m

pub record Counting (u : Until) (base : ℕ) (ws : List Word) (n : ℕ) : Type 0 where
  pub front : List Word
  pub rest : List Word
  pub whole : ws ≡ front ++ rest
  pub long : n ≡ length front
  pub inner : Matches u base front
  pub ends : Ends u rest

pub count_found : (u : Until) (end base : ℕ) (ws : List Word) (n : ℕ) → length_until u end base base ws ≡ Ok n → Counting u base ws n
count_found u end base ws n h =
    let c = counted u end base base 0 ws n (omega arith) h in record { front = c.front; rest = c.rest; whole = c.whole; long = c.long; inner = level-of c.inner; ends = c.ends }

-- ---- parts

some-read : (what : Wanted) (end : ℕ) (ws rest : List Word) → 0 < length ws → some_part what end (length ws) (ws ++ rest) ≡ Ok (piece end ws rest, rest)
some-read what end ws rest some =
    ap (λ b. if b then Err (Expected (place end (ws ++ rest)) what) else Ok (part_of end (length ws) (ws ++ rest), drop (length ws) (ws ++ rest))) (differ (length ws) 0 some)
    ∙ ap (λ d. Ok (piece end (take (length ws) (ws ++ rest)) d, d)) (drop_at ws rest (length ws) refl)
    ∙ ap (λ t. Ok (piece end t rest, rest)) (take_at ws rest (length ws) refl)

-- tokens whose parentheses match don't begin with a closing one
open-first : {u : Until} {depth : ℕ} {ws : List Word} → Matches u depth ws → (rest : List Word) → 0 < length ws → closes_first (ws ++ rest) ≡ false
open-first (no_token u depth) rest some = absurd (omega (arith, some))
open-first (a_token u depth w ws not_o not_c ns m) rest some = not_c
open-first (nested u depth o c inner ws ho hc lt m k) rest some = ap close_mark ho

pub part_read : (what : Wanted) (u : Until) (end : ℕ) (ws rest : List Word) → IsPiece u ws → Ends u rest → part_at what u end (ws ++ rest) ≡ Ok (piece end ws rest, rest)
part_read what u end ws rest p e =
    ap (λ b. if b then Err (Expected (place end (ws ++ rest)) what) else and_then (length_until u end 0 0 (ws ++ rest)) (λ n. some_part what end n (ws ++ rest))) (open-first p.1 rest p.0)
    ∙ ap (λ r. and_then r (λ n. some_part what end n (ws ++ rest))) (piece_count u end ws rest p.1 e)
    ∙ some-read what end ws rest p.0

pub record PartFound (u : Until) (end : ℕ) (ws : List Word) (p : Part × List Word) : Type 0 where
  pub front : List Word
  pub rest : List Word
  pub whole : ws ≡ front ++ rest
  pub inner : IsPiece u front
  pub ends : Ends u rest
  pub «is» : (piece end front rest, rest) ≡ p

some-found : (what : Wanted) (u : Until) (end : ℕ) (front rest : List Word) (p : Part × List Word) → Matches u 0 front → Ends u rest → some_part what end (length front) (front ++ rest) ≡ Ok p → PartFound u end (front ++ rest) p
some-found what u end [] rest p m e h = absurd (clash (Expected (place end rest) what) p h)
some-found what u end (f ∷ fs) rest p m e h =
    let some : 0 < length (f ∷ fs) = omega arith in
    record { front = f ∷ fs; rest = rest; whole = refl; inner = (some, m); ends = e; «is» = inj (piece end (f ∷ fs) rest, rest) p (sym (some-read what end (f ∷ fs) rest some) ∙ h) }

found-in : (what : Wanted) (u : Until) (end : ℕ) (ws : List Word) (p : Part × List Word) → and_then (length_until u end 0 0 ws) (λ n. some_part what end n ws) ≡ Ok p → PartFound u end ws p
found-in what u end ws p h =
    let n = and_then_ok (length_until u end 0 0 ws) (λ n. some_part what end n ws) p h in
    let c = count_found u end 0 ws n.0 n.1 in
    let P : List Word → Type 0 = λ t. PartFound u end t p in
    subst P (sym c.whole) (some-found what u end c.front c.rest p c.inner c.ends
    (sym (ap (λ k. some_part what end k ws) c.long ∙ ap (some_part what end (length c.front)) c.whole) ∙ n.2))

pub part_found : (what : Wanted) (u : Until) (end : ℕ) (ws : List Word) (p : Part × List Word) → part_at what u end ws ≡ Ok p → PartFound u end ws p
part_found what u end ws p h =
    elim (closes_first ws) as (λ b. (if b then Err (Expected (place end ws) what) else and_then (length_until u end 0 0 ws) (λ n. some_part what end n ws)) ≡ Ok p → PartFound u end ws p) [
      | true ↦ λ g. absurd (clash (Expected (place end ws) what) p g)
      | false ↦ λ g. found-in what u end ws p g
    ] h
