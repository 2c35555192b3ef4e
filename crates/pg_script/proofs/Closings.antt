-- Parts, arguments and expressions that are begun can be finished.
use Rattle.std.proofs.Common.{◌≡◌, ◌∙◌, ℕ, zero, suc, ◌+◌, ◌-◌, ◌≤◌, Bool, true, false, ◌&&◌, List, [], ◌∷◌, ◌++◌, length, drop, refl, sym, ap, subst, arith, append_assoc, append-nil, length-append, Ok, Err, if◌then◌else◌, IsTrue, ◌==◌, nat_le, ◌⊎◌, inl, inr}
use Rattle.std.specs.Prelude.{codes}
use Rattle.std.proofs.lemmas.Bool.Decides.{nat_tests}
use Rattle.std.proofs.lemmas.List.{drop_at}
use Rattle.std.proofs.Math.Dec.{eqb-suc-zero}
use Rattle.pg_base.specs.declared.token.Sign.{Sign}
use Rattle.pg_base.specs.declared.token.Sign.TheVariants as sign
use Rattle.pg_base.specs.declared.token.TokenKind.TheVariants as token
use Rattle.pg_base.specs.declared.token.Wanted.{Wanted}
use Rattle.pg_base.specs.declared.token.Wanted.TheVariants as wanted
use Rattle.pg_base.specs.Tokens.{Word}
use Rattle.pg_script.specs.declared.fault.ScriptFault.TheVariants.{Expected, Deep}
use Rattle.pg_script.specs.declared.mark.Mark.{Mark}
use Rattle.pg_script.specs.declared.mark.Mark.TheVariants.{Open, Close, Free, Number}
use Rattle.pg_script.specs.declared.span.Until.{Until}
use Rattle.pg_script.specs.declared.span.Until.TheVariants as until
use Rattle.pg_script.specs.Data.{Part, Expression}
use Rattle.pg_script.specs.Marks.{mark, place}
use Rattle.pg_script.specs.Lines.{Read, and_then, with_first, stops, may_end, more, length_until, part_of, some_part, past_part, closes_first, part_at, arg_step, args_from, with_name, after_close, closed, expr_at}
use Rattle.pg_script.proofs.Standing.{At, Stands, stands_map, stands_behind, Inline, inline_append, Reader, Fit, Takes, Reaches, IsSome, Whatever, PieceAnswer, Piece, HeadPiece, piece_head, same_piece_answer, chained, Leads, lead_by}
use Rattle.pg_script.proofs.Found.{clash, inj}

-- ---- tokens to go on with

abbrev pub sign_word : Sign → Word
sign_word s = record { kind = token.Sign s; text = []; at = 0; column = 0; first = false }

abbrev pub name_word : List ℕ → Word
name_word text = record { kind = token.Name; text = text; at = 0; column = 0; first = false }

abbrev pub some_name : Word
some_name = name_word (codes "x")

abbrev pub close_word : Word
close_word = sign_word sign.CloseParen

-- so many closing parentheses
abbrev pub closers : ℕ → List Word
closers zero = []
closers (suc k) = close_word ∷ closers k

closers-inline : (k : ℕ) → Inline (closers k)
closers-inline zero = tt
closers-inline (suc k) = (refl, refl, closers-inline k)

-- ---- a part

-- what ends a part of this kind
abbrev pub Stop : Until → List Word → Type 0
Stop u [] = IsTrue (may_end u)
Stop u (w ∷ ws) = IsTrue (stops u (mark w))

pub stop_head : (u : Until) (rest tail : List Word) → Stop u rest → Fit (Stop u) rest tail → Stop u tail
stop_head u rest tail s (inl h) = h
stop_head u [] [] s (inr h) = s
stop_head u [] (w ∷ ws) s (inr h) = absurd h
stop_head u (v ∷ vs) [] s (inr h) = absurd h
stop_head u (v ∷ vs) (w ∷ ws) s (inr h) = let P : Word → Type 0 = λ z. IsTrue (stops u (mark z)) in subst P h s

and-left : (a b : Bool) → (a && b) ≡ true → a ≡ true
and-left true b h = refl
and-left false b h = h

and-right : (a b : Bool) → (a && b) ≡ true → b ≡ true
and-right true b h = h
and-right false b h = let x : false ≡ true = h in cc

and-true : (a b : Bool) → a ≡ true → b ≡ true → (a && b) ≡ true
and-true true true h k = refl
and-true false b h k = h
and-true true false h k = k

same-number : (a : ℕ) → (a == a) ≡ true
same-number a = grind (arith, nat_tests)

number-apart : (a b : ℕ) → (a == b) ≡ false → b ≤ a → suc b ≤ a
number-apart a b h le = grind (arith, nat_tests, h, le)

number-more : (a k : ℕ) → ((a + suc k) == a) ≡ false
number-more a k = grind (arith, nat_tests)

abbrev close-mark : Mark → Bool
close-mark m = elim m [ Close ↦ true | _ ↦ false ]

zero-ok : (n : ℕ) → (let r : Read ℕ = Ok 0 in r) ≡ Ok (suc n) → ⊥
zero-ok n h = cc

abbrev mark-step : Until → (base depth at : ℕ) → Mark → (same deeper outer : Read ℕ) → Read ℕ
mark-step u base depth at m same deeper outer = elim m [
  | Open ↦ if nat_le 100 depth then Err (Deep at) else more 1 deeper
  | Close ↦ if depth == base then Err (Expected at (past_part u)) else more 1 outer
  | _ ↦ more 1 same
]

stop-read : (u : Until) (end base depth : ℕ) (tail : List Word) → (depth == base) ≡ true → Stop u tail → length_until u end base depth tail ≡ Ok 0
stop-read u end base depth [] e s = ap (λ c. if c then Ok 0 else Err (Expected end wanted.CloseParen)) (and-true (depth == base) (may_end u) e s)
stop-read u end base depth (w ∷ ws) e s =
    ap (λ c. if c then Ok 0 else mark-step u base depth w.at (mark w) (length_until u end base depth ws) (length_until u end base (depth + 1) ws) (length_until u end base (depth - 1) ws)) (and-true (depth == base) (stops u (mark w)) e s)

close-read : (u : Until) (end base k : ℕ) (tail : List Word) → Stop u tail → length_until u end base (base + k) (closers k ++ tail) ≡ Ok k
close-read u end base zero tail s = stop-read u end base (base + 0) tail (let e : base + 0 ≡ base = omega arith in ap (λ z. z == base) e ∙ same-number base) s
close-read u end base (suc k) tail s =
    let d = number-more base k in
    let e : base + suc k - 1 ≡ base + k = omega arith in
    let r = closers k ++ tail in
    ap (λ c. if c && stops u Close then Ok 0 else (if (base + suc k) == base then Err (Expected 0 (past_part u)) else more 1 (length_until u end base (base + suc k - 1) r))) d
    ∙ ap (λ c. if c then Err (Expected 0 (past_part u)) else more 1 (length_until u end base (base + suc k - 1) r)) d
    ∙ ap (λ n. more 1 (length_until u end base n r)) e
    ∙ ap (more 1) (close-read u end base k tail s)
    ∙ (let f : 1 + k ≡ suc k = omega arith in ap (λ n. Ok n) f)

-- these tokens can be gone on with, so that the count ends behind them
abbrev pub Closes : Until → (base depth : ℕ) → List Word → Type 0
Closes u base depth fr = (more : List Word) × Inline more × ((end : ℕ) (tail : List Word) → Stop u tail → length_until u end base depth ((fr ++ more) ++ tail) ≡ Ok (length (fr ++ more)))

abbrev pub LengthAnswer : Until → (base depth end : ℕ) → List Word → Read ℕ → Type 0
LengthAnswer u base depth end ws (Ok n) =
    (used rest : List Word) × (ws ≡ used ++ rest) × Stop u rest × (n ≡ length used) × ((end : ℕ) (tail : List Word) → Stop u tail → length_until u end base depth (used ++ tail) ≡ Ok (length used))
LengthAnswer u base depth end ws (Err e) = Stands (Closes u base depth) end ws e

-- the same behind the first token
abbrev HeadCloses : Until → (ℕ → List Word → Read ℕ) → List Word → Type 0
HeadCloses u f fr = (more : List Word) × Inline more × ((end : ℕ) (tail : List Word) → Stop u tail → f end ((fr ++ more) ++ tail) ≡ Ok (suc (length (fr ++ more))))

abbrev HeadLength : Until → (ℕ → List Word → Read ℕ) → (at end : ℕ) → List Word → Read ℕ → Type 0
HeadLength u f at end ws (Ok n) =
    (used rest : List Word) × (ws ≡ used ++ rest) × Stop u rest × (n ≡ suc (length used)) × ((end : ℕ) (tail : List Word) → Stop u tail → f end (used ++ tail) ≡ Ok (suc (length used)))
HeadLength u f at end ws (Err e) = At at e ⊎ Stands (HeadCloses u f) end ws e

one-more : (r : Read ℕ) (n : ℕ) → r ≡ Ok n → more 1 r ≡ Ok (suc n)
one-more r n is = ap (more 1) is ∙ (let f : 1 + n ≡ suc n = omega arith in ap (λ k. Ok k) f)

head-more : (u : Until) (base depth at end : ℕ) (ws : List Word) (r : Read ℕ) → LengthAnswer u base depth end ws r → HeadLength u (λ end ws. more 1 (length_until u end base depth ws)) at end ws (more 1 r)
head-more u base depth at end ws (Ok n) h =
    (h.0, h.1, h.2, h.3, omega (arith, h.4), λ e tail s. one-more (length_until u e base depth (h.0 ++ tail)) (length h.0) (h.5 e tail s))
head-more u base depth at end ws (Err e) h =
    inr (stands_map (Closes u base depth) (HeadCloses u (λ end ws. more 1 (length_until u end base depth ws))) end ws e
    (λ fr c. (c.0, c.1, λ n tail s. one-more (length_until u n base depth ((fr ++ c.0) ++ tail)) (length (fr ++ c.0)) (c.2 n tail s))) h)

abbrev LengthAt : Until → (base : ℕ) → (depth end : ℕ) → List Word → Type 0
LengthAt u base depth end ws = LengthAnswer u base depth end ws (length_until u end base depth ws)

head-mark : (u : Until) (base depth at end : ℕ) (m : Mark) (ws : List Word) → base ≤ depth → ((d : ℕ) → base ≤ d → LengthAt u base d end ws)
    → HeadLength u (λ n xs. mark-step u base depth at m (length_until u n base depth xs) (length_until u n base (depth + 1) xs) (length_until u n base (depth - 1) xs)) at end ws
    (mark-step u base depth at m (length_until u end base depth ws) (length_until u end base (depth + 1) ws) (length_until u end base (depth - 1) ws))
head-mark u base depth at end Open ws le rec =
    elim (nat_le 100 depth) as (λ c. HeadLength u (λ n xs. if c then Err (Deep at) else more 1 (length_until u n base (depth + 1) xs)) at end ws (if c then Err (Deep at) else more 1 (length_until u end base (depth + 1) ws))) [
      | true ↦ inl refl
      | false ↦ head-more u base (depth + 1) at end ws (length_until u end base (depth + 1) ws) (rec (depth + 1) (omega (arith, le)))
    ]
head-mark u base depth at end Close ws le rec =
    elim (depth == base) as (λ c. (depth == base) ≡ c
    → HeadLength u (λ n xs. if c then Err (Expected at (past_part u)) else more 1 (length_until u n base (depth - 1) xs)) at end ws (if c then Err (Expected at (past_part u)) else more 1 (length_until u end base (depth - 1) ws))) [
      | true ↦ λ e. inl refl
      | false ↦ λ e. head-more u base (depth - 1) at end ws (length_until u end base (depth - 1) ws) (rec (depth - 1) (omega (arith, number-apart depth base e le)))
    ] refl
head-mark u base depth at end m ws le rec = head-more u base depth at end ws (length_until u end base depth ws) (rec depth le)

closers-length : (k : ℕ) → length (closers k) ≡ k
closers-length zero = refl
closers-length (suc k) = ap suc (closers-length k)

missing-closes : (u : Until) (base depth : ℕ) → base ≤ depth → Closes u base depth []
missing-closes u base depth le =
    let e : base + (depth - base) ≡ depth = omega (arith, le) in (
      closers (depth - base),
      closers-inline (depth - base),
      λ n tail s. ap (λ d. length_until u n base d (closers (depth - base) ++ tail)) (sym e) ∙ close-read u n base (depth - base) tail s ∙ ap (λ k. Ok k) (sym (closers-length (depth - base))),
    )

by-length-head : (u : Until) (base depth end : ℕ) (w : Word) (ws : List Word) (r : Read ℕ) → base ≤ depth → HeadLength u (λ n xs. length_until u n base depth (w ∷ xs)) w.at end ws r → LengthAnswer u base depth end (w ∷ ws) r
by-length-head u base depth end w ws (Ok n) le h = (w ∷ h.0, h.1, ap (λ t. w ∷ t) h.2, h.3, h.4, h.5)
by-length-head u base depth end w ws (Err e) le (inl h) = inl (h, missing-closes u base depth le)
by-length-head u base depth end w ws (Err e) le (inr h) = inr h

pub until_answer : (u : Until) (base depth end : ℕ) (ws : List Word) → base ≤ depth → LengthAnswer u base depth end ws (length_until u end base depth ws)
until_answer u base depth end [] le =
    elim ((depth == base) && may_end u) as (λ c. ((depth == base) && may_end u) ≡ c → LengthAnswer u base depth end [] (if c then Ok 0 else Err (Expected end wanted.CloseParen))) [
      | true ↦ λ e. ([], [], refl, and-right (depth == base) (may_end u) e, refl, λ n tail s. stop-read u n base depth tail (and-left (depth == base) (may_end u) e) s)
      | false ↦ λ e. (refl, missing-closes u base depth le)
    ] refl
until_answer u base depth end (w ∷ ws) le =
    elim ((depth == base) && stops u (mark w)) as (λ c. ((depth == base) && stops u (mark w)) ≡ c
    → LengthAnswer u base depth end (w ∷ ws) (if c then Ok 0 else mark-step u base depth w.at (mark w) (length_until u end base depth ws) (length_until u end base (depth + 1) ws) (length_until u end base (depth - 1) ws))) [
      | true ↦ λ e. ([], w ∷ ws, refl, and-right (depth == base) (stops u (mark w)) e, refl, λ n tail s. stop-read u n base depth tail (and-left (depth == base) (stops u (mark w)) e) s)
      | false ↦ λ e.
          let P : Bool → Type 0 = λ c. HeadLength u (λ n xs. if c then Ok 0 else mark-step u base depth w.at (mark w) (length_until u n base depth xs) (length_until u n base (depth + 1) xs) (length_until u n base (depth - 1) xs)) w.at end ws
          (mark-step u base depth w.at (mark w) (length_until u end base depth ws) (length_until u end base (depth + 1) ws) (length_until u end base (depth - 1) ws)) in
          by-length-head u base depth end w ws (mark-step u base depth w.at (mark w) (length_until u end base depth ws) (length_until u end base (depth + 1) ws) (length_until u end base (depth - 1) ws)) le
          (subst P (sym e) (head-mark u base depth w.at end (mark w) ws le (λ d h. until_answer u base d end ws h)))
    ] refl

-- ---- a part of a move

some-part : (what : Wanted) (end : ℕ) (v : Word) (vs tail : List Word) → some_part what end (suc (length vs)) ((v ∷ vs) ++ tail) ≡ Ok ((let p : Part = part_of end (suc (length vs)) (v ∷ vs ++ tail) in p), tail)
some-part what end v vs tail =
    ap (λ c. if c then Err (Expected (place end (v ∷ vs ++ tail)) what) else Ok (part_of end (suc (length vs)) (v ∷ vs ++ tail), drop (suc (length vs)) (v ∷ vs ++ tail))) (eqb-suc-zero (length vs))
    ∙ ap (λ z. Ok (part_of end (suc (length vs)) (v ∷ vs ++ tail), z)) (drop_at (v ∷ vs) tail (suc (length vs)) refl)

abbrev pub part_reader : Wanted → Until → Reader (Part × List Word)
part_reader what u room end ws = part_at what u end ws

-- a part that has a token doesn't begin with a closing parenthesis
open-mark : (u : Until) (at : ℕ) (m : Mark) (same deeper outer : Read ℕ) (n : ℕ) → (if stops u m then Ok 0 else mark-step u 0 0 at m same deeper outer) ≡ Ok (suc n) → close-mark m ≡ false
open-mark until.Close at Close same deeper outer n h = absurd (zero-ok n h)
open-mark until.Comma at Close same deeper outer n h = absurd (clash (Expected at wanted.CommaOrEnd) (suc n) h)
open-mark until.Assign at Close same deeper outer n h = absurd (clash (Expected at wanted.AssignOrEnd) (suc n) h)
open-mark until.End at Close same deeper outer n h = absurd (clash (Expected at wanted.EndOfItem) (suc n) h)
open-mark u at m same deeper outer n h = refl

open-first : (u : Until) (end : ℕ) (w : Word) (ws : List Word) (n : ℕ) → length_until u end 0 0 (w ∷ ws) ≡ Ok (suc n) → closes_first (w ∷ ws) ≡ false
open-first u end w ws n h = open-mark u w.at (mark w) (length_until u end 0 0 ws) (length_until u end 0 1 ws) (length_until u end 0 0 ws) n h

part-takes : (what : Wanted) (u : Until) (end : ℕ) (v : Word) (vs tail : List Word) → length_until u end 0 0 ((v ∷ vs) ++ tail) ≡ Ok (suc (length vs)) → Takes (part_reader what u) (λ x. Unit {0}) end (v ∷ vs) tail
part-takes what u end v vs tail is = (
  0,
  part_of end (suc (length vs)) (v ∷ vs ++ tail),
  tt,
  λ room le.
      ap (λ b. if b then Err (Expected v.at what) else and_then (length_until u end 0 0 (v ∷ vs ++ tail)) (λ n. some_part what end n (v ∷ vs ++ tail))) (open-first u end v (vs ++ tail) (length vs) is)
      ∙ ap (λ r. and_then r (λ n. some_part what end n (v ∷ vs ++ tail))) is
      ∙ some-part what end v vs tail,
)

-- one name is a part
name-part : (u : Until) (end : ℕ) (tail : List Word) → Stop u tail → length_until u end 0 0 (some_name ∷ tail) ≡ Ok 1
name-part until.Close end tail s = one-more (length_until until.Close end 0 0 tail) 0 (stop-read until.Close end 0 0 tail refl s)
name-part until.Comma end tail s = one-more (length_until until.Comma end 0 0 tail) 0 (stop-read until.Comma end 0 0 tail refl s)
name-part until.Assign end tail s = one-more (length_until until.Assign end 0 0 tail) 0 (stop-read until.Assign end 0 0 tail refl s)
name-part until.End end tail s = one-more (length_until until.End end 0 0 tail) 0 (stop-read until.End end 0 0 tail refl s)

pub part_name : (what : Wanted) (u : Until) (end : ℕ) (tail : List Word) → Stop u tail → Takes (part_reader what u) (λ x. Unit {0}) end (some_name ∷ []) tail
part_name what u end tail s = part-takes what u end some_name [] tail (name-part u end tail s)

part-begin : (what : Wanted) (u : Until) → Reaches (Stop u) (part_reader what u) []
part-begin what u = (some_name ∷ [], (refl, refl, tt), λ end tail s. part_name what u end tail s)

part-reaches : (what : Wanted) (u : Until) (fr : List Word) → Closes u 0 0 fr → Reaches (Stop u) (part_reader what u) fr
part-reaches what u [] c = part-begin what u
part-reaches what u (v ∷ fr) c = (c.0, c.1, λ end tail s. part-takes what u end v (fr ++ c.0) tail (c.2 end tail s))

part-stands : (what : Wanted) (u : Until) (end : ℕ) (ws : List Word) → Stands (Reaches (Stop u) (part_reader what u)) end ws (Expected (place end ws) what)
part-stands what u end [] = (refl, part-begin what u)
part-stands what u end (w ∷ ws) = inl (refl, part-begin what u)

abbrev Alike : {X : Type 0} → X → X → Type 0
Alike x y = Unit {0}

part-some : (what : Wanted) (u : Until) (end : ℕ) (ws used rest : List Word) → ws ≡ used ++ rest → Stop u rest → ((end : ℕ) (tail : List Word) → Stop u tail → length_until u end 0 0 (used ++ tail) ≡ Ok (length used))
    → PieceAnswer IsSome (Stop u) (λ x y. Unit {0}) (part_reader what u) end ws (some_part what end (length used) ws)
part-some what u end ws [] rest whole s h = part-stands what u end ws
part-some what u end ws (v ∷ vs) rest whole s h =
    let P : List Word → Type 0 = λ z. PieceAnswer IsSome (Stop u) (λ x y. Unit {0}) (part_reader what u) end z (some_part what end (suc (length vs)) z) in
    let Q : Read (Part × List Word) → Type 0 = PieceAnswer IsSome (Stop u) (λ x y. Unit {0}) (part_reader what u) end ((v ∷ vs) ++ rest) in
    subst P (sym whole)
    (subst Q (sym (some-part what end v vs rest)) (v ∷ vs, tt, refl, λ n tail fit. part-takes what u n v vs tail (h n tail (stop_head u rest tail s fit))))

part-by : (what : Wanted) (u : Until) (end : ℕ) (ws : List Word) (r : Read ℕ) → LengthAnswer u 0 0 end ws r → PieceAnswer IsSome (Stop u) (λ x y. Unit {0}) (part_reader what u) end ws (and_then r (λ n. some_part what end n ws))
part-by what u end ws (Ok n) h =
    let P : ℕ → Type 0 = λ k. PieceAnswer IsSome (Stop u) (λ x y. Unit {0}) (part_reader what u) end ws (some_part what end k ws) in
    subst P (sym h.4) (part-some what u end ws h.0 h.1 h.2 h.3 h.5)
part-by what u end ws (Err e) h = stands_map (Closes u 0 0) (Reaches (Stop u) (part_reader what u)) end ws e (λ fr c. part-reaches what u fr c) h

pub part_piece : (what : Wanted) (u : Until) (room : ℕ) → Piece IsSome (Stop u) (λ x y. Unit {0}) room (part_reader what u)
part_piece what u room end ws =
    elim (closes_first ws) as (λ b. PieceAnswer IsSome (Stop u) (λ x y. Unit {0}) (part_reader what u) end ws (if b then Err (Expected (place end ws) what) else and_then (length_until u end 0 0 ws) (λ n. some_part what end n ws))) [
      | true ↦ part-stands what u end ws
      | false ↦ part-by what u end ws (length_until u end 0 0 ws) (until_answer u 0 0 end ws (omega arith))
    ]

-- ---- arguments

-- no argument begins with a token of this mark
abbrev pub begins_none : Mark → Bool
begins_none Free = false
begins_none Number = false
begins_none Open = false
begins_none m = true

-- no argument begins here
abbrev pub Shut : List Word → Type 0
Shut [] = Unit {0}
Shut (w ∷ ws) = IsTrue (begins_none (mark w))

pub shut_head : (rest tail : List Word) → Shut rest → Fit Shut rest tail → Shut tail
shut_head rest tail s (inl h) = h
shut_head [] [] s (inr h) = s
shut_head [] (w ∷ ws) s (inr h) = absurd h
shut_head (v ∷ vs) [] s (inr h) = absurd h
shut_head (v ∷ vs) (w ∷ ws) s (inr h) = let P : Word → Type 0 = λ z. IsTrue (begins_none (mark z)) in subst P h s

abbrev arg_mark : (end depth : ℕ) → Mark → (at : ℕ) → List Word → Read ℕ
arg_mark end depth m at ws = elim m [
  | Free ↦ Ok 1
  | Number ↦ Ok 1
  | Open ↦ if nat_le 100 depth then Err (Deep at) else more 2 (length_until until.Close end (depth + 1) (depth + 1) ws)
  | _ ↦ Ok 0
]

none-read : (end depth : ℕ) (m : Mark) (at : ℕ) (ws : List Word) → IsTrue (begins_none m) → arg_mark end depth m at ws ≡ Ok 0
none-read end depth Free at ws h = let x : false ≡ true = h in cc
none-read end depth Number at ws h = let x : false ≡ true = h in cc
none-read end depth Open at ws h = let x : false ≡ true = h in cc
none-read end depth m at ws h = refl

shut-read : (end depth : ℕ) (tail : List Word) → Shut tail → args_from end depth 0 tail ≡ Ok ([], tail)
shut-read end depth [] s = refl
shut-read end depth (w ∷ ws) s = ap (arg_step end (w ∷ ws) (λ n. args_from end depth (n - 1) ws)) (none-read end depth (mark w) w.at ws s)

-- these tokens behind a first of this mark are an argument, whatever follows
abbrev IsArgument : (depth : ℕ) → Mark → (at : ℕ) → List Word → Type 0
IsArgument depth m at u = (end : ℕ) (tail : List Word) → arg_mark end depth m at (u ++ tail) ≡ Ok (suc (length u))

abbrev Argues : (depth : ℕ) → Mark → (at : ℕ) → List Word → Type 0
Argues depth m at fr = (more : List Word) × Inline more × IsArgument depth m at (fr ++ more)

abbrev ArgumentAnswer : (depth : ℕ) → Mark → (at end : ℕ) → List Word → Read ℕ → Type 0
ArgumentAnswer depth m at end ws (Ok zero) = IsTrue (begins_none m)
ArgumentAnswer depth m at end ws (Ok (suc n)) = (u rest : List Word) × (ws ≡ u ++ rest) × (n ≡ length u) × IsArgument depth m at u
ArgumentAnswer depth m at end ws (Err e) = At at e ⊎ Stands (Argues depth m at) end ws e

abbrev open_mark : (depth at : ℕ) → Read ℕ → Read ℕ
open_mark depth at r = if nat_le 100 depth then Err (Deep at) else more 2 r

inside-read : (end depth : ℕ) (u tail : List Word) → length_until until.Close end (depth + 1) (depth + 1) (u ++ (close_word ∷ tail)) ≡ Ok (length u)
    → more 2 (length_until until.Close end (depth + 1) (depth + 1) ((u ++ close_word ∷ []) ++ tail)) ≡ Ok (suc (length (u ++ close_word ∷ [])))
inside-read end depth u tail is =
    ap (λ z. more 2 (length_until until.Close end (depth + 1) (depth + 1) z)) (append_assoc u (close_word ∷ []) tail) ∙ ap (more 2) is
    ∙ (let e : 2 + length u ≡ suc (length (u ++ close_word ∷ [])) = omega (arith, length-append u (close_word ∷ [])) in ap (λ k. Ok k) e)

inside-read-at : (end depth : ℕ) (c : Word) (u tail : List Word) → length_until until.Close end (depth + 1) (depth + 1) (u ++ (c ∷ tail)) ≡ Ok (length u)
    → more 2 (length_until until.Close end (depth + 1) (depth + 1) ((u ++ c ∷ []) ++ tail)) ≡ Ok (suc (length (u ++ c ∷ [])))
inside-read-at end depth c u tail is =
    ap (λ z. more 2 (length_until until.Close end (depth + 1) (depth + 1) z)) (append_assoc u (c ∷ []) tail) ∙ ap (more 2) is
    ∙ (let e : 2 + length u ≡ suc (length (u ++ c ∷ [])) = omega (arith, length-append u (c ∷ [])) in ap (λ k. Ok k) e)

-- the same of what stands behind an opening parenthesis
abbrev OpenArgument : (depth : ℕ) → List Word → Type 0
OpenArgument depth u = (end : ℕ) (tail : List Word) → more 2 (length_until until.Close end (depth + 1) (depth + 1) (u ++ tail)) ≡ Ok (suc (length u))

abbrev OpenAnswer : (depth end : ℕ) → List Word → Read ℕ → Type 0
OpenAnswer depth end ws (Ok zero) = ⊥
OpenAnswer depth end ws (Ok (suc n)) = (u rest : List Word) × (ws ≡ u ++ rest) × (n ≡ length u) × OpenArgument depth u
OpenAnswer depth end ws (Err e) = Stands (λ fr. (more : List Word) × Inline more × OpenArgument depth (fr ++ more)) end ws e

open-ok : (depth end n : ℕ) (ws used rest : List Word) → ws ≡ used ++ rest → Stop until.Close rest → n ≡ length used
    → ((end : ℕ) (tail : List Word) → Stop until.Close tail → length_until until.Close end (depth + 1) (depth + 1) (used ++ tail) ≡ Ok (length used)) → OpenAnswer depth end ws (Ok (2 + n))
open-ok depth end n ws used [] whole s is h = let x : false ≡ true = s in cc
open-ok depth end n ws used (c ∷ rest) whole s is h =
    let e : suc (suc n) ≡ 2 + n = omega arith in
    let P : ℕ → Type 0 = λ k. OpenAnswer depth end ws (Ok k) in
    subst P e (used ++ c ∷ [], rest, whole ∙ sym (append_assoc used (c ∷ []) rest), omega (arith, is, length-append used (c ∷ [])), λ m tail. inside-read-at m depth c used tail (h m (c ∷ tail) s))

open-by : (depth end : ℕ) (ws : List Word) (r : Read ℕ) → LengthAnswer until.Close (depth + 1) (depth + 1) end ws r → OpenAnswer depth end ws (more 2 r)
open-by depth end ws (Ok n) h = open-ok depth end n ws h.0 h.1 h.2 h.3 h.4 h.5
open-by depth end ws (Err e) h =
    stands_map (Closes until.Close (depth + 1) (depth + 1)) (λ fr. (more : List Word) × Inline more × OpenArgument depth (fr ++ more)) end ws e
    (λ fr c. (
      c.0 ++ close_word ∷ [],
      inline_append c.0 (close_word ∷ []) c.1 (refl, refl, tt),
      let P : List Word → Type 0 = OpenArgument depth in
          subst P (append_assoc fr c.0 (close_word ∷ [])) (λ n tail. inside-read n depth (fr ++ c.0) tail (c.2 n (close_word ∷ tail) refl)),
    )) h

from-open : (depth at end : ℕ) (ws : List Word) (r : Read ℕ) (c : Bool) → nat_le 100 depth ≡ c → OpenAnswer depth end ws r → ArgumentAnswer depth Open at end ws (if c then Err (Deep at) else r)
from-open depth at end ws r true is h = inl refl
from-open depth at end ws (Ok zero) false is h = absurd h
from-open depth at end ws (Ok (suc n)) false is h =
    (h.0, h.1, h.2, h.3, λ m tail. ap (λ c. if c then Err (Deep at) else more 2 (length_until until.Close m (depth + 1) (depth + 1) (h.0 ++ tail))) is ∙ h.4 m tail)
from-open depth at end ws (Err e) false is h =
    inr (stands_map (λ fr. (more : List Word) × Inline more × OpenArgument depth (fr ++ more)) (Argues depth Open at) end ws e
    (λ fr c. (c.0, c.1, λ m tail. ap (λ b. if b then Err (Deep at) else more 2 (length_until until.Close m (depth + 1) (depth + 1) ((fr ++ c.0) ++ tail))) is ∙ c.2 m tail)) h)

argument : (depth : ℕ) (m : Mark) (at end : ℕ) (ws : List Word) → ArgumentAnswer depth m at end ws (arg_mark end depth m at ws)
argument depth Free at end ws = ([], ws, refl, refl, λ n tail. refl)
argument depth Number at end ws = ([], ws, refl, refl, λ n tail. refl)
argument depth Open at end ws =
    from-open depth at end ws (more 2 (length_until until.Close end (depth + 1) (depth + 1) ws)) (nat_le 100 depth) refl
    (open-by depth end ws (length_until until.Close end (depth + 1) (depth + 1) ws) (until_answer until.Close (depth + 1) (depth + 1) end ws (omega arith)))
argument depth m at end ws = refl

skip-over : (end depth : ℕ) (u tail : List Word) → args_from end depth (length u) (u ++ tail) ≡ args_from end depth 0 tail
skip-over end depth [] tail = refl
skip-over end depth (w ∷ u) tail = skip-over end depth u tail

arg-some : (end n : ℕ) (ws : List Word) (more : ℕ → Read (List Part × List Word)) → arg_step end ws more (Ok (suc n)) ≡ with_first (part_of end (suc n) ws) (more (suc n))
arg-some end n ws more = ap (λ c. if c then Ok ([], ws) else with_first (part_of end (suc n) ws) (more (suc n))) (eqb-suc-zero n)

argument-read : (end depth : ℕ) (w : Word) (u tail : List Word) → IsArgument depth (mark w) w.at u
    → args_from end depth 0 (w ∷ u ++ tail) ≡ with_first (part_of end (suc (length u)) (w ∷ u ++ tail)) (args_from end depth 0 tail)
argument-read end depth w u tail is =
    let e : suc (length u) - 1 ≡ length u = omega arith in
    ap (arg_step end (w ∷ u ++ tail) (λ n. args_from end depth (n - 1) (u ++ tail))) (is end tail)
    ∙ arg-some end (length u) (w ∷ u ++ tail) (λ n. args_from end depth (n - 1) (u ++ tail))
    ∙ ap (λ k. with_first (part_of end (suc (length u)) (w ∷ u ++ tail)) (args_from end depth k (u ++ tail))) e
    ∙ ap (with_first (part_of end (suc (length u)) (w ∷ u ++ tail))) (skip-over end depth u tail)

abbrev args_reader : ℕ → Reader (List Part × List Word)
args_reader depth room end ws = args_from end depth 0 ws

none-takes : (depth end : ℕ) (tail : List Word) → Shut tail → Takes (args_reader depth) (λ x. Unit {0}) end [] tail
none-takes depth end tail s = (0, [], tt, λ room le. shut-read end depth tail s)

first-takes : (depth end : ℕ) (w : Word) (u front tail : List Word) → IsArgument depth (mark w) w.at u → Takes (args_reader depth) (λ x. Unit {0}) end front tail → Takes (args_reader depth) (λ x. Unit {0}) end (w ∷ u ++ front) tail
first-takes depth end w u front tail is t = (
  t.0,
  part_of end (suc (length u)) (w ∷ u ++ (front ++ tail)) ∷ t.1,
  tt,
  λ room le.
      ap (λ z. args_from end depth 0 (w ∷ z)) (append_assoc u front tail) ∙ argument-read end depth w u (front ++ tail) is
      ∙ ap (with_first (part_of end (suc (length u)) (w ∷ u ++ (front ++ tail)))) (t.3 room le),
)

abbrev ArgsAnswer : (depth end : ℕ) → List Word → Read (List Part × List Word) → Type 0
ArgsAnswer depth end ws r = PieceAnswer Whatever Shut (λ x y. Unit {0}) (args_reader depth) end ws r

first-answer : (depth end : ℕ) (p : Part) (w : Word) (u rest : List Word) (r : Read (List Part × List Word)) → IsArgument depth (mark w) w.at u → ArgsAnswer depth end rest r → ArgsAnswer depth end (w ∷ u ++ rest) (with_first p r)
first-answer depth end p w u rest (Ok q) is h =
    (w ∷ u ++ h.0, tt, ap (λ z. w ∷ u ++ z) h.2 ∙ ap (λ z. w ∷ z) (sym (append_assoc u h.0 q.1)), λ n tail fit. first-takes depth n w u h.0 tail is (h.3 n tail fit))
first-answer depth end p w u rest (Err e) is h =
    stands_behind (Reaches Shut (args_reader depth)) end (w ∷ u) rest e
    (stands_map (Reaches Shut (args_reader depth)) (λ fr. Reaches Shut (args_reader depth) (w ∷ u ++ fr)) end rest e
    (λ fr c. (
      c.0,
      c.1,
      λ n tail s. let P : List Word → Type 0 = λ z. Takes (args_reader depth) (λ x. Unit {0}) n (w ∷ z) tail in
          subst P (sym (append_assoc u fr c.0)) (first-takes depth n w u (fr ++ c.0) tail is (c.2 n tail s)),
    )) h)

args-begin : (depth : ℕ) → Reaches Shut (args_reader depth) []
args-begin depth = ([], tt, λ n tail s. none-takes depth n tail s)

args-step : (depth end : ℕ) (w : Word) (ws : List Word) (r : Read ℕ) → ArgumentAnswer depth (mark w) w.at end ws r → ((rest : List Word) → length rest ≤ length ws → ArgsAnswer depth end rest (args_from end depth 0 rest))
    → ArgsAnswer depth end (w ∷ ws) (arg_step end (w ∷ ws) (λ n. args_from end depth (n - 1) ws) r)
args-step depth end w ws (Ok zero) h rec = ([], tt, refl, λ n tail fit. none-takes depth n tail (shut_head (w ∷ ws) tail h fit))
args-step depth end w ws (Ok (suc n)) h rec =
    let e : suc n - 1 ≡ length h.0 = omega (arith, h.3) in
    let is : arg_step end (w ∷ ws) (λ k. args_from end depth (k - 1) ws) (Ok (suc n)) ≡ with_first (part_of end (suc n) (w ∷ ws)) (args_from end depth 0 h.1) =
    arg-some end n (w ∷ ws) (λ k. args_from end depth (k - 1) ws)
    ∙ ap (λ k. with_first (part_of end (suc n) (w ∷ ws)) (args_from end depth k ws)) e
    ∙ ap (λ z. with_first (part_of end (suc n) (w ∷ ws)) (args_from end depth (length h.0) z)) h.2
    ∙ ap (with_first (part_of end (suc n) (w ∷ ws))) (skip-over end depth h.0 h.1) in
    let P : Read (List Part × List Word) → Type 0 = ArgsAnswer depth end (w ∷ ws) in
    let Q : List Word → Type 0 = λ z. ArgsAnswer depth end (w ∷ z) (with_first (part_of end (suc n) (w ∷ ws)) (args_from end depth 0 h.1)) in
    subst P (sym is) (subst Q (sym h.2) (first-answer depth end (part_of end (suc n) (w ∷ ws)) w h.0 h.1 (args_from end depth 0 h.1) h.4 (rec h.1 (omega (arith, ap length h.2, length-append h.0 h.1)))))
args-step depth end w ws (Err e) (inl h) rec = inl (h, args-begin depth)
args-step depth end w ws (Err e) (inr h) rec =
    inr (stands_map (Argues depth (mark w) w.at) (λ fr. Reaches Shut (args_reader depth) (w ∷ fr)) end ws e
    (λ fr c. (
      c.0,
      c.1,
      λ n tail s. let P : List Word → Type 0 = λ z. Takes (args_reader depth) (λ x. Unit {0}) n (w ∷ z) tail in
          subst P (append-nil (fr ++ c.0)) (first-takes depth n w (fr ++ c.0) [] tail c.2 (none-takes depth n tail s)),
    )) h)

args-by : (k depth end : ℕ) (ws : List Word) → length ws ≤ k → ArgsAnswer depth end ws (args_from end depth 0 ws)
args-by k depth end [] le = ([], tt, refl, λ n tail fit. none-takes depth n tail (shut_head [] tail tt fit))
args-by zero depth end (w ∷ ws) le = absurd (omega (arith, le))
args-by (suc k) depth end (w ∷ ws) le =
    args-step depth end w ws (arg_mark end depth (mark w) w.at ws) (argument depth (mark w) w.at end ws) (λ rest l. args-by k depth end rest (omega (arith, le, l)))

-- ---- expressions

abbrev pub expr_reader : ℕ → Reader (Expression × List Word)
expr_reader depth room end ws = expr_at end depth ws

pub expr_name : (depth end : ℕ) (tail : List Word) → Shut tail → Takes (expr_reader depth) (λ x. Unit {0}) end (some_name ∷ []) tail
expr_name depth end tail s = (0, record { name = some_name; args = [] }, tt, λ room le. ap (with_name some_name) (shut-read end depth tail s))

expr-begin : (depth : ℕ) → Reaches Shut (expr_reader depth) []
expr-begin depth = (some_name ∷ [], (refl, refl, tt), λ end tail s. expr_name depth end tail s)

named-takes : (depth end : ℕ) (w : Word) (front tail : List Word) → Takes (args_reader depth) (λ x. Unit {0}) end front tail → Takes (λ room n ws. with_name w (args_from n depth 0 ws)) (λ x. Unit {0}) end front tail
named-takes depth end w front tail t = (t.0, record { name = w; args = t.1 }, tt, λ room le. ap (with_name w) (t.3 room le))

named-answer : (depth at end : ℕ) (w : Word) (ws : List Word) (r : Read (List Part × List Word)) → ArgsAnswer depth end ws r
    → HeadPiece Shut (λ x y. Unit {0}) (λ room n ws. with_name w (args_from n depth 0 ws)) at end ws (with_name w r)
named-answer depth at end w ws (Ok p) h = (h.0, h.2, λ n tail fit. named-takes depth n w h.0 tail (h.3 n tail fit))
named-answer depth at end w ws (Err e) h =
    inr (stands_map (Reaches Shut (args_reader depth)) (Reaches Shut (λ room n zs. with_name w (args_from n depth 0 zs))) end ws e
    (λ fr c. (c.0, c.1, λ n tail s. named-takes depth n w (fr ++ c.0) tail (c.2 n tail s))) h)

abbrev pub close_reader : {X : Type 0} → X → Reader (X × List Word)
close_reader x room end ws = and_then (after_close end ws) (λ rest. Ok (x, rest))

pub close_begin : {X : Type 0} (x : X) (end : ℕ) (tail : List Word) → Takes (close_reader x) (λ y. Unit {0}) end (close_word ∷ []) tail
close_begin x end tail = (0, x, tt, λ room le. refl)

abbrev close_mark : ℕ → Mark → List Word → Read (List Word)
close_mark at m ws = elim m [ Close ↦ Ok ws | _ ↦ Err (Expected at wanted.CloseParen) ]

close-head : {X : Type 0} (R : X → X → Type 0) (x : X) (same : R x x) (m : Mark) (at end : ℕ) (ws : List Word)
    → HeadPiece Whatever R (λ room n zs. and_then (close_mark at m zs) (λ rest. Ok (x, rest))) at end ws (and_then (close_mark at m ws) (λ rest. Ok (x, rest)))
close-head R x same Close at end ws = ([], refl, λ n tail fit. (0, x, same, λ room le. refl))
close-head R x same m at end ws = inl refl

pub close_piece : {X : Type 0} (R : X → X → Type 0) (x : X) (room : ℕ) → R x x → Piece IsSome Whatever R room (close_reader x)
close_piece R x room same end [] = (refl, (close_word ∷ [], (refl, refl, tt), λ n tail s. close_begin x n tail))
close_piece R x room same end (w ∷ ws) =
    piece_head Whatever R (close_reader x) end w ws (and_then (close_mark w.at (mark w) ws) (λ rest. Ok (x, rest))) (close_word ∷ [], (refl, refl, tt), λ n tail s. close_begin x n tail) (close-head R x same (mark w) w.at end ws)

close-other : {X : Type 0} (x y z : X) (tail : List Word) (r : Read (List Word)) → and_then {W = X × List Word} r (λ rest. Ok (x, rest)) ≡ Ok (z, tail) → and_then {W = X × List Word} r (λ rest. Ok (y, rest)) ≡ Ok (y, tail)
close-other {X} x y z tail (Ok q) h =
    let a : X × List Word = (x, q) in
    let b : X × List Word = (z, tail) in
    let e : q ≡ tail = ap (λ (p : X × List Word). p.1) (inj a b h) in
    let f : List Word → Read (X × List Word) = λ t. Ok (y, t) in
    ap f e
close-other {X} x y z tail (Err e) h = let b : X × List Word = (z, tail) in absurd (clash e b h)

close-takes : {X : Type 0} (x y : X) (end : ℕ) (front tail : List Word) → Takes (close_reader x) (λ z. Unit {0}) end front tail → Takes (close_reader y) (λ z. Unit {0}) end front tail
close-takes x y end front tail t = (t.0, y, tt, λ room le. close-other x y t.1 tail (after_close end (front ++ tail)) (t.3 room le))

closes : Leads {X = Expression} {Y = Expression} Shut Whatever (λ x y. Unit {0}) (λ x y. Unit {0}) close_reader
closes = record {
  begin = close_word ∷ [];
  fits = λ tail. refl;
  inline = (refl, refl, tt);
  fine = λ x end tail q. close_begin x end tail;
  steady = λ x y z end front tail r t. close-takes x y end front tail t;
  loose = λ x y end front tail r t. close-takes x y end front tail t;
}

closed-is : (end : ℕ) (r : Read (Expression × List Word)) → closed end r ≡ and_then r (λ p. and_then (after_close end p.1) (λ rest. Ok (p.0, rest)))
closed-is end (Ok p) = refl
closed-is end (Err e) = refl

abbrev ExprAnswer : (depth end : ℕ) → List Word → Read (Expression × List Word) → Type 0
ExprAnswer depth end ws r = PieceAnswer IsSome Shut (λ x y. Unit {0}) (expr_reader depth) end ws r

abbrev expr_mark : (end depth : ℕ) → Word → Mark → List Word → Read (Expression × List Word) → Read (Expression × List Word)
expr_mark end depth w m ws inner = elim m [
  | Free ↦ with_name w (args_from end depth 0 ws)
  | Open ↦ if nat_le 100 depth then Err (Deep w.at) else closed end inner
  | _ ↦ Err (Expected w.at wanted.Expression)
]

-- a parenthesis behind an expression may be followed by anything
open-takes : (end depth : ℕ) (w : Word) (front tail : List Word) → Takes (λ room n zs. closed n (expr_at n (depth + 1) zs)) (λ x. Unit {0}) end front tail → nat_le 100 depth ≡ false
    → Takes (λ room n zs. if nat_le 100 depth then Err (Deep w.at) else closed n (expr_at n (depth + 1) zs)) (λ x. Unit {0}) end front tail
open-takes end depth w front tail t is = (t.0, t.1, tt, λ room le. ap (λ c. if c then Err (Deep w.at) else closed end (expr_at end (depth + 1) (front ++ tail))) is ∙ t.3 room le)

shut-fit : (rest tail : List Word) → Fit Shut rest tail → Fit Whatever rest tail
shut-fit rest tail (inl h) = inl tt
shut-fit rest tail (inr h) = inr h

from-closed : (depth at end : ℕ) (w : Word) (ws : List Word) (r : Read (Expression × List Word)) → nat_le 100 depth ≡ false → PieceAnswer IsSome Whatever (λ x y. Unit {0}) (λ room n zs. closed n (expr_at n (depth + 1) zs)) end ws r
    → HeadPiece Shut (λ x y. Unit {0}) (λ room n zs. if nat_le 100 depth then Err (Deep w.at) else closed n (expr_at n (depth + 1) zs)) at end ws r
from-closed depth at end w ws (Ok p) is h = (h.0, h.2, λ n tail fit. open-takes n depth w h.0 tail (h.3 n tail (shut-fit p.1 tail fit)) is)
from-closed depth at end w ws (Err e) is h =
    inr (stands_map (Reaches Whatever (λ room n zs. closed n (expr_at n (depth + 1) zs))) (Reaches Shut (λ room n zs. if nat_le 100 depth then Err (Deep w.at) else closed n (expr_at n (depth + 1) zs))) end ws e
    (λ fr c. (c.0, c.1, λ n tail s. open-takes n depth w (fr ++ c.0) tail (c.2 n tail tt) is)) h)

closed-choice : (depth end : ℕ) (w : Word) (ws : List Word) (b : Bool) (r : Read (Expression × List Word)) → nat_le 100 depth ≡ b → PieceAnswer IsSome Whatever (λ x y. Unit {0}) (λ room n zs. closed n (expr_at n (depth + 1) zs)) end ws r
    → HeadPiece Shut (λ x y. Unit {0}) (λ room n zs. if nat_le 100 depth then Err (Deep w.at) else closed n (expr_at n (depth + 1) zs)) w.at end ws (if b then Err (Deep w.at) else r)
closed-choice depth end w ws true r is h = inl refl
closed-choice depth end w ws false r is h = from-closed depth w.at end w ws r is h

expr-head : (depth end : ℕ) (w : Word) (m : Mark) (ws : List Word) → PieceAnswer IsSome Whatever (λ x y. Unit {0}) (λ room n zs. closed n (expr_at n (depth + 1) zs)) end ws (closed end (expr_at end (depth + 1) ws))
    → HeadPiece Shut (λ x y. Unit {0}) (λ room n zs. expr_mark n depth w m zs (expr_at n (depth + 1) zs)) w.at end ws (expr_mark end depth w m ws (expr_at end (depth + 1) ws))
expr-head depth end w Free ws h = named-answer depth w.at end w ws (args_from end depth 0 ws) (args-by (length ws) depth end ws (omega arith))
expr-head depth end w Open ws h = closed-choice depth end w ws (nat_le 100 depth) (closed end (expr_at end (depth + 1) ws)) refl h
expr-head depth end w m ws h = inl refl

closed-answer : (depth end : ℕ) (ws : List Word) (r : Read (Expression × List Word)) → ExprAnswer depth end ws r → PieceAnswer IsSome Whatever (λ x y. Unit {0}) (λ room n zs. closed n (expr_at n depth zs)) end ws (closed end r)
closed-answer depth end ws r h =
    let P : Read (Expression × List Word) → Type 0 = PieceAnswer IsSome Whatever (λ x y. Unit {0}) (λ room n zs. closed n (expr_at n depth zs)) end ws in
    subst P (sym (closed-is end r))
    (same_piece_answer IsSome Whatever (λ x y. Unit {0}) (chained (expr_reader depth) close_reader) (λ room n zs. closed n (expr_at n depth zs)) end ws (and_then r (λ p. and_then (after_close end p.1) (λ rest. Ok (p.0, rest))))
    (λ room n zs. closed-is n (expr_at n depth zs))
    (lead_by IsSome Shut Whatever (λ x y. Unit {0}) (λ x y. Unit {0}) (expr_reader depth) close_reader closes 0 end ws r h (λ x. close_piece (λ a b. Unit {0}) x 0 tt)))

expr-by : (depth end : ℕ) (ws : List Word) → ExprAnswer depth end ws (expr_at end depth ws)
expr-by depth end [] = (refl, expr-begin depth)
expr-by depth end (w ∷ ws) =
    piece_head Shut (λ x y. Unit {0}) (expr_reader depth) end w ws (expr_mark end depth w (mark w) ws (expr_at end (depth + 1) ws)) (expr-begin depth)
    (expr-head depth end w (mark w) ws (closed-answer (depth + 1) end ws (expr_at end (depth + 1) ws) (expr-by (depth + 1) end ws)))

pub expr_piece : (depth room : ℕ) → Piece IsSome Shut (λ x y. Unit {0}) room (expr_reader depth)
expr_piece depth room end ws = expr-by depth end ws
