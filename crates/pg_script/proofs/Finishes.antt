-- What stands behind the words of moves, where it is begun, can be finished.
use Rattle.std.proofs.Common.{◌≡◌, ◌∙◌, ℕ, zero, suc, ◌+◌, ◌-◌, ◌≤◌, Bool, true, false, List, [], ◌∷◌, ◌++◌, refl, ap, subst, arith, Option, Some, None, Ok, Err, if◌then◌else◌, nat_le, inl, inr}
use Rattle.pg_base.specs.declared.token.Sign.TheVariants as sign
use Rattle.pg_base.specs.declared.token.Wanted.TheVariants as wanted
use Rattle.pg_base.specs.Tokens.{Word}
use Rattle.pg_script.specs.declared.fault.ScriptFault.{ScriptFault}
use Rattle.pg_script.specs.declared.fault.ScriptFault.TheVariants.{Expected, TooMany, Deep}
use Rattle.pg_script.specs.declared.mark.Mark.{Mark}
use Rattle.pg_script.specs.declared.mark.Mark.TheVariants.{Open, Close, Assign, At as AtWord, With, Colon}
use Rattle.pg_script.specs.declared.span.Until.TheVariants as until
use Rattle.pg_script.specs.Data.{Part, Expression, Shape, intro, apply, split, have, revert, by_cases, unknown}
use Rattle.pg_script.specs.Marks.{mark, is_name}
use Rattle.pg_script.specs.Lines.{Read, and_then, unless_fault, part_at, ended, name_at, names_fault, steps_fault, place_at, deep_fault, exact_at, apply_at, intro_at, names_after, split_at, have_after, have_formula, have_of, cases_of}
use Rattle.pg_script.proofs.Found.{clash, and_then_ok}
use Rattle.pg_script.proofs.Standing.{stands_map, Inline, Reader, Fine, Extends, Answer, Ends, HeadAnswer, headed, by_head, goes_on, same_answer, Takes, Reaches, IsSome, Whatever, PieceAnswer, Piece, HeadPiece, piece_head, chained, Follows, then_ends}
use Rattle.pg_script.proofs.Closings.{sign_word, some_name, Stop, Shut, part_reader, part_piece, expr_reader, expr_piece}

-- ---- readers whose value is changed

map-fine : {M W : Type 0} (f : Reader M) (k : M → W) (ws : List Word) → Fine f ws → Fine (λ room n zs. and_then (f room n zs) (λ x. Ok (k x))) ws
map-fine f k ws h = λ n. let a = h n in (a.0, k a.1, λ room le. ap (λ z. and_then z (λ x. Ok (k x))) (a.2 room le))

pub map_answer : {M W : Type 0} (f : Reader M) (k : M → W) (end : ℕ) (ws : List Word) (r : Read M) → Answer f end ws r → Answer (λ room n zs. and_then (f room n zs) (λ x. Ok (k x))) end ws (and_then r (λ x. Ok (k x)))
map_answer f k end ws (Ok m) h = map-fine f k ws h
map_answer f k end ws (Err e) h = stands_map (Extends f) (Extends (λ room n zs. and_then (f room n zs) (λ x. Ok (k x)))) end ws e (λ fr c. (c.0, c.1, map-fine f k (fr ++ c.0) c.2)) h

pub map_ends : {M W : Type 0} (f : Reader M) (k : M → W) (room : ℕ) → Ends room f → Ends room (λ room n zs. and_then (f room n zs) (λ x. Ok (k x)))
map_ends f k room h = λ end ws. map_answer f k end ws (f room end ws) (h end ws)

pub map_takes : {X Y : Type 0} (f : Reader (X × List Word)) (k : X → Y) (end : ℕ) (front tail : List Word) → Takes f (λ x. Unit {0}) end front tail → Takes (λ room n zs. and_then (f room n zs) (λ p. Ok (k p.0, p.1))) (λ x. Unit {0}) end front tail
map_takes f k end front tail t = (t.0, k t.1, tt, λ room le. ap (λ z. and_then z (λ p. Ok (k p.0, p.1))) (t.3 room le))

pub map_piece : {X Y : Type 0} (A F : List Word → Type 0) (f : Reader (X × List Word)) (k : X → Y) (end : ℕ) (ws : List Word) (r : Read (X × List Word)) → PieceAnswer A F (λ x y. Unit {0}) f end ws r
    → PieceAnswer A F (λ x y. Unit {0}) (λ room n zs. and_then (f room n zs) (λ p. Ok (k p.0, p.1))) end ws (and_then r (λ p. Ok (k p.0, p.1)))
map_piece A F f k end ws (Ok p) h = (h.0, h.1, h.2, λ n tail fit. map_takes f k n h.0 tail (h.3 n tail fit))
map_piece A F f k end ws (Err e) h =
    stands_map (Reaches F f) (Reaches F (λ room n zs. and_then (f room n zs) (λ p. Ok (k p.0, p.1)))) end ws e (λ fr c. (c.0, c.1, λ n tail s. map_takes f k n (fr ++ c.0) tail (c.2 n tail s))) h

-- what needs room for one step more
pub with_room : (P : ℕ → Type 0) (n room : ℕ) → ((r : ℕ) → n ≤ r → P (suc r)) → suc n ≤ room → P room
with_room P n zero f le = absurd (omega (arith, le))
with_room P n (suc r) f le = f r (omega (arith, le))

-- ---- names, places and ends

abbrev pub ended_reader : {X : Type 0} → X → Reader X
ended_reader x room n ws = ended x ws

ended-fine : {X : Type 0} (x : X) → Fine (ended_reader x) []
ended-fine x = λ n. (0, x, λ room le. refl)

pub ended_ends : {X : Type 0} (x : X) (room : ℕ) → Ends room (ended_reader x)
ended_ends x room end [] = ended-fine x
ended_ends x room end (w ∷ ws) = inl (refl, ([], tt, ended-fine x))

ended-steady : {X Y : Type 0} (k : X → Y) (x y : X) (ws : List Word) → Fine (ended_reader (k x)) ws → Fine (ended_reader (k y)) ws
ended-steady k x y [] h = ended-fine (k y)
ended-steady k x y (w ∷ ws) h = let a = h 0 in absurd (clash (Expected w.at wanted.EndOfItem) a.1 (a.2 a.0 (omega arith)))

ended-follows : {X Y : Type 0} (F : List Word → Type 0) (k : X → Y) → F [] → Follows F (λ x y. Unit {0}) (λ x. ended_reader (k x))
ended-follows F k f = record { begin = []; fits = f; inline = tt; fine = λ x. ended-fine (k x); steady = λ x y ws r h. ended-steady k x y ws h }

-- a reader behind a token, which is the same each time
same-follows : {X M : Type 0} (g : X → Reader M) (begin : List Word) → Inline begin → ((x : X) → Fine (g x) begin) → Follows Whatever (λ x y. x ≡ y) g
same-follows {X} g begin i f = record { begin = begin; fits = tt; inline = i; fine = f; steady = λ x y ws r h. let P : X → Type 0 = λ z. Fine (g z) ws in subst P r h }

abbrev pub name_reader : Reader (Word × List Word)
name_reader room n ws = name_at n ws

name-begin : Reaches Whatever name_reader []
name-begin = (some_name ∷ [], (refl, refl, tt), λ n tail s. (0, some_name, tt, λ room le. refl))

name-head : (w : Word) (end : ℕ) (ws : List Word) (c : Bool) → is_name w ≡ c
    → HeadPiece Whatever (λ x y. x ≡ y) (λ room n zs. if is_name w then Ok (w, zs) else Err (Expected w.at wanted.Name)) w.at end ws (if c then Ok (w, ws) else Err (Expected w.at wanted.Name))
name-head w end ws true is = ([], refl, λ n tail fit. (0, w, refl, λ room le. ap (λ c. if c then Ok (w, tail) else Err (Expected w.at wanted.Name)) is))
name-head w end ws false is = inl refl

name-piece : (room : ℕ) → Piece IsSome Whatever (λ x y. x ≡ y) room name_reader
name-piece room end [] = (refl, name-begin)
name-piece room end (w ∷ ws) = piece_head Whatever (λ x y. x ≡ y) name_reader end w ws (if is_name w then Ok (w, ws) else Err (Expected w.at wanted.Name)) name-begin (name-head w end ws (is_name w) refl)

-- a name, and what stands behind it
pub after_name : {M : Type 0} (g : Word → Reader M) (room : ℕ) (begin : List Word) → Inline begin → ((x : Word) → Fine (g x) begin) → ((x : Word) → Ends room (g x)) → Ends room (chained name_reader g)
after_name g room begin i f h = then_ends IsSome Whatever (λ x y. x ≡ y) name_reader g (same-follows g begin i f) room (name-piece room) h

abbrev place_mark : ℕ → Mark → (at : ℕ) → List Word → Read (Option Word)
place_mark end m at ws = elim m [
  | AtWord ↦ and_then (name_at end ws) (λ p. ended (Some p.0) p.1)
  | _ ↦ Err (Expected at wanted.AtOrEnd)
]

abbrev pub place_reader : Reader (Option Word)
place_reader room n ws = place_at n ws

place-head : (room : ℕ) (m : Mark) (at end : ℕ) (ws : List Word) → HeadAnswer (λ room n zs. place_mark n m at zs) at end ws (place_mark end m at ws)
place-head room AtWord at end ws =
    goes_on (chained name_reader (λ x. ended_reader (Some x))) at end ws (and_then (name_at end ws) (λ p. ended (Some p.0) p.1))
    (after_name (λ x. ended_reader (Some x)) room [] tt (λ x. ended-fine (Some x)) (λ x. ended_ends (Some x) room) end ws)
place-head room m at end ws = inl refl

place-fine : Fine place_reader []
place-fine = λ n. (0, None, λ room le. refl)

pub place_ends : (room : ℕ) → Ends room place_reader
place_ends room end [] = place-fine
place_ends room end (w ∷ ws) = by_head place_reader end w ws (place_mark end (mark w) w.at ws) ([], tt, place-fine) (place-head room (mark w) w.at end ws)

abbrev pub placed : {X : Type 0} → (X → Option Word → Shape) → X → Reader Shape
placed k x room n ws = and_then (place_at n ws) (λ h. Ok (k x h))

placed-steady : {X : Type 0} (k : X → Option Word → Shape) (x y : X) (ws : List Word) → Fine (placed k x) ws → Fine (placed k y) ws
placed-steady k x y ws h =
    λ n. let a = h n in
    let q = and_then_ok (place_at n ws) (λ z. Ok (k x z)) a.1 (a.2 a.0 (omega arith)) in
    (0, k y q.0, λ room le. ap (λ z. and_then z (λ p. Ok (k y p))) q.1)

pub placed_follows : {X : Type 0} (F : List Word → Type 0) (k : X → Option Word → Shape) → F [] → Follows F (λ x y. Unit {0}) (placed k)
placed_follows F k f = record { begin = []; fits = f; inline = tt; fine = λ x n. (0, k x None, λ room le. refl); steady = λ x y ws r h. placed-steady k x y ws h }

pub placed_ends : {X : Type 0} (k : X → Option Word → Shape) (room : ℕ) (x : X) → Ends room (placed k x)
placed_ends k room x = map_ends place_reader (k x) room (place_ends room)

-- ---- names up to the end

abbrev names_reader : {V : Type 0} → (List Word → V) → Reader V
names_reader v room n ws = unless_fault (names_fault ws) (v ws)

names-head : {V : Type 0} (v : List Word → V) (w : Word) (end : ℕ) (ws : List Word) (c : Bool) → is_name w ≡ c → Answer (names_reader (λ zs. v (w ∷ zs))) end ws (unless_fault (names_fault ws) (v (w ∷ ws)))
    → HeadAnswer (headed (names_reader v) w) w.at end ws (unless_fault (if c then names_fault ws else Some (Expected w.at wanted.Name)) (v (w ∷ ws)))
names-head v w end ws false is h = inl refl
names-head v w end ws true is h =
    goes_on (headed (names_reader v) w) w.at end ws (unless_fault (names_fault ws) (v (w ∷ ws)))
    (same_answer (names_reader (λ zs. v (w ∷ zs))) (headed (names_reader v) w) end ws (unless_fault (names_fault ws) (v (w ∷ ws)))
    (λ room n zs. ap (λ c. unless_fault (if c then names_fault zs else Some (Expected w.at wanted.Name)) (v (w ∷ zs))) is) h)

pub names_answer : {V : Type 0} (v : List Word → V) (end : ℕ) (ws : List Word) → Answer (names_reader v) end ws (unless_fault (names_fault ws) (v ws))
names_answer v end [] = λ n. (0, v [], λ room le. refl)
names_answer v end (w ∷ ws) =
    by_head (names_reader v) end w ws (unless_fault (if is_name w then names_fault ws else Some (Expected w.at wanted.Name)) (v (w ∷ ws))) ([], tt, λ n. (0, v [], λ room le. refl))
    (names-head v w end ws (is_name w) refl (names_answer (λ zs. v (w ∷ zs)) end ws))

abbrev steps_reader : {V : Type 0} → (List Word → V) → Reader V
steps_reader v room n ws = unless_fault (steps_fault room ws) (v ws)

steps-more : {V : Type 0} (v : List Word → V) (w : Word) (ws : List Word) → is_name w ≡ true → Fine (steps_reader (λ zs. v (w ∷ zs))) ws → Fine (headed (steps_reader v) w) ws
steps-more {V} v w ws is h =
    λ n. let a = h n in
    let P : ℕ → Type 0 = λ room. unless_fault (steps_fault room (w ∷ ws)) (v (w ∷ ws)) ≡ Ok a.1 in
    (suc a.0, a.1, λ room le. with_room P a.0 room (λ r l. ap (λ c. unless_fault (if c then steps_fault r ws else Some (Expected w.at wanted.Name)) (v (w ∷ ws))) is ∙ a.2 r l) le)

steps-on : {V : Type 0} (v : List Word → V) (w : Word) (end : ℕ) (ws : List Word) (r : Read V) → is_name w ≡ true → Answer (steps_reader (λ zs. v (w ∷ zs))) end ws r → HeadAnswer (headed (steps_reader v) w) w.at end ws r
steps-on v w end ws (Ok m) is h = steps-more v w ws is h
steps-on v w end ws (Err e) is h = inr (stands_map (Extends (steps_reader (λ zs. v (w ∷ zs)))) (Extends (headed (steps_reader v) w)) end ws e (λ fr c. (c.0, c.1, steps-more v w (fr ++ c.0) is c.2)) h)

steps-head : {V : Type 0} (v : List Word → V) (w : Word) (room end : ℕ) (ws : List Word) (c : Bool) → is_name w ≡ c → Answer (steps_reader (λ zs. v (w ∷ zs))) end ws (unless_fault (steps_fault room ws) (v (w ∷ ws)))
    → HeadAnswer (headed (steps_reader v) w) w.at end ws (unless_fault (if c then steps_fault room ws else Some (Expected w.at wanted.Name)) (v (w ∷ ws)))
steps-head v w room end ws false is h = inl refl
steps-head v w room end ws true is h = steps-on v w end ws (unless_fault (steps_fault room ws) (v (w ∷ ws))) is h

steps-none : {V : Type 0} (v : List Word → V) (w : Word) (end : ℕ) (ws : List Word) (c : Bool) → HeadAnswer (headed (steps_reader v) w) w.at end ws (unless_fault (if c then Some (TooMany w.at) else Some (Expected w.at wanted.Name)) (v (w ∷ ws)))
steps-none v w end ws true = inl refl
steps-none v w end ws false = inl refl

steps-answer : {V : Type 0} (v : List Word → V) (room end : ℕ) (ws : List Word) → Answer (steps_reader v) end ws (unless_fault (steps_fault room ws) (v ws))
steps-answer v room end [] = λ n. (0, v [], λ r le. refl)
steps-answer v zero end (w ∷ ws) =
    by_head (steps_reader v) end w ws (unless_fault (if is_name w then Some (TooMany w.at) else Some (Expected w.at wanted.Name)) (v (w ∷ ws))) ([], tt, λ n. (0, v [], λ r le. refl)) (steps-none v w end ws (is_name w))
steps-answer v (suc room) end (w ∷ ws) =
    by_head (steps_reader v) end w ws (unless_fault (if is_name w then steps_fault room ws else Some (Expected w.at wanted.Name)) (v (w ∷ ws))) ([], tt, λ n. (0, v [], λ r le. refl))
    (steps-head v w room end ws (is_name w) refl (steps-answer (λ zs. v (w ∷ zs)) room end ws))

abbrev intro_reader : Reader Shape
intro_reader room n ws = intro_at room n ws

intro-begin : Extends intro_reader []
intro-begin =
    (some_name ∷ [], (refl, refl, tt), λ n. let P : ℕ → Type 0 = λ room. intro_at room n (some_name ∷ []) ≡ Ok (intro (some_name ∷ [])) in (1, intro (some_name ∷ []), λ room le. with_room P 0 room (λ r l. refl) le))

intro-from : (end : ℕ) (w : Word) (ws : List Word) (r : Read Shape) → Answer (steps_reader (λ zs. intro zs)) end (w ∷ ws) r → Answer intro_reader end (w ∷ ws) r
intro-from end w ws (Ok m) h = h
intro-from end w ws (Err e) (inl h) = inl (h.0, intro-begin)
intro-from end w ws (Err e) (inr h) = inr h

pub intro_ends : (room : ℕ) → Ends room intro_reader
intro_ends room end [] = (refl, intro-begin)
intro_ends room end (w ∷ ws) = intro-from end w ws (unless_fault (steps_fault room (w ∷ ws)) (intro (w ∷ ws))) (steps-answer (λ zs. intro zs) room end (w ∷ ws))

-- ---- parentheses alone

abbrev deep_reader : ℕ → Reader Shape
deep_reader depth room n ws = unless_fault (deep_fault depth ws) unknown

abbrev deep_mark : (depth at : ℕ) → Mark → (same deeper outer : Option ScriptFault) → Option ScriptFault
deep_mark depth at m same deeper outer = elim m [
  | Open ↦ if nat_le 100 depth then Some (Deep at) else deeper
  | Close ↦ outer
  | _ ↦ same
]

deep-head : (depth at end : ℕ) (m : Mark) (ws : List Word) → ((d : ℕ) → Answer (deep_reader d) end ws (unless_fault (deep_fault d ws) unknown))
    → HeadAnswer (λ room n zs. unless_fault (deep_mark depth at m (deep_fault depth zs) (deep_fault (depth + 1) zs) (deep_fault (depth - 1) zs)) unknown) at end ws
    (unless_fault (deep_mark depth at m (deep_fault depth ws) (deep_fault (depth + 1) ws) (deep_fault (depth - 1) ws)) unknown)
deep-head depth at end Open ws rec =
    elim (nat_le 100 depth) as (λ c. HeadAnswer (λ room n zs. unless_fault (if c then Some (Deep at) else deep_fault (depth + 1) zs) unknown) at end ws (unless_fault (if c then Some (Deep at) else deep_fault (depth + 1) ws) unknown)) [
      | true ↦ inl refl
      | false ↦ goes_on (deep_reader (depth + 1)) at end ws (unless_fault (deep_fault (depth + 1) ws) unknown) (rec (depth + 1))
    ]
deep-head depth at end Close ws rec = goes_on (deep_reader (depth - 1)) at end ws (unless_fault (deep_fault (depth - 1) ws) unknown) (rec (depth - 1))
deep-head depth at end m ws rec = goes_on (deep_reader depth) at end ws (unless_fault (deep_fault depth ws) unknown) (rec depth)

pub deep_answer : (depth end : ℕ) (ws : List Word) → Answer (deep_reader depth) end ws (unless_fault (deep_fault depth ws) unknown)
deep_answer depth end [] = λ n. (0, unknown, λ room le. refl)
deep_answer depth end (w ∷ ws) =
    by_head (deep_reader depth) end w ws (unless_fault (deep_mark depth w.at (mark w) (deep_fault depth ws) (deep_fault (depth + 1) ws) (deep_fault (depth - 1) ws)) unknown) ([], tt, λ n. (0, unknown, λ room le. refl))
    (deep-head depth w.at end (mark w) ws (λ d. deep_answer d end ws))

-- ---- expressions up to the end

abbrev exact_reader : Reader Expression
exact_reader room n ws = exact_at n ws

pub exact_ends : (room : ℕ) → Ends room exact_reader
exact_ends room = then_ends IsSome Shut (λ x y. Unit {0}) (expr_reader 0) (λ x. ended_reader x) (ended-follows Shut (λ x. x) tt) room (expr_piece 0 room) (λ x. ended_ends x room)

pub apply_ends : (room : ℕ) → Ends room (λ room n ws. apply_at n ws)
apply_ends room = then_ends IsSome Shut (λ x y. Unit {0}) (expr_reader 0) (placed apply) (placed_follows Shut apply tt) room (expr_piece 0 room) (λ x. placed_ends apply room x)

-- ---- forms that begin with a name

abbrev names_mark : Mark → (at : ℕ) → List Word → Read (List Word)
names_mark m at ws = elim m [ With ↦ unless_fault (names_fault ws) ws | _ ↦ Err (Expected at wanted.WithOrEnd) ]

names-after-head : (m : Mark) (at end : ℕ) (ws : List Word) → HeadAnswer (λ room n zs. names_mark m at zs) at end ws (names_mark m at ws)
names-after-head With at end ws = goes_on (names_reader (λ zs. zs)) at end ws (unless_fault (names_fault ws) ws) (names_answer (λ zs. zs) end ws)
names-after-head m at end ws = inl refl

names-after-fine : Fine (λ room n zs. names_after zs) []
names-after-fine = λ n. (0, [], λ room le. refl)

names-after-ends : (room : ℕ) → Ends room (λ room n zs. names_after zs)
names-after-ends room end [] = names-after-fine
names-after-ends room end (w ∷ ws) = by_head (λ room n zs. names_after zs) end w ws (names_mark (mark w) w.at ws) ([], tt, names-after-fine) (names-after-head (mark w) w.at end ws)

pub split_ends : (room : ℕ) → Ends room (λ room n ws. split_at n ws)
split_ends room =
    after_name (λ x room n ws. and_then (names_after ws) (λ names. Ok (split x names))) room [] tt (λ x n. (0, split x [], λ room le. refl))
    (λ x. map_ends (λ room n zs. names_after zs) (split x) room (names-after-ends room))

pub revert_ends : (room : ℕ) → Ends room (λ room n ws. and_then (name_at n ws) (λ p. ended (revert p.0) p.1))
revert_ends room = after_name (λ x. ended_reader (revert x)) room [] tt (λ x. ended-fine (revert x)) (λ x. ended_ends (revert x) room)

abbrev after_reader : Word → Part → Reader Shape
after_reader name p room n ws = have_after n name p ws

after-fine : (name : Word) (p : Part) → Fine (after_reader name p) []
after-fine name p = λ n. (0, have name (Some p) None, λ room le. refl)

pub after-ends : (name : Word) (p : Part) (room : ℕ) → Ends room (after_reader name p)
after-ends name p room end [] = after-fine name p
after-ends name p room end (w ∷ ws) =
    by_head (after_reader name p) end w ws (and_then (exact_at end ws) (λ e. Ok (have name (Some p) (Some e)))) ([], tt, after-fine name p)
    (goes_on (λ room n zs. and_then (exact_at n zs) (λ e. Ok (have name (Some p) (Some e)))) w.at end ws (and_then (exact_at end ws) (λ e. Ok (have name (Some p) (Some e))))
    (map_ends exact_reader (λ e. have name (Some p) (Some e)) room (exact_ends room) end ws))

after-steady : (name : Word) (p q : Part) (ws : List Word) → Fine (after_reader name p) ws → Fine (after_reader name q) ws
after-steady name p q [] h = after-fine name q
after-steady name p q (w ∷ ws) h =
    λ n. let a = h n in
    let r = and_then_ok (exact_at n ws) (λ e. Ok (have name (Some p) (Some e))) a.1 (a.2 a.0 (omega arith)) in
    (0, have name (Some q) (Some r.0), λ room le. ap (λ z. and_then z (λ e. Ok (have name (Some q) (Some e)))) r.1)

formula-ends : (name : Word) (room : ℕ) → Ends room (λ room n ws. have_formula n name ws)
formula-ends name room =
    then_ends IsSome (Stop until.Assign) (λ x y. Unit {0}) (part_reader wanted.Formula until.Assign) (λ p. after_reader name p)
    (record { begin = []; fits = refl; inline = tt; fine = λ p. after-fine name p; steady = λ p q ws r h. after-steady name p q ws h }) room (part_piece wanted.Formula until.Assign room) (λ p. after-ends name p room)

abbrev have_mark : ℕ → Word → Mark → (at : ℕ) → List Word → Read Shape
have_mark end name m at ws = elim m [
  | Colon ↦ have_formula end name ws
  | Assign ↦ and_then (exact_at end ws) (λ e. Ok (have name None (Some e)))
  | _ ↦ Err (Expected at wanted.ColonOrAssign)
]

abbrev have_reader : Word → Reader Shape
have_reader name room n ws = have_of n name ws

have-fine : (name : Word) → Fine (have_reader name) (sign_word sign.Assign ∷ some_name ∷ [])
have-fine name = λ n. (0, have name None (Some (record { name = some_name; args = [] })), λ room le. refl)

have-head : (name : Word) (room : ℕ) (m : Mark) (at end : ℕ) (ws : List Word) → HeadAnswer (λ room n zs. have_mark n name m at zs) at end ws (have_mark end name m at ws)
have-head name room Colon at end ws = goes_on (λ room n zs. have_formula n name zs) at end ws (have_formula end name ws) (formula-ends name room end ws)
have-head name room Assign at end ws =
    goes_on (λ room n zs. and_then (exact_at n zs) (λ e. Ok (have name None (Some e)))) at end ws (and_then (exact_at end ws) (λ e. Ok (have name None (Some e))))
    (map_ends exact_reader (λ e. have name None (Some e)) room (exact_ends room) end ws)
have-head name room m at end ws = inl refl

have-of-ends : (name : Word) (room : ℕ) → Ends room (have_reader name)
have-of-ends name room end [] = (refl, (sign_word sign.Assign ∷ some_name ∷ [], (refl, refl, (refl, refl, tt)), have-fine name))
have-of-ends name room end (w ∷ ws) =
    by_head (have_reader name) end w ws (have_mark end name (mark w) w.at ws) (sign_word sign.Assign ∷ some_name ∷ [], (refl, refl, (refl, refl, tt)), have-fine name) (have-head name room (mark w) w.at end ws)

pub have_ends : (room : ℕ) → Ends room (λ room n ws. and_then (name_at n ws) (λ p. have_of n p.0 p.1))
have_ends room = after_name have_reader room (sign_word sign.Assign ∷ some_name ∷ []) (refl, refl, (refl, refl, tt)) (λ x. have-fine x) (λ x. have-of-ends x room)

by-formula : (name : Word) (room : ℕ) → Ends room (λ room n ws. and_then (part_at wanted.Formula until.End n ws) (λ p. Ok (by_cases name p.0)))
by-formula name room =
    then_ends IsSome (Stop until.End) (λ x y. Unit {0}) (part_reader wanted.Formula until.End) (λ p room n ws. Ok (by_cases name p))
    (record { begin = []; fits = refl; inline = tt; fine = λ p n. (0, by_cases name p, λ room le. refl); steady = λ p q ws r h n. (0, by_cases name q, λ room le. refl) }) room
    (part_piece wanted.Formula until.End room) (λ p end ws n. (0, by_cases name p, λ room le. refl))

abbrev cases_mark : ℕ → Word → Mark → (at : ℕ) → List Word → Read Shape
cases_mark end name m at ws = elim m [
  | Colon ↦ and_then (part_at wanted.Formula until.End end ws) (λ p. Ok (by_cases name p.0))
  | _ ↦ Err (Expected at wanted.Colon)
]

abbrev cases_reader : Word → Reader Shape
cases_reader name room n ws = cases_of n name ws

cases-fine : (name : Word) → Fine (cases_reader name) (sign_word sign.Colon ∷ some_name ∷ [])
cases-fine name = λ n. (0, by_cases name (record { tokens = some_name ∷ []; end = n }), λ room le. refl)

cases-head : (name : Word) (room : ℕ) (m : Mark) (at end : ℕ) (ws : List Word) → HeadAnswer (λ room n zs. cases_mark n name m at zs) at end ws (cases_mark end name m at ws)
cases-head name room Colon at end ws =
    goes_on (λ room n zs. and_then (part_at wanted.Formula until.End n zs) (λ p. Ok (by_cases name p.0))) at end ws (and_then (part_at wanted.Formula until.End end ws) (λ p. Ok (by_cases name p.0))) (by-formula name room end ws)
cases-head name room m at end ws = inl refl

cases-of-ends : (name : Word) (room : ℕ) → Ends room (cases_reader name)
cases-of-ends name room end [] = (refl, (sign_word sign.Colon ∷ some_name ∷ [], (refl, refl, (refl, refl, tt)), cases-fine name))
cases-of-ends name room end (w ∷ ws) =
    by_head (cases_reader name) end w ws (cases_mark end name (mark w) w.at ws) (sign_word sign.Colon ∷ some_name ∷ [], (refl, refl, (refl, refl, tt)), cases-fine name) (cases-head name room (mark w) w.at end ws)

pub cases_ends : (room : ℕ) → Ends room (λ room n ws. and_then (name_at n ws) (λ p. cases_of n p.0 p.1))
cases_ends room = after_name cases_reader room (sign_word sign.Colon ∷ some_name ∷ []) (refl, refl, (refl, refl, tt)) (λ x. cases-fine x) (λ x. cases-of-ends x room)
