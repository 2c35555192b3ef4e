-- Faults that stand no later than they must: the tokens before them can be gone on with.
use Rattle.std.proofs.Common.{◌≡◌, ◌∙◌, ℕ, ◌+◌, ◌≤◌, false, List, [], ◌∷◌, ◌++◌, refl, sym, ap, subst, arith, append_assoc, Ok, Err, ◌⊎◌, inl, inr}
use Rattle.pg_base.specs.Tokens.{Word}
use Rattle.pg_script.specs.declared.fault.ScriptFault.{ScriptFault}
use Rattle.pg_script.specs.declared.fault.ScriptFault.TheVariants.{TooLong, Lex, Expected, TooMany, Deep, OutOfMemory}
use Rattle.pg_script.specs.Marks.{place}
use Rattle.pg_script.specs.Lines.{Read, and_then}
use Rattle.pg_script.specs.Blocks.{is_semicolon}
use Rattle.pg_script.specs.Grammar.{GoesOn}

-- ---- where a fault stands

-- at the token of this place
abbrev pub At : ℕ → ScriptFault → Type 0
At at (Expected a what) = a ≡ at
At at (TooMany a) = a ≡ at
At at (Deep a) = a ≡ at
At at _ = ⊥

-- something is missing at this end
abbrev pub Missing : ℕ → ScriptFault → Type 0
Missing end (Expected a what) = a ≡ end
Missing end _ = ⊥

-- The fault stands at one of these tokens, or at the end, and those before it are such tokens.
abbrev pub Stands : (List Word → Type 0) → ℕ → List Word → ScriptFault → Type 0
Stands C end [] e = Missing end e × C []
Stands C end (w ∷ ws) e = (At w.at e × C []) ⊎ Stands (λ fr. C (w ∷ fr)) end ws e

pub missing_at : (at : ℕ) (e : ScriptFault) → Missing at e → At at e
missing_at at (Expected a what) h = h
missing_at at (TooMany a) h = absurd h
missing_at at (Deep a) h = absurd h
missing_at at (TooLong a) h = absurd h
missing_at at (Lex a) h = absurd h
missing_at at OutOfMemory h = absurd h

pub stands_map : (C D : List Word → Type 0) (end : ℕ) (ws : List Word) (e : ScriptFault) → ((fr : List Word) → C fr → D fr) → Stands C end ws e → Stands D end ws e
stands_map C D end [] e f s = (s.0, f [] s.1)
stands_map C D end (w ∷ ws) e f (inl s) = inl (s.0, f [] s.1)
stands_map C D end (w ∷ ws) e f (inr s) = inr (stands_map (λ fr. C (w ∷ fr)) (λ fr. D (w ∷ fr)) end ws e (λ fr c. f (w ∷ fr) c) s)

-- behind these tokens
pub stands_behind : (C : List Word → Type 0) (end : ℕ) (front rest : List Word) (e : ScriptFault) → Stands (λ fr. C (front ++ fr)) end rest e → Stands C end (front ++ rest) e
stands_behind C end [] rest e s = s
stands_behind C end (w ∷ front) rest e s = inr (stands_behind (λ fr. C (w ∷ fr)) end front rest e s)

-- within a line, whose end is where the next token begins
pub stands_line : (C : List Word → Type 0) (end : ℕ) (line rest : List Word) (e : ScriptFault) → Stands C (place end rest) line e → Stands C end (line ++ rest) e
stands_line C end [] [] e s = s
stands_line C end [] (r ∷ rest) e s = inl (missing_at r.at e s.0, s.1)
stands_line C end (w ∷ line) rest e (inl s) = inl s
stands_line C end (w ∷ line) rest e (inr s) = inr (stands_line (λ fr. C (w ∷ fr)) end line rest e s)

pub stands_goes : (C : List Word → Type 0) (column end : ℕ) (ws : List Word) (e : ScriptFault) → GoesOn column ws → Stands C end ws e → Stands (λ fr. C fr × GoesOn column fr) end ws e
stands_goes C column end [] e g s = (s.0, (s.1, tt))
stands_goes C column end (w ∷ ws) e g (inl s) = inl (s.0, (s.1, tt))
stands_goes C column end (w ∷ ws) e g (inr s) =
    inr (stands_map (λ fr. C (w ∷ fr) × GoesOn column fr) (λ fr. C (w ∷ fr) × GoesOn column (w ∷ fr)) end ws e (λ fr c. (c.0, (g.0, c.1))) (stands_goes (λ fr. C (w ∷ fr)) column end ws e g.1 s))

-- ---- tokens that go on with a line

abbrev pub Inline : List Word → Type 0
Inline [] = Unit {0}
Inline (w ∷ ws) = (w.first ≡ false) × (is_semicolon w ≡ false) × Inline ws

pub inline_append : (xs ys : List Word) → Inline xs → Inline ys → Inline (xs ++ ys)
inline_append [] ys a b = b
inline_append (x ∷ xs) ys a b = (a.0, a.1, inline_append xs ys a.2 b)

-- ---- readers that leave nothing: so many steps may stand, and this is the end

abbrev pub Reader : Type 0 → Type 0
Reader M = ℕ → ℕ → List Word → Read M

-- these tokens are read, where enough steps may stand
abbrev pub Fine : {M : Type 0} → Reader M → List Word → Type 0
Fine {M} f ws = (end : ℕ) → (enough : ℕ) × (m : M) × ((room : ℕ) → enough ≤ room → f room end ws ≡ Ok m)

-- these tokens can be gone on with, within the line
abbrev pub Extends : {M : Type 0} → Reader M → List Word → Type 0
Extends {M} f fr = (more : List Word) × Inline more × Fine f (fr ++ more)

abbrev pub Answer : {M : Type 0} → Reader M → (end : ℕ) → List Word → Read M → Type 0
Answer f end ws (Ok m) = Fine f ws
Answer f end ws (Err e) = Stands (Extends f) end ws e

abbrev pub Ends : {M : Type 0} → (room : ℕ) → Reader M → Type 0
Ends room f = (end : ℕ) (ws : List Word) → Answer f end ws (f room end ws)

-- behind the first token, which may be at fault
abbrev pub HeadAnswer : {M : Type 0} → Reader M → (at end : ℕ) → List Word → Read M → Type 0
HeadAnswer f at end ws (Ok m) = Fine f ws
HeadAnswer f at end ws (Err e) = At at e ⊎ Stands (Extends f) end ws e

abbrev pub headed : {M : Type 0} → Reader M → Word → Reader M
headed f w room end ws = f room end (w ∷ ws)

pub by_head : {M : Type 0} (f : Reader M) (end : ℕ) (w : Word) (ws : List Word) (r : Read M) → Extends f [] → HeadAnswer (headed f w) w.at end ws r → Answer f end (w ∷ ws) r
by_head f end w ws (Ok m) s h = h
by_head f end w ws (Err e) s (inl h) = inl (h, s)
by_head f end w ws (Err e) s (inr h) = inr h

pub goes_on : {M : Type 0} (f : Reader M) (at end : ℕ) (ws : List Word) (r : Read M) → Answer f end ws r → HeadAnswer f at end ws r
goes_on f at end ws (Ok m) h = h
goes_on f at end ws (Err e) h = inr h

pub same_fine : {M : Type 0} (f g : Reader M) (ws : List Word) → ((room end : ℕ) → g room end ws ≡ f room end ws) → Fine f ws → Fine g ws
same_fine f g ws is h = λ end. let a = h end in (a.0, a.1, λ room le. is room end ∙ a.2 room le)

pub same_answer : {M : Type 0} (f g : Reader M) (end : ℕ) (ws : List Word) (r : Read M) → ((room end : ℕ) (ws : List Word) → g room end ws ≡ f room end ws) → Answer f end ws r → Answer g end ws r
same_answer f g end ws (Ok m) is h = same_fine f g ws (λ room e. is room e ws) h
same_answer f g end ws (Err e) is h = stands_map (Extends f) (Extends g) end ws e (λ fr c. (c.0, c.1, same_fine f g (fr ++ c.0) (λ room e. is room e (fr ++ c.0)) c.2)) h

pub same_ends : {M : Type 0} (room : ℕ) (f g : Reader M) → ((room end : ℕ) (ws : List Word) → g room end ws ≡ f room end ws) → Ends room f → Ends room g
same_ends {M} room f g is h = λ end ws. let P : Read M → Type 0 = Answer g end ws in subst P (sym (is room end ws)) (same_answer f g end ws (f room end ws) is (h end ws))

-- ---- readers that leave tokens

abbrev pub SameHead : List Word → List Word → Type 0
SameHead [] [] = Unit {0}
SameHead (v ∷ vs) (w ∷ ws) = v ≡ w
SameHead _ _ = ⊥

pub same_head : (ws : List Word) → SameHead ws ws
same_head [] = tt
same_head (w ∷ ws) = refl

-- what may follow in place of the tokens that are left
abbrev pub Fit : (List Word → Type 0) → (rest tail : List Word) → Type 0
Fit F rest tail = F tail ⊎ SameHead rest tail

-- The reader takes these tokens in front of those, and gives such a value.
abbrev pub Takes : {X : Type 0} → Reader (X × List Word) → (X → Type 0) → (end : ℕ) → (front tail : List Word) → Type 0
Takes {X} f R end front tail = (enough : ℕ) × (x : X) × R x × ((room : ℕ) → enough ≤ room → f room end (front ++ tail) ≡ Ok (x, tail))

-- these tokens can be gone on with, within the line, so that they are taken
abbrev pub Reaches : {X : Type 0} → (List Word → Type 0) → Reader (X × List Word) → List Word → Type 0
Reaches {X} F f fr = (more : List Word) × Inline more × ((end : ℕ) (tail : List Word) → F tail → Takes f (λ x. Unit {0}) end (fr ++ more) tail)

abbrev pub IsSome : List Word → Type 0
IsSome [] = ⊥
IsSome (w ∷ ws) = Unit {0}

abbrev pub Whatever : List Word → Type 0
Whatever ws = Unit {0}

pub some_append : (xs ys : List Word) → IsSome ys → IsSome (xs ++ ys)
some_append [] ys h = h
some_append (x ∷ xs) ys h = tt

abbrev pub PieceAnswer : {X : Type 0} → (A F : List Word → Type 0) → (X → X → Type 0) → Reader (X × List Word) → (end : ℕ) → List Word → Read (X × List Word) → Type 0
PieceAnswer A F R f end ws (Ok p) = (used : List Word) × A used × (ws ≡ used ++ p.1) × ((end : ℕ) (tail : List Word) → Fit F p.1 tail → Takes f (R p.0) end used tail)
PieceAnswer A F R f end ws (Err e) = Stands (Reaches F f) end ws e

abbrev pub Piece : {X : Type 0} → (A F : List Word → Type 0) → (X → X → Type 0) → (room : ℕ) → Reader (X × List Word) → Type 0
Piece A F R room f = (end : ℕ) (ws : List Word) → PieceAnswer A F R f end ws (f room end ws)

abbrev pub HeadPiece : {X : Type 0} → (F : List Word → Type 0) → (X → X → Type 0) → Reader (X × List Word) → (at end : ℕ) → List Word → Read (X × List Word) → Type 0
HeadPiece F R f at end ws (Ok p) = (used : List Word) × (ws ≡ used ++ p.1) × ((end : ℕ) (tail : List Word) → Fit F p.1 tail → Takes f (R p.0) end used tail)
HeadPiece F R f at end ws (Err e) = At at e ⊎ Stands (Reaches F f) end ws e

pub piece_head : {X : Type 0} (F : List Word → Type 0) (R : X → X → Type 0) (f : Reader (X × List Word)) (end : ℕ) (w : Word) (ws : List Word) (r : Read (X × List Word)) → Reaches F f []
    → HeadPiece F R (headed f w) w.at end ws r → PieceAnswer IsSome F R f end (w ∷ ws) r
piece_head F R f end w ws (Ok p) s h = (w ∷ h.0, tt, ap (λ t. w ∷ t) h.1, λ e tail fit. h.2 e tail fit)
piece_head F R f end w ws (Err e) s (inl h) = inl (h, s)
piece_head F R f end w ws (Err e) s (inr h) = inr h

pub piece_on : {X : Type 0} (A F : List Word → Type 0) (R : X → X → Type 0) (f : Reader (X × List Word)) (at end : ℕ) (ws : List Word) (r : Read (X × List Word)) → PieceAnswer A F R f end ws r → HeadPiece F R f at end ws r
piece_on A F R f at end ws (Ok p) h = (h.0, h.2, h.3)
piece_on A F R f at end ws (Err e) h = inr h

same-takes : {X : Type 0} (f g : Reader (X × List Word)) (R : X → Type 0) (end : ℕ) (front tail : List Word) → ((room end : ℕ) (ws : List Word) → g room end ws ≡ f room end ws) → Takes f R end front tail → Takes g R end front tail
same-takes f g R end front tail is t = (t.0, t.1, t.2, λ room le. is room end (front ++ tail) ∙ t.3 room le)

pub same_piece_answer : {X : Type 0} (A F : List Word → Type 0) (R : X → X → Type 0) (f g : Reader (X × List Word)) (end : ℕ) (ws : List Word) (r : Read (X × List Word)) → ((room end : ℕ) (ws : List Word) → g room end ws ≡ f room end ws)
    → PieceAnswer A F R f end ws r → PieceAnswer A F R g end ws r
same_piece_answer A F R f g end ws (Ok p) is h = (h.0, h.1, h.2, λ e tail fit. same-takes f g (R p.0) e h.0 tail is (h.3 e tail fit))
same_piece_answer A F R f g end ws (Err e) is h =
    stands_map (Reaches F f) (Reaches F g) end ws e (λ fr c. (c.0, c.1, λ e2 tail t. same-takes f g (λ x. Unit {0}) e2 (fr ++ c.0) tail is (c.2 e2 tail t))) h

-- ---- one reader, and another behind it

abbrev pub chained : {X M : Type 0} → Reader (X × List Word) → (X → Reader M) → Reader M
chained f g room end ws = and_then (f room end ws) (λ p. g p.0 room end p.1)

pub fine_join : {X M : Type 0} (f : Reader (X × List Word)) (g : X → Reader M) (R : X → Type 0) (front tail : List Word) → ((end : ℕ) → Takes f R end front tail) → ((x : X) → R x → Fine (g x) tail) → Fine (chained f g) (front ++ tail)
fine_join f g R front tail t s =
    λ end. let a = t end in let b = s a.1 a.2 end in
    (a.0 + b.0, b.1, λ room le. ap (λ z. and_then z (λ p. g p.0 room end p.1)) (a.3 room (omega (arith, le))) ∙ b.2 room (omega (arith, le)))

extends-by : {M : Type 0} (h : Reader M) (front fr more : List Word) → Inline more → Fine h (front ++ (fr ++ more)) → Extends h (front ++ fr)
extends-by h front fr more i s = (more, i, let P : List Word → Type 0 = Fine h in subst P (sym (append_assoc front fr more)) s)

-- what is asked of a reader and of one behind it: these tokens are read from the start
pub record Follows {X M : Type 0} (F : List Word → Type 0) (R : X → X → Type 0) (g : X → Reader M) : Type 0 where
  pub begin : List Word
  pub fits : F begin
  pub inline : Inline begin
  pub fine : (x : X) → Fine (g x) begin
  pub steady : (x y : X) (ws : List Word) → R x y → Fine (g x) ws → Fine (g y) ws

then-begin : {X M : Type 0} (F : List Word → Type 0) (R : X → X → Type 0) (f : Reader (X × List Word)) (g : X → Reader M) (s : Follows F R g) (x : X) (rest used : List Word)
    → ((end : ℕ) (tail : List Word) → Fit F rest tail → Takes f (R x) end used tail) → Extends (chained f g) (used ++ [])
then-begin F R f g s x rest used t = extends-by (chained f g) used [] s.begin s.inline (fine_join f g (R x) used s.begin (λ end. t end s.begin (inl s.fits)) (λ y r. s.fine y))

then-behind : {X M : Type 0} (F : List Word → Type 0) (R : X → X → Type 0) (f : Reader (X × List Word)) (g : X → Reader M) (s : Follows F R g) (x : X) (end : ℕ) (rest used : List Word) (e : ScriptFault)
    → ((end : ℕ) (tail : List Word) → Fit F rest tail → Takes f (R x) end used tail) → Stands (Extends (g x)) end rest e → Stands (λ fr. Extends (chained f g) (used ++ fr)) end rest e
then-behind F R f g s x end [] used e t h = (h.0, then-begin F R f g s x [] used t)
then-behind F R f g s x end (r ∷ rs) used e t (inl h) = inl (h.0, then-begin F R f g s x (r ∷ rs) used t)
then-behind F R f g s x end (r ∷ rs) used e t (inr h) =
    inr (stands_map (λ fr. Extends (g x) (r ∷ fr)) (λ fr. Extends (chained f g) (used ++ r ∷ fr)) end rs e
    (λ fr c. extends-by (chained f g) used (r ∷ fr) c.0 c.1 (fine_join f g (R x) used (r ∷ fr ++ c.0) (λ n. t n (r ∷ fr ++ c.0) (inr refl)) (λ y q. s.steady x y (r ∷ fr ++ c.0) q c.2))) h)

then-ok : {X M : Type 0} (F : List Word → Type 0) (R : X → X → Type 0) (f : Reader (X × List Word)) (g : X → Reader M) (s : Follows F R g) (x : X) (end : ℕ) (rest used : List Word) (r : Read M)
    → ((end : ℕ) (tail : List Word) → Fit F rest tail → Takes f (R x) end used tail) → Answer (g x) end rest r → Answer (chained f g) end (used ++ rest) r
then-ok F R f g s x end rest used (Ok m) t h = fine_join f g (R x) used rest (λ n. t n rest (inr (same_head rest))) (λ y q. s.steady x y rest q h)
then-ok F R f g s x end rest used (Err e) t h = stands_behind (Extends (chained f g)) end used rest e (then-behind F R f g s x end rest used e t h)

pub then_by : {X M : Type 0} (A F : List Word → Type 0) (R : X → X → Type 0) (f : Reader (X × List Word)) (g : X → Reader M) (s : Follows F R g) (room end : ℕ) (ws : List Word) (r : Read (X × List Word)) → PieceAnswer A F R f end ws r
    → ((p : X × List Word) → r ≡ Ok p → Ends room (g p.0)) → Answer (chained f g) end ws (and_then r (λ p. g p.0 room end p.1))
then_by A F R f g s room end ws (Ok p) h k =
    let q = g p.0 room end p.1 in
    let P : List Word → Type 0 = λ z. Answer (chained f g) end z q in
    subst P (sym h.2) (then-ok F R f g s p.0 end p.1 h.0 q h.3 (k p refl end p.1))
then_by A F R f g s room end ws (Err e) h k =
    stands_map (Reaches F f) (Extends (chained f g)) end ws e
    (λ fr c. (
      c.0 ++ s.begin,
      inline_append c.0 s.begin c.1 s.inline,
      let P : List Word → Type 0 = Fine (chained f g) in subst P (append_assoc fr c.0 s.begin) (fine_join f g (λ x. Unit {0}) (fr ++ c.0) s.begin (λ n. c.2 n s.begin s.fits) (λ y q. s.fine y)),
    )) h

pub then_ends : {X M : Type 0} (A F : List Word → Type 0) (R : X → X → Type 0) (f : Reader (X × List Word)) (g : X → Reader M) → Follows F R g → (room : ℕ) → Piece A F R room f → ((x : X) → Ends room (g x)) → Ends room (chained f g)
then_ends A F R f g s room h k = λ end ws. then_by A F R f g s room end ws (f room end ws) (h end ws) (λ p is. k p.0)

-- ---- one reader that leaves tokens, and another behind it

pub takes_join : {X Y : Type 0} (f : Reader (X × List Word)) (g : X → Reader (Y × List Word)) (R : X → Type 0) (T : Y → Type 0) (end : ℕ) (front mid tail : List Word) → Takes f R end front (mid ++ tail)
    → ((x : X) → R x → Takes (g x) T end mid tail) → Takes (chained f g) T end (front ++ mid) tail
takes_join f g R T end front mid tail a s =
    let b = s a.1 a.2 in
    (a.0 + b.0, b.1, b.2, λ room le. ap (λ z. chained f g room end z) (append_assoc front mid tail) ∙ ap (λ z. and_then z (λ p. g p.0 room end p.1)) (a.3 room (omega (arith, le))) ∙ b.3 room (omega (arith, le)))

pub record Leads {X Y : Type 0} (F G : List Word → Type 0) (R : X → X → Type 0) (T : Y → Y → Type 0) (g : X → Reader (Y × List Word)) : Type 0 where
  pub begin : List Word
  pub fits : (tail : List Word) → F (begin ++ tail)
  pub inline : Inline begin
  pub fine : (x : X) (end : ℕ) (tail : List Word) → G tail → Takes (g x) (λ y. Unit {0}) end begin tail
  pub steady : (x y : X) (z : Y) (end : ℕ) (front tail : List Word) → R x y → Takes (g x) (T z) end front tail → Takes (g y) (T z) end front tail
  pub loose : (x y : X) (end : ℕ) (front tail : List Word) → R x y → Takes (g x) (λ z. Unit {0}) end front tail → Takes (g y) (λ z. Unit {0}) end front tail

reaches-by : {X : Type 0} (G : List Word → Type 0) (h : Reader (X × List Word)) (front fr more : List Word) → Inline more → ((end : ℕ) (tail : List Word) → G tail → Takes h (λ x. Unit {0}) end (front ++ (fr ++ more)) tail) → Reaches G h (front ++ fr)
reaches-by G h front fr more i s =
    (more, i, λ end tail t. let P : List Word → Type 0 = λ z. Takes h (λ x. Unit {0}) end z tail in subst P (sym (append_assoc front fr more)) (s end tail t))

lead-begin : {X Y : Type 0} (F G : List Word → Type 0) (R : X → X → Type 0) (T : Y → Y → Type 0) (f : Reader (X × List Word)) (g : X → Reader (Y × List Word)) (s : Leads F G R T g) (x : X) (rest used : List Word)
    → ((end : ℕ) (tail : List Word) → Fit F rest tail → Takes f (R x) end used tail) → Reaches G (chained f g) (used ++ [])
lead-begin F G R T f g s x rest used t =
    reaches-by G (chained f g) used [] s.begin s.inline
    (λ end tail q. takes_join f g (R x) (λ y. Unit {0}) end used s.begin tail (t end (s.begin ++ tail) (inl (s.fits tail))) (λ y r. s.fine y end tail q))

lead-behind : {X Y : Type 0} (F G : List Word → Type 0) (R : X → X → Type 0) (T : Y → Y → Type 0) (f : Reader (X × List Word)) (g : X → Reader (Y × List Word)) (s : Leads F G R T g) (x : X) (end : ℕ) (rest used : List Word) (e : ScriptFault)
    → ((end : ℕ) (tail : List Word) → Fit F rest tail → Takes f (R x) end used tail) → Stands (Reaches G (g x)) end rest e → Stands (λ fr. Reaches G (chained f g) (used ++ fr)) end rest e
lead-behind F G R T f g s x end [] used e t h = (h.0, lead-begin F G R T f g s x [] used t)
lead-behind F G R T f g s x end (r ∷ rs) used e t (inl h) = inl (h.0, lead-begin F G R T f g s x (r ∷ rs) used t)
lead-behind F G R T f g s x end (r ∷ rs) used e t (inr h) =
    inr (stands_map (λ fr. Reaches G (g x) (r ∷ fr)) (λ fr. Reaches G (chained f g) (used ++ r ∷ fr)) end rs e
    (λ fr c. reaches-by G (chained f g) used (r ∷ fr) c.0 c.1
    (λ n tail q. takes_join f g (R x) (λ y. Unit {0}) n used (r ∷ fr ++ c.0) tail (t n (r ∷ (fr ++ c.0) ++ tail) (inr refl)) (λ y v. s.loose x y n (r ∷ fr ++ c.0) tail v (c.2 n tail q)))) h)

-- the tokens that the second takes are the first of those that the first leaves
lead-fit : (F : List Word → Type 0) (mid rest tail : List Word) → IsSome mid → Fit F (mid ++ rest) (mid ++ tail)
lead-fit F [] rest tail h = absurd h
lead-fit F (m ∷ mid) rest tail h = inr refl

lead-ok : {X Y : Type 0} (F G : List Word → Type 0) (R : X → X → Type 0) (T : Y → Y → Type 0) (f : Reader (X × List Word)) (g : X → Reader (Y × List Word)) (s : Leads F G R T g) (x : X) (end : ℕ) (rest used : List Word) (r : Read (Y × List Word))
    → ((end : ℕ) (tail : List Word) → Fit F rest tail → Takes f (R x) end used tail) → PieceAnswer IsSome G T (g x) end rest r → PieceAnswer IsSome G T (chained f g) end (used ++ rest) r
lead-ok F G R T f g s x end rest used (Ok p) t h = (
  used ++ h.0,
  some_append used h.0 h.1,
  ap (λ z. used ++ z) h.2 ∙ sym (append_assoc used h.0 p.1),
  λ n tail fit.
      let P : List Word → Type 0 = λ z. Fit F z (h.0 ++ tail) in
      takes_join f g (R x) (T p.0) n used h.0 tail (t n (h.0 ++ tail) (subst P (sym h.2) (lead-fit F h.0 p.1 tail h.1))) (λ y v. s.steady x y p.0 n h.0 tail v (h.3 n tail fit)),
)
lead-ok F G R T f g s x end rest used (Err e) t h = stands_behind (Reaches G (chained f g)) end used rest e (lead-behind F G R T f g s x end rest used e t h)

pub lead_by : {X Y : Type 0} (A F G : List Word → Type 0) (R : X → X → Type 0) (T : Y → Y → Type 0) (f : Reader (X × List Word)) (g : X → Reader (Y × List Word)) (s : Leads F G R T g) (room end : ℕ) (ws : List Word) (r : Read (X × List Word))
    → PieceAnswer A F R f end ws r → ((x : X) → Piece IsSome G T room (g x)) → PieceAnswer IsSome G T (chained f g) end ws (and_then r (λ p. g p.0 room end p.1))
lead_by {Y = Y} A F G R T f g s room end ws (Ok p) h k =
    let q = g p.0 room end p.1 in
    let P : List Word → Type 0 = λ z. PieceAnswer IsSome G T (chained f g) end z q in
    subst P (sym h.2) (lead-ok F G R T f g s p.0 end p.1 h.0 q h.3 (k p.0 end p.1))
lead_by A F G R T f g s room end ws (Err e) h k =
    stands_map (Reaches F f) (Reaches G (chained f g)) end ws e
    (λ fr c. (
      c.0 ++ s.begin,
      inline_append c.0 s.begin c.1 s.inline,
      λ n tail q. let P : List Word → Type 0 = λ z. Takes (chained f g) (λ y. Unit {0}) n z tail in
          subst P (append_assoc fr c.0 s.begin) (takes_join f g (λ x. Unit {0}) (λ y. Unit {0}) n (fr ++ c.0) s.begin tail (c.2 n (s.begin ++ tail) (s.fits tail)) (λ y v. s.fine y n tail q)),
    )) h

pub then_piece : {X Y : Type 0} (A F G : List Word → Type 0) (R : X → X → Type 0) (T : Y → Y → Type 0) (f : Reader (X × List Word)) (g : X → Reader (Y × List Word)) → Leads F G R T g → (room : ℕ) → Piece A F R room f
    → ((x : X) → Piece IsSome G T room (g x)) → Piece IsSome G T room (chained f g)
then_piece A F G R T f g s room h k = λ end ws. lead_by A F G R T f g s room end ws (f room end ws) (h end ws) k
