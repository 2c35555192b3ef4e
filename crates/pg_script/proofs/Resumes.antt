-- A script that is begun can be finished: what stands before a fault begins one, the limits on steps and blocks aside.
use Rattle.std.proofs.Common.{◌≡◌, ◌∙◌, ℕ, zero, suc, ◌+◌, ◌-◌, ◌≤◌, ◌<◌, Bool, true, false, ◌&&◌, ◌||◌, List, [], ◌∷◌, ◌++◌, length, take, drop, refl, sym, ap, subst, arith, append_assoc, append-nil, length-append, Some, None, Ok, Err, if◌then◌else◌, IsTrue, IsFalse, ◌==◌, nat_lt, nat_le, not, ◌⊎◌, inl, inr}
use Rattle.std.specs.Prelude.{codes}
use Rattle.std.proofs.lemmas.Bool.Decides.{nat_tests}
use Rattle.std.proofs.lemmas.List.{take-append-drop}
use Rattle.pg_base.specs.declared.token.TokenKind.TheVariants as token
use Rattle.pg_base.specs.declared.token.Wanted.TheVariants as wanted
use Rattle.pg_base.specs.Tokens.{Word}
use Rattle.pg_script.specs.declared.fault.ScriptFault.{ScriptFault}
use Rattle.pg_script.specs.declared.fault.ScriptFault.TheVariants.{Expected, TooMany, Deep}
use Rattle.pg_script.specs.declared.block.Kind.{Kind}
use Rattle.pg_script.specs.declared.block.Kind.TheVariants as kind
use Rattle.pg_script.specs.Data.{Entry, move, focus, branch, hint, entries_of, Step, Remark, Shape, plain}
use Rattle.pg_script.specs.Marks.{place}
use Rattle.pg_script.specs.Lines.{Read, and_then, ended, head_of, shape_at, hint_at}
use Rattle.pg_script.specs.Blocks.{ReadEntries, ends_line, is_semicolon, line_length, kind_of, move_at, steps_of, stands_deeper, inner_at, line_at, entry_at, next_at, after_semicolon, with_entry, entries_after, entries_at, too_deep, block_at}
use Rattle.pg_script.specs.Grammar.{EndsBlock, EndsLine, GoesOn, BeginsItem, Separates, IsItem, a_move, a_hint, a_bullet, a_branch, IsBlock, last, line, semicolon}
use Rattle.pg_script.specs.Scripts.{entries_of_tokens}
use Rattle.pg_script.specs.Faults.{IsLongScript, nothing, one_block, BeginsScript}
use Rattle.pg_script.proofs.Laid.{item_some, by_kind, block-open, script-open, script-empty}
use Rattle.pg_script.proofs.Found.{clash, and_then_ok, goes, item-laid, insides}
use Rattle.pg_script.proofs.Standing.{At, Stands, stands_map, stands_behind, stands_line, stands_goes, Inline, Reader, Fine, Extends, Answer}
use Rattle.pg_script.proofs.Finishes.{with_room}
use Rattle.pg_script.proofs.Rounds.{shape_ends}
use Rattle.pg_script.proofs.Hinted.{hint_ends}

-- ---- what was read on the way

fault-is : {V : Type 0} (x e : ScriptFault) → (let r : Read V = Err x in r) ≡ Err e → x ≡ e
fault-is x e h = cc

not-ok : {V : Type 0} (x : V) (e : ScriptFault) → (let r : Read V = Ok x in r) ≡ Err e → ⊥
not-ok x e h = cc

map-fault : {V W : Type 0} (r : Read V) (k : V → W) (e : ScriptFault) → and_then r (λ x. Ok (k x)) ≡ Err e → r ≡ Err e
map-fault {W = W} (Ok x) k e h = absurd (not-ok {V = W} (k x) e h)
map-fault {V = V} {W = W} (Err x) k e h = let f : ScriptFault → Read V = λ z. Err z in ap f (fault-is {V = W} x e h)

answer-ok : {M : Type 0} (f : Reader M) (end : ℕ) (ws : List Word) (r : Read M) (m : M) → r ≡ Ok m → Answer f end ws r → Fine f ws
answer-ok {M} f end ws r m is h = let P : Read M → Type 0 = Answer f end ws in subst P is h

answer-err : {M : Type 0} (f : Reader M) (end : ℕ) (ws : List Word) (r : Read M) (e : ScriptFault) → r ≡ Err e → Answer f end ws r → Stands (Extends f) end ws e
answer-err {M} f end ws r e is h = let P : Read M → Type 0 = Answer f end ws in subst P is h

-- ---- what may follow in place of what does

abbrev Sits : (next other : List Word) → Type 0
Sits next [] = Unit {0}
Sits [] (w ∷ ws) = ⊥
Sits (v ∷ vs) (w ∷ ws) = v ≡ w

line-sits : (column : ℕ) (next other : List Word) → Sits next other → EndsLine column next → EndsLine column other
line-sits column next [] s e = tt
line-sits column [] (w ∷ ws) s e = absurd s
line-sits column (v ∷ vs) (w ∷ ws) s e = let P : Word → Type 0 = λ z. IsTrue (is_semicolon z || ends_line column z) in subst P s e

block-sits : (column : ℕ) (next other : List Word) → Sits next other → EndsBlock column next → EndsBlock column other
block-sits column next [] s e = tt
block-sits column [] (w ∷ ws) s e = absurd s
block-sits column (v ∷ vs) (w ∷ ws) s e = let P : Word → Type 0 = λ z. IsTrue (z.first && nat_lt z.column column) in subst P s e

-- ---- items and blocks, with as many steps and blocks as one likes

abbrev Lays : (sample : Bool) → (column : ℕ) → (next ws : List Word) → Type 0
Lays sample column next ws =
    (left : ℕ) → (enough : ℕ) × ((budget room : ℕ) → enough ≤ budget → enough ≤ room → (after : ℕ) × (x : Entry) × (left ≤ after) × IsItem sample 0 budget column room after ws next x)

abbrev LaysBlock : (sample : Bool) → (column : ℕ) → (next ws : List Word) → Type 0
LaysBlock sample column next ws =
    (left : ℕ) → (enough : ℕ) × ((budget room : ℕ) → enough ≤ budget → enough ≤ room → (after : ℕ) × (xs : List Entry) × (left ≤ after) × IsBlock sample 0 budget column room after ws next xs)

abbrev shape_reader : Word → Reader Shape
shape_reader w room n ws = shape_at (head_of w.text) room n ws

abbrev hint_reader : Word → Reader Remark
hint_reader w room n ws = hint_at w.at n ws

some-room : (room : ℕ) → 1 ≤ room → (room == 0) ≡ false
some-room room le = grind (arith, nat_tests, le)

move-ok : (room end : ℕ) (w : Word) (ws : List Word) (s : Shape) → 1 ≤ room → shape_at (head_of w.text) room end ws ≡ Ok s → move_at room end w ws ≡ Ok ((let m : Step = record { at = w.at; head = w.text; shape = s } in m))
move-ok room end w ws s le is =
    ap (λ c. if c then Err (TooMany w.at) else and_then (shape_at (head_of w.text) room end ws) (λ z. Ok ((let m : Step = record { at = w.at; head = w.text; shape = z } in m)))) (some-room room le)
    ∙ ap (λ r. and_then r (λ z. Ok ((let m : Step = record { at = w.at; head = w.text; shape = z } in m)))) is

move-lays : (sample : Bool) (column : ℕ) (w : Word) (ws next : List Word) → kind_of sample w ≡ kind.Move → GoesOn column ws → EndsLine column next → Fine (shape_reader w) ws → Lays sample column next (w ∷ ws)
move-lays sample column w ws next k g e f =
    λ left. let a = f (place 0 next) in
    let m : Step = record { at = w.at; head = w.text; shape = a.1 } in
    (a.0 + 1 + left + steps_of a.1, λ budget room b r. (room - steps_of a.1, move m, omega (arith, r), a_move budget column room w ws next m k g e (move-ok room (place 0 next) w ws a.1 (omega (arith, r)) (a.2 room (omega (arith, r))))))

hint-lays : (sample : Bool) (column : ℕ) (w : Word) (ws next : List Word) → kind_of sample w ≡ kind.Hint → GoesOn column ws → EndsLine column next → Fine (hint_reader w) ws → Lays sample column next (w ∷ ws)
hint-lays sample column w ws next k g e f =
    λ left. let a = f (place 0 next) in (a.0 + left, λ budget room b r. (room, hint a.1, omega (arith, r), a_hint budget column room w ws next a.1 k g e (a.2 room (omega (arith, r)))))

bullet-lays : (sample : Bool) (column : ℕ) (w v : Word) (vs next : List Word) → kind_of sample w ≡ kind.Focus → IsTrue (stands_deeper column w v) → LaysBlock sample v.column next (v ∷ vs) → Lays sample column next (w ∷ v ∷ vs)
bullet-lays sample column w v vs next k d h =
    λ left. let a = h left in (
      suc a.0,
      λ budget room b r.
          let P : ℕ → Type 0 = λ n. (after : ℕ) × (x : Entry) × (left ≤ after) × IsItem sample 0 n column room after (w ∷ v ∷ vs) next x in
          with_room P a.0 budget (λ n l. let c = a.1 n room l (omega (arith, r)) in (c.0, focus (entries_of c.1), c.2, a_bullet n column room c.0 w v vs next c.1 k d c.3)) b,
    )

branch-lays : (sample : Bool) (column : ℕ) (w v : Word) (vs next : List Word) → kind_of sample w ≡ kind.Branch → IsTrue (stands_deeper column w v) → LaysBlock sample v.column next (v ∷ vs) → Lays sample column next (w ∷ v ∷ vs)
branch-lays sample column w v vs next k d h =
    λ left. let a = h left in (
      suc a.0,
      λ budget room b r.
          let P : ℕ → Type 0 = λ n. (after : ℕ) × (x : Entry) × (left ≤ after) × IsItem sample 0 n column room after (w ∷ v ∷ vs) next x in
          with_room P a.0 budget (λ n l. let c = a.1 n room l (omega (arith, r)) in (c.0, branch (entries_of c.1), c.2, a_branch n column room c.0 w v vs next c.1 k d c.3)) b,
    )

last-lays : (sample : Bool) (column : ℕ) (ws next : List Word) → Lays sample column next ws → EndsBlock column next → LaysBlock sample column next ws
last-lays sample column ws next h e =
    λ left. let a = h left in (a.0, λ budget room b r. let c = a.1 budget room b r in (c.0, c.1 ∷ [], c.2, last budget column room c.0 ws next c.1 c.3 e))

line-lays : (sample : Bool) (column : ℕ) (ws : List Word) (v : Word) (vs next : List Word) → Lays sample column (v ∷ vs ++ next) ws → BeginsItem column v → LaysBlock sample column next (v ∷ vs) → LaysBlock sample column next (ws ++ v ∷ vs)
line-lays sample column ws v vs next h n k =
    λ left. let b = k left in let a = h b.0 in (
      a.0 + b.0,
      λ budget room p q.
          let c = a.1 budget room (omega (arith, p)) (omega (arith, q)) in
          let d = b.1 budget c.0 (omega (arith, p)) c.2 in
          (d.0, c.1 ∷ d.1, d.2, line budget column room c.0 d.0 ws vs next v c.1 d.1 c.3 n d.3),
    )

semicolon-lays : (sample : Bool) (column : ℕ) (ws : List Word) (s v : Word) (vs next : List Word) → Lays sample column (s ∷ v ∷ vs ++ next) ws → Separates column s → IsFalse (v.first && nat_lt v.column column)
    → LaysBlock sample column next (v ∷ vs) → LaysBlock sample column next (ws ++ s ∷ v ∷ vs)
semicolon-lays sample column ws s v vs next h n f k =
    λ left. let b = k left in let a = h b.0 in (
      a.0 + b.0,
      λ budget room p q.
          let c = a.1 budget room (omega (arith, p)) (omega (arith, q)) in
          let d = b.1 budget c.0 (omega (arith, p)) c.2 in
          (d.0, c.1 ∷ d.1, d.2, semicolon budget column room c.0 d.0 ws vs next s v c.1 d.1 c.3 n f d.3),
    )

-- ---- what is laid out is so, too, with other tokens behind it

move-fine : (room end : ℕ) (w : Word) (ws : List Word) (m : Step) → move_at room end w ws ≡ Ok m → Fine (shape_reader w) ws
move-fine room end w ws m h =
    elim (room == 0) as (λ c. (if c then Err (TooMany w.at) else and_then (shape_at (head_of w.text) room end ws) (λ z. Ok ((let s : Step = record { at = w.at; head = w.text; shape = z } in s)))) ≡ Ok m → Fine (shape_reader w) ws) [
      | true ↦ λ g. absurd (clash (TooMany w.at) m g)
      | false ↦ λ g.
          let s = and_then_ok (shape_at (head_of w.text) room end ws) (λ z. Ok ((let s : Step = record { at = w.at; head = w.text; shape = z } in s))) m g in
          answer-ok (shape_reader w) end ws (shape_at (head_of w.text) room end ws) s.0 s.1 (shape_ends (head_of w.text) room end ws)
    ] h

mutual
  relay-item : {sample : Bool} {end budget column room left : ℕ} {ws next : List Word} {x : Entry} (other : List Word) → IsItem sample end budget column room left ws next x → Sits next other → Lays sample column other ws
  relay-item {sample = sample} {end = end} other (a_move budget column room w ws next m k g e is) s = move-lays sample column w ws other k g (line-sits column next other s e) (move-fine room (place end next) w ws m is)
  relay-item {sample = sample} {end = end} other (a_hint budget column room w ws next h k g e is) s =
      hint-lays sample column w ws other k g (line-sits column next other s e) (answer-ok (hint_reader w) (place end next) ws (hint_at w.at (place end next) ws) h is (hint_ends w.at room (place end next) ws))
  relay-item {sample = sample} other (a_bullet budget column room left w v vs next es k d b) s = bullet-lays sample column w v vs other k d (relay-block other b s)
  relay-item {sample = sample} other (a_branch budget column room left w v vs next es k d b) s = branch-lays sample column w v vs other k d (relay-block other b s)

  relay-block : {sample : Bool} {end budget column room left : ℕ} {ws next : List Word} {xs : List Entry} (other : List Word) → IsBlock sample end budget column room left ws next xs → Sits next other → LaysBlock sample column other ws
  relay-block {sample = sample} other (last budget column room left ws next x i e) s = last-lays sample column ws other (relay-item other i s) (block-sits column next other s e)
  relay-block {sample = sample} other (line budget column room between left ws vs next v x xs i n b) s = line-lays sample column ws v vs other (relay-item (v ∷ vs ++ other) i refl) n (relay-block other b s)
  relay-block {sample = sample} other (semicolon budget column room between left ws vs next p v x xs i n f b) s =
      semicolon-lays sample column ws p v vs other (relay-item (p ∷ v ∷ vs ++ other) i refl) n f (relay-block other b s)

-- ---- a move to go on with

abbrev rfl_word : ℕ → Word
rfl_word column = record { kind = token.Name; text = codes "rfl"; at = 0; column = column; first = false }

rfl-kind : (sample : Bool) (c : ℕ) → kind_of sample (rfl_word c) ≡ kind.Move
rfl-kind true c = refl
rfl-kind false c = refl

rfl-lays : (sample : Bool) (column c : ℕ) → Lays sample column [] (rfl_word c ∷ [])
rfl-lays sample column c = move-lays sample column (rfl_word c) [] [] (rfl-kind sample c) tt tt (λ n. (0, plain, λ room le. refl))

rfl-block : (sample : Bool) (column c : ℕ) → LaysBlock sample column [] (rfl_word c ∷ [])
rfl-block sample column c = last-lays sample column (rfl_word c ∷ []) [] (rfl-lays sample column c) tt

below-next : (n : ℕ) → nat_lt n (suc n) ≡ true
below-next n = grind (arith, nat_tests)

-- a bullet or a branch, and a move
deeper-word : (column : ℕ) (w : Word) → IsTrue (stands_deeper column w (rfl_word (suc w.column)))
deeper-word column w = ap (λ c. c && not (ends_line column (rfl_word (suc w.column)))) (below-next w.column)

-- ---- lines

inline-goes : (column : ℕ) (ws : List Word) → Inline ws → GoesOn column ws
inline-goes column [] h = tt
inline-goes column (w ∷ ws) h = (ap (λ c. c || ends_line column w) h.1 ∙ ap (λ c. c && nat_le w.column column) h.0, inline-goes column ws h.2)

goes-append : (column : ℕ) (ws more : List Word) → GoesOn column ws → Inline more → GoesOn column (ws ++ more)
goes-append column [] more g h = inline-goes column more h
goes-append column (w ∷ ws) more g h = (g.0, goes-append column ws more g.1 h)

-- the tokens behind a first one go on to an item, and to a block, of these tokens and others
abbrev Resumes : Bool → (column : ℕ) → Word → List Word → Type 0
Resumes sample column w fr = (more : List Word) × Lays sample column [] (w ∷ fr ++ more)

abbrev ResumesBlock : Bool → (column : ℕ) → (front fr : List Word) → Type 0
ResumesBlock sample column front fr = (more : List Word) × LaysBlock sample column [] ((front ++ fr) ++ more)

abbrev ItemAnswer : Bool → (column end : ℕ) → Word → List Word → ScriptFault → Type 0
ItemAnswer sample column end w ws e = At w.at e ⊎ Stands (Resumes sample column w) end ws e

abbrev BlockAnswer : Bool → (column end : ℕ) → Word → List Word → ScriptFault → Type 0
BlockAnswer sample column end w ws e = At w.at e ⊎ Stands (ResumesBlock sample column (w ∷ [])) end ws e

move-fault : (room end : ℕ) (w : Word) (ws : List Word) (e : ScriptFault) → move_at room end w ws ≡ Err e → At w.at e ⊎ Stands (Extends (shape_reader w)) end ws e
move-fault room end w ws e h =
    elim (room == 0) as (λ c. (if c then Err (TooMany w.at) else and_then (shape_at (head_of w.text) room end ws) (λ z. Ok ((let s : Step = record { at = w.at; head = w.text; shape = z } in s)))) ≡ Err e
    → At w.at e ⊎ Stands (Extends (shape_reader w)) end ws e) [
      | true ↦ λ g. inl (subst (At w.at) (fault-is {V = Step} (TooMany w.at) e g) refl)
      | false ↦ λ g.
          inr (answer-err (shape_reader w) end ws (shape_at (head_of w.text) room end ws) e
          (map-fault (shape_at (head_of w.text) room end ws) (λ z. (let s : Step = record { at = w.at; head = w.text; shape = z } in s)) e g) (shape_ends (head_of w.text) room end ws))
    ] h

-- within the line of an item
in-line : {M : Type 0} (sample : Bool) (column end : ℕ) (f : Reader M) (w : Word) (ws : List Word) (e : ScriptFault) → ((zs : List Word) → GoesOn column zs → Fine f zs → Lays sample column [] (w ∷ zs))
    → Stands (Extends f) (place end (drop (line_length column ws) ws)) (take (line_length column ws) ws) e → Stands (Resumes sample column w) end ws e
in-line sample column end f w ws e l h =
    let n = line_length column ws in
    let P : List Word → Type 0 = λ z. Stands (Resumes sample column w) end z e in
    subst P (take-append-drop n ws)
    (stands_line (Resumes sample column w) end (take n ws) (drop n ws) e
    (stands_map (λ fr. Extends f fr × GoesOn column fr) (Resumes sample column w) (place end (drop n ws)) (take n ws) e (λ fr c. (c.0.0, l (fr ++ c.0.0) (goes-append column fr c.0.0 c.1 c.0.1) c.0.2))
    (stands_goes (Extends f) column (place end (drop n ws)) (take n ws) e (goes column ws) h)))

move-stands : (sample : Bool) (column end room : ℕ) (w : Word) (ws : List Word) (e : ScriptFault) → kind_of sample w ≡ kind.Move → line_at false column end room w ws ≡ Err e → ItemAnswer sample column end w ws e
move-stands sample column end room w ws e k h =
    let n = line_length column ws in
    elim (move-fault room (place end (drop n ws)) w (take n ws) e (map-fault {W = Entry × ℕ × List Word} (move_at room (place end (drop n ws)) w (take n ws)) (λ m. (move m, room - steps_of m.shape, drop n ws)) e h)) as (λ z. ItemAnswer sample column end w ws e) [
      | inl a ↦ inl a
      | inr s ↦ inr (in-line sample column end (shape_reader w) w ws e (λ zs g f. move-lays sample column w zs [] k g tt f) s)
    ]

hint-stands : (sample : Bool) (column end room : ℕ) (w : Word) (ws : List Word) (e : ScriptFault) → kind_of sample w ≡ kind.Hint → line_at true column end room w ws ≡ Err e → ItemAnswer sample column end w ws e
hint-stands sample column end room w ws e k h =
    let n = line_length column ws in
    let is = map-fault {W = Entry × ℕ × List Word} (hint_at w.at (place end (drop n ws)) (take n ws)) (λ m. (hint m, room, drop n ws)) e h in
    inr (in-line sample column end (hint_reader w) w ws e (λ zs g f. hint-lays sample column w zs [] k g tt f)
    (answer-err (hint_reader w) (place end (drop n ws)) (take n ws) (hint_at w.at (place end (drop n ws)) (take n ws)) e is (hint_ends w.at room (place end (drop n ws)) (take n ws))))

-- ---- blocks deeper in

abbrev Deeper : Bool → ℕ → (ℕ → List Word → ReadEntries) → Type 0
Deeper sample end inner = (room : ℕ) (v : Word) (vs : List Word) (e : ScriptFault) → inner room (v ∷ vs) ≡ Err e → BlockAnswer sample v.column end v vs e

-- a block behind this word makes an item
abbrev Nests : Bool → (column : ℕ) → Word → Type 0
Nests sample column w = (v : Word) (vs : List Word) → IsTrue (stands_deeper column w v) → LaysBlock sample v.column [] (v ∷ vs) → Lays sample column [] (w ∷ v ∷ vs)

nest-begin : (sample : Bool) (column : ℕ) (w : Word) → Nests sample column w → Resumes sample column w []
nest-begin sample column w n = (rfl_word (suc w.column) ∷ [], n (rfl_word (suc w.column)) [] (deeper-word column w) (rfl-block sample (suc w.column) (suc w.column)))

nest-from : (sample : Bool) (column end : ℕ) (w v : Word) (vs : List Word) (e : ScriptFault) → Nests sample column w → IsTrue (stands_deeper column w v) → BlockAnswer sample v.column end v vs e → Stands (Resumes sample column w) end (v ∷ vs) e
nest-from sample column end w v vs e n d (inl h) = inl (h, nest-begin sample column w n)
nest-from sample column end w v vs e n d (inr h) =
    inr (stands_map (ResumesBlock sample v.column (v ∷ [])) (λ fr. Resumes sample column w (v ∷ fr)) end vs e (λ fr c. (c.0, n v (fr ++ c.0) d c.1)) h)

nested : (sample : Bool) (column end room : ℕ) (inner : ℕ → List Word → ReadEntries) (w : Word) (ws : List Word) (e : ScriptFault) → Nests sample column w → Deeper sample end inner → inner_at inner column end room w ws ≡ Err e
    → Stands (Resumes sample column w) end ws e
nested sample column end room inner w [] e n all h =
    let P : ScriptFault → Type 0 = Stands (Resumes sample column w) end [] in
    subst P (fault-is {V = List Entry × ℕ × List Word} (Expected end wanted.Block) e h) (refl, nest-begin sample column w n)
nested sample column end room inner w (v ∷ vs) e n all h =
    elim (stands_deeper column w v) as (λ c. stands_deeper column w v ≡ c → (if c then inner room (v ∷ vs) else Err (Expected v.at wanted.Block)) ≡ Err e → Stands (Resumes sample column w) end (v ∷ vs) e) [
      | true ↦ λ d g. nest-from sample column end w v vs e n d (all room v vs e g)
      | false ↦ λ d g.
          let P : ScriptFault → Type 0 = Stands (Resumes sample column w) end (v ∷ vs) in
          subst P (fault-is {V = List Entry × ℕ × List Word} (Expected v.at wanted.Block) e g) (inl (refl, nest-begin sample column w n))
    ] refl h

-- ---- items

kind-stands : (sample : Bool) (column end room : ℕ) (inner : ℕ → List Word → ReadEntries) (w : Word) (ws : List Word) (e : ScriptFault) (k : Kind) → Deeper sample end inner → kind_of sample w ≡ k → by_kind inner column end room w ws k ≡ Err e
    → ItemAnswer sample column end w ws e
kind-stands sample column end room inner w ws e kind.Move all k h = move-stands sample column end room w ws e k h
kind-stands sample column end room inner w ws e kind.Hint all k h = hint-stands sample column end room w ws e k h
kind-stands sample column end room inner w ws e kind.NoItem all k h = inl (subst (At w.at) (fault-is {V = Entry × ℕ × List Word} (Expected w.at wanted.Item) e h) refl)
kind-stands sample column end room inner w ws e kind.Focus all k h =
    inr (nested sample column end room inner w ws e (λ v vs d b. bullet-lays sample column w v vs [] k d b) all (map-fault {W = Entry × ℕ × List Word} (inner_at inner column end room w ws) (λ b. (focus (entries_of b.0), b.1, b.2)) e h))
kind-stands sample column end room inner w ws e kind.Branch all k h =
    inr (nested sample column end room inner w ws e (λ v vs d b. branch-lays sample column w v vs [] k d b) all (map-fault {W = Entry × ℕ × List Word} (inner_at inner column end room w ws) (λ b. (branch (entries_of b.0), b.1, b.2)) e h))

-- ---- what follows an item

-- the item that is read, with nothing behind it
alone : (sample : Bool) (end budget column room left : ℕ) (front rest : List Word) (x : Entry) → IsItem sample end budget column room left front rest x → ResumesBlock sample column front []
alone sample end budget column room left front rest x i =
    let P : List Word → Type 0 = LaysBlock sample column [] in
    ([], subst P (sym (append-nil (front ++ []) ∙ append-nil front)) (last-lays sample column front [] (relay-item [] i tt) tt))

-- it, a semicolon, and a move
semicolon-begin : (sample : Bool) (end budget column room left : ℕ) (front rs : List Word) (r : Word) (x : Entry) → IsItem sample end budget column room left front (r ∷ rs) x → Separates column r → ResumesBlock sample column front (r ∷ [])
semicolon-begin sample end budget column room left front rs r x i n =
    let P : List Word → Type 0 = LaysBlock sample column [] in (
      rfl_word 0 ∷ [],
      subst P (sym (append_assoc front (r ∷ []) (rfl_word 0 ∷ [])))
          (semicolon-lays sample column front r (rfl_word 0) [] [] (relay-item (r ∷ rfl_word 0 ∷ []) i refl) n refl (rfl-block sample column 0)),
    )

line-from : (sample : Bool) (end budget column room left : ℕ) (front rs : List Word) (r : Word) (x : Entry) (e : ScriptFault) → IsItem sample end budget column room left front (r ∷ rs) x → BeginsItem column r → BlockAnswer sample column end r rs e
    → Stands (ResumesBlock sample column front) end (r ∷ rs) e
line-from sample end budget column room left front rs r x e i n (inl h) = inl (h, alone sample end budget column room left front (r ∷ rs) x i)
line-from sample end budget column room left front rs r x e i n (inr h) =
    let P : List Word → Type 0 = LaysBlock sample column [] in
    inr (stands_map (ResumesBlock sample column (r ∷ [])) (λ fr. ResumesBlock sample column front (r ∷ fr)) end rs e
    (λ fr c. (c.0, subst P (sym (append_assoc front (r ∷ fr) c.0)) (line-lays sample column front r (fr ++ c.0) [] (relay-item (r ∷ (fr ++ c.0) ++ []) i refl) n c.1))) h)

semicolon-from : (sample : Bool) (end budget column room left : ℕ) (front vs : List Word) (r v : Word) (x : Entry) (e : ScriptFault) → IsItem sample end budget column room left front (r ∷ v ∷ vs) x → Separates column r
    → IsFalse (v.first && nat_lt v.column column) → BlockAnswer sample column end v vs e → Stands (ResumesBlock sample column front) end (r ∷ v ∷ vs) e
semicolon-from sample end budget column room left front vs r v x e i n f (inl h) = inr (inl (h, semicolon-begin sample end budget column room left front (v ∷ vs) r x i n))
semicolon-from sample end budget column room left front vs r v x e i n f (inr h) =
    let P : List Word → Type 0 = LaysBlock sample column [] in
    inr (inr (stands_map (ResumesBlock sample column (v ∷ [])) (λ fr. ResumesBlock sample column front (r ∷ v ∷ fr)) end vs e
    (λ fr c. (c.0, subst P (sym (append_assoc front (r ∷ v ∷ fr) c.0)) (semicolon-lays sample column front r v (fr ++ c.0) [] (relay-item (r ∷ v ∷ (fr ++ c.0) ++ []) i refl) n f c.1))) h))

entry-fault : (x : Entry) (r : ReadEntries) (e : ScriptFault) → with_entry x r ≡ Err e → r ≡ Err e
entry-fault x (Ok p) e h = let q : List Entry × ℕ × List Word = (x ∷ p.0, p.1, p.2) in absurd (not-ok q e h)
entry-fault x (Err f) e h = let k : ScriptFault → ReadEntries = λ z. Err z in ap k (fault-is {V = List Entry × ℕ × List Word} f e h)

abbrev Rest : Bool → (column end : ℕ) → (k : ℕ) → (List Word → ReadEntries) → Type 0
Rest sample column end k more = (v : Word) (vs : List Word) (e : ScriptFault) → length (v ∷ vs) ≤ k → more (v ∷ vs) ≡ Err e → BlockAnswer sample column end v vs e

err-at : (P : ScriptFault → Type 0) (x e : ScriptFault) → (let r : ReadEntries = Err x in r) ≡ Err e → P x → P e
err-at P x e h p = subst P (fault-is {V = List Entry × ℕ × List Word} x e h) p

after-stands : (sample : Bool) (end budget column room left : ℕ) (front rs : List Word) (r : Word) (x : Entry) (e : ScriptFault) (k : ℕ) (more : List Word → ReadEntries) → IsItem sample end budget column room left front (r ∷ rs) x → Separates column r
    → length rs ≤ k → Rest sample column end k more → entries_after x left (r ∷ rs) more (after_semicolon column end rs) ≡ Err e → Stands (ResumesBlock sample column front) end (r ∷ rs) e
after-stands sample end budget column room left front [] r x e k more i n le rec h =
    err-at (Stands (ResumesBlock sample column front) end (r ∷ [])) (Expected end wanted.Item) e h (inr (refl, semicolon-begin sample end budget column room left front [] r x i n))
after-stands sample end budget column room left front (v ∷ vs) r x e k more i n le rec h =
    elim (v.first && nat_lt v.column column) as (λ c. (v.first && nat_lt v.column column) ≡ c → entries_after x left (r ∷ v ∷ vs) more (if c then Err (Expected v.at wanted.Item) else Ok (Some (v ∷ vs))) ≡ Err e
    → Stands (ResumesBlock sample column front) end (r ∷ v ∷ vs) e) [
      | true ↦ λ f g. err-at (Stands (ResumesBlock sample column front) end (r ∷ v ∷ vs)) (Expected v.at wanted.Item) e g (inr (inl (refl, semicolon-begin sample end budget column room left front (v ∷ vs) r x i n)))
      | false ↦ λ f g. semicolon-from sample end budget column room left front vs r v x e i n f (rec v vs e le (entry-fault x (more (v ∷ vs)) e g))
    ] refl h

next-stands : (sample : Bool) (end budget column room left : ℕ) (front rest : List Word) (x : Entry) (e : ScriptFault) (k : ℕ) (more : List Word → ReadEntries) → IsItem sample end budget column room left front rest x
    → length rest ≤ k → Rest sample column end k more → entries_after x left rest more (next_at column end rest) ≡ Err e → Stands (ResumesBlock sample column front) end rest e
next-stands sample end budget column room left front [] x e k more i le rec h = let q : List Entry × ℕ × List Word = (x ∷ [], left, []) in absurd (not-ok q e h)
next-stands sample end budget column room left front (r ∷ rs) x e k more i le rec h =
    elim (r.first && nat_lt r.column column) as (λ c. (r.first && nat_lt r.column column) ≡ c → entries_after x left (r ∷ rs) more
    (if c then Ok None else (if r.first && (r.column == column) then Ok (Some (r ∷ rs)) else (if is_semicolon r then after_semicolon column end rs else Err (Expected r.at wanted.EndOfItem)))) ≡ Err e → Stands (ResumesBlock sample column front) end (r ∷ rs) e) [
      | true ↦ λ a g. (let q : List Entry × ℕ × List Word = (x ∷ [], left, r ∷ rs) in absurd (not-ok q e g))
      | false ↦ λ a g. elim (r.first && (r.column == column)) as (λ c. (r.first && (r.column == column)) ≡ c → entries_after x left (r ∷ rs) more
          (if c then Ok (Some (r ∷ rs)) else (if is_semicolon r then after_semicolon column end rs else Err (Expected r.at wanted.EndOfItem))) ≡ Err e → Stands (ResumesBlock sample column front) end (r ∷ rs) e) [
            | true ↦ λ b m. line-from sample end budget column room left front rs r x e i (a, b) (rec r rs e le (entry-fault x (more (r ∷ rs)) e m))
            | false ↦ λ b m. elim (is_semicolon r) as (λ c. is_semicolon r ≡ c → entries_after x left (r ∷ rs) more
                (if c then after_semicolon column end rs else Err (Expected r.at wanted.EndOfItem)) ≡ Err e → Stands (ResumesBlock sample column front) end (r ∷ rs) e) [
                  | true ↦ λ s z. after-stands sample end budget column room left front rs r x e k more i (a, b, s) (omega (arith, le)) rec z
                  | false ↦ λ s z. err-at (Stands (ResumesBlock sample column front) end (r ∷ rs)) (Expected r.at wanted.EndOfItem) e z (inl (refl, alone sample end budget column room left front (r ∷ rs) x i))
                ] refl m
          ] refl g
    ] refl h

-- ---- the items of a block

block-of : (sample : Bool) (column end : ℕ) (w : Word) (ws : List Word) (e : ScriptFault) → ItemAnswer sample column end w ws e → BlockAnswer sample column end w ws e
block-of sample column end w ws e (inl h) = inl h
block-of sample column end w ws e (inr h) =
    inr (stands_map (Resumes sample column w) (ResumesBlock sample column (w ∷ [])) end ws e (λ fr c. (c.0, last-lays sample column (w ∷ fr ++ c.0) [] c.1 tt)) h)

head-of-front : (v f : Word) (vs fs rest : List Word) → v ∷ vs ≡ (f ∷ fs) ++ rest → f ≡ v
head-of-front v f vs fs rest h = cc

tail-of-front : (v f : Word) (vs fs rest : List Word) → v ∷ vs ≡ (f ∷ fs) ++ rest → fs ++ rest ≡ vs
tail-of-front v f vs fs rest h = cc

behind-front : (sample : Bool) (column end : ℕ) (v : Word) (vs front rest : List Word) (e : ScriptFault) → v ∷ vs ≡ front ++ rest → 0 < length front → Stands (ResumesBlock sample column front) end rest e → BlockAnswer sample column end v vs e
behind-front sample column end v vs [] rest e whole some h = absurd (omega (arith, some))
behind-front sample column end v vs (f ∷ fs) rest e whole some h =
    let P : Word → Type 0 = λ z. Stands (ResumesBlock sample column (z ∷ [])) end (fs ++ rest) e in
    let Q : List Word → Type 0 = λ z. Stands (ResumesBlock sample column (v ∷ [])) end z e in
    inr (subst Q (tail-of-front v f vs fs rest whole) (subst P (head-of-front v f vs fs rest whole) (stands_behind (ResumesBlock sample column (f ∷ [])) end fs rest e h)))

one-stands : (sample : Bool) (end budget column room turns : ℕ) (v : Word) (vs : List Word) (e : ScriptFault) (r : Read (Entry × ℕ × List Word)) → Deeper sample end (block_at budget sample end) → length vs ≤ turns
    → ((room : ℕ) (u : Word) (us : List Word) (e : ScriptFault) → length (u ∷ us) ≤ turns → entries_at (block_at budget sample end) sample column end turns room (u ∷ us) ≡ Err e → BlockAnswer sample column end u us e)
    → entry_at (block_at budget sample end) sample column end room (v ∷ vs) ≡ r
    → and_then r (λ x. entries_after x.0 x.1 x.2 (λ next. entries_at (block_at budget sample end) sample column end turns x.1 next) (next_at column end x.2)) ≡ Err e → BlockAnswer sample column end v vs e
one-stands sample end budget column room turns v vs e (Err f) all le rec is h =
    block-of sample column end v vs e (kind-stands sample column end room (block_at budget sample end) v vs e (kind_of sample v) all refl
    (is ∙ (let k : ScriptFault → Read (Entry × ℕ × List Word) = λ z. Err z in ap k (fault-is {V = List Entry × ℕ × List Word} f e h))))
one-stands sample end budget column room turns v vs e (Ok p) all le rec is h =
    let l = item-laid sample end budget column room (block_at budget sample end) (v ∷ vs) p (insides sample end budget) is in
    behind-front sample column end v vs l.0 p.2 e l.1 (item_some l.2)
    (next-stands sample end budget column room p.1 l.0 p.2 p.0 e turns (λ next. entries_at (block_at budget sample end) sample column end turns p.1 next) l.2
    (omega (arith, le, item_some l.2, ap length l.1, length-append l.0 p.2)) (λ u us f s g. rec p.1 u us f s g) h)

entries-stand : (sample : Bool) (end budget column turns room : ℕ) (v : Word) (vs : List Word) (e : ScriptFault) → Deeper sample end (block_at budget sample end) → length (v ∷ vs) ≤ turns
    → entries_at (block_at budget sample end) sample column end turns room (v ∷ vs) ≡ Err e → BlockAnswer sample column end v vs e
entries-stand sample end budget column zero room v vs e all le h = absurd (omega (arith, le))
entries-stand sample end budget column (suc turns) room v vs e all le h =
    one-stands sample end budget column room turns v vs e (entry_at (block_at budget sample end) sample column end room (v ∷ vs)) all (omega (arith, le))
    (λ r u us f s g. entries-stand sample end budget column turns r u us f all s g) refl h

abbrev deep_kind : Kind → (room at : ℕ) → ScriptFault
deep_kind k room at = elim k [
  | kind.NoItem ↦ Expected at wanted.Item
  | kind.Move ↦ if room == 0 then TooMany at else Deep at
  | _ ↦ Deep at
]

deep-at : (k : Kind) (room at : ℕ) → At at (deep_kind k room at)
deep-at kind.NoItem room at = refl
deep-at kind.Move room at = elim (room == 0) as (λ c. At at (if c then TooMany at else Deep at)) [ true ↦ refl | false ↦ refl ]
deep-at k room at = refl

shut : (sample : Bool) (end room : ℕ) (ws : List Word) → block_at 0 sample end room ws ≡ Err (too_deep sample end room ws)
unfolding block_at
shut sample end room ws = refl

block-stands : (sample : Bool) (end budget : ℕ) → Deeper sample end (block_at budget sample end)
block-stands sample end zero room v vs e h =
    let f = fault-is {V = List Entry × ℕ × List Word} (deep_kind (kind_of sample v) room v.at) e (sym (shut sample end room (v ∷ vs)) ∙ h) in inl (subst (At v.at) f (deep-at (kind_of sample v) room v.at))
block-stands sample end (suc budget) room v vs e h =
    entries-stand sample end budget v.column (length (v ∷ vs)) room v vs e (block-stands sample end budget) (omega arith) (sym (block-open budget sample end room v vs) ∙ h)

-- ---- scripts

long-of : (sample : Bool) (w : Word) (ws : List Word) → LaysBlock sample w.column [] (w ∷ ws) → (es : List Entry) × IsLongScript sample 0 (w ∷ ws) es
long-of sample w ws h = let a = h 0 in let b = a.1 a.0 a.0 (omega arith) (omega arith) in (b.1, one_block a.0 a.0 b.0 w ws b.1 b.3)

begins-by : (sample : Bool) (w : Word) (fr : List Word) → ResumesBlock sample w.column (w ∷ []) fr → BeginsScript sample (w ∷ fr)
begins-by sample w fr c = let l = long-of sample w (fr ++ c.0) c.1 in (c.0, 0, l.0, l.1)

from-block : (sample : Bool) (end : ℕ) (w : Word) (ws : List Word) (e : ScriptFault) → BlockAnswer sample w.column end w ws e → Stands (BeginsScript sample) end (w ∷ ws) e
from-block sample end w ws e (inl h) = inl (h, ([], 0, [], nothing))
from-block sample end w ws e (inr h) = inr (stands_map (ResumesBlock sample w.column (w ∷ [])) (λ fr. BeginsScript sample (w ∷ fr)) end ws e (λ fr c. begins-by sample w fr c) h)

ended-stands : (sample : Bool) (end : ℕ) (w : Word) (more rest : List Word) (es : List Entry) (e : ScriptFault) → LaysBlock sample w.column [] (w ∷ more) → ended es rest ≡ Err e → Stands (BeginsScript sample) end (w ∷ more ++ rest) e
ended-stands sample end w more [] es e b h = absurd (not-ok es e h)
ended-stands sample end w more (r ∷ rs) es e b h =
    let P : ScriptFault → Type 0 = Stands (BeginsScript sample) end (w ∷ more ++ r ∷ rs) in
    let Q : List Word → Type 0 = LaysBlock sample w.column [] in
    let l = long-of sample w ((more ++ []) ++ []) (subst Q (ap (λ z. w ∷ z) (sym (append-nil (more ++ []) ∙ append-nil more))) b) in
    subst P (fault-is {V = List Entry} (Expected r.at wanted.EndOfItem) e h) (stands_behind (BeginsScript sample) end (w ∷ more) (r ∷ rs) (Expected r.at wanted.EndOfItem) (inl (refl, ([], 0, l.0, l.1))))

script-by : (sample : Bool) (end : ℕ) (w : Word) (ws : List Word) (e : ScriptFault) (r : ReadEntries) → block_at 16 sample end 200 (w ∷ ws) ≡ r → and_then r (λ b. ended b.0 b.2) ≡ Err e → Stands (BeginsScript sample) end (w ∷ ws) e
script-by sample end w ws e (Err f) is h =
    from-block sample end w ws e (block-stands sample end 16 200 w ws e (is ∙ (let k : ScriptFault → ReadEntries = λ z. Err z in ap k (fault-is {V = List Entry} f e h))))
script-by sample end w ws e (Ok p) is h =
    let i = insides sample end 16 200 w ws p is in
    let P : List Word → Type 0 = λ z. Stands (BeginsScript sample) end (w ∷ z) e in
    subst P (sym i.whole) (ended-stands sample end w i.more p.2 p.0 e (relay-block [] i.inner tt) h)

-- the tokens before a fault begin a script
pub begun_before : (sample : Bool) (end : ℕ) (ws : List Word) (e : ScriptFault) → entries_of_tokens ws end sample ≡ Err e → Stands (BeginsScript sample) end ws e
begun_before sample end [] e h = let es : List Entry = [] in absurd (not-ok es e (sym (script-empty sample end) ∙ h))
begun_before sample end (w ∷ ws) e h = script-by sample end w ws e (block_at 16 sample end 200 (w ∷ ws)) refl (sym (script-open sample end w ws) ∙ h)
