-- Two lists of tokens that begin alike fall into blocks alike. So a fault depends on the tokens up to its place alone.
use Rattle.std.proofs.Common.{◌≡◌, ◌∙◌, ℕ, zero, suc, ◌+◌, ◌-◌, ◌<◌, ◌≤◌, Bool, true, false, ◌&&◌, ◌||◌, List, [], ◌∷◌, ◌++◌, length, take, drop, refl, sym, ap, subst, arith, length-append, Some, None, Ok, Err, if◌then◌else◌, ◌==◌, nat_lt}
use Rattle.pg_base.specs.declared.token.Wanted.TheVariants as wanted
use Rattle.pg_base.specs.Tokens.{Word}
use Rattle.pg_script.specs.declared.fault.ScriptFault.{ScriptFault}
use Rattle.pg_script.specs.declared.fault.ScriptFault.TheVariants.{Expected, TooMany, Deep}
use Rattle.pg_script.specs.declared.block.Kind.{Kind}
use Rattle.pg_script.specs.declared.block.Kind.TheVariants as kind
use Rattle.pg_script.specs.Data.{Entry, move, focus, branch, hint, entries_of, Step}
use Rattle.pg_script.specs.Marks.{place}
use Rattle.pg_script.specs.Lines.{Read, and_then, ended, head_of, shape_at, hint_at}
use Rattle.pg_script.specs.Blocks.{ReadEntries, ends_line, is_semicolon, line_length, kind_of, move_at, steps_of, stands_deeper, inner_at, line_at, entry_at, after_semicolon, next_at, with_entry, entries_after, entries_at, too_deep, block_at}
use Rattle.pg_script.specs.Scripts.{entries_of_tokens}
use Rattle.pg_script.proofs.Laid.{item_some, by_kind, block-open, script-open, script-empty}
use Rattle.pg_script.proofs.Found.{item-laid, insides}
use Rattle.pg_script.proofs.Alike.{Along, AtToken, AtEnd, Two, apart, along_append, along_place, all_past, Passes, Stops, passed, faulty, stops-one, stops_map, stops_moved}
use Rattle.pg_script.proofs.Counts.{Cut, cut}
use Rattle.pg_script.proofs.Forms.{shape_final, hint_final}

-- ---- readers of items and blocks

abbrev Leaves : {V : Type 0} → (ScriptFault → Type 0) → Read (V × ℕ × List Word) → Type 0
Leaves P (Ok p) = Along P p.2
Leaves P (Err e) = P e

data Alike (t : Two) {V : Type 0} (r s : Read (V × ℕ × List Word)) : Type 0 where
  past : Leaves t.Past r → Alike t r s
  wrong : (e : ScriptFault) → r ≡ Err e → s ≡ Err e → t.Front e → Alike t r s
  kept : (x : V) (room : ℕ) (f : Word) (fs : List Word) → r ≡ Ok (x, room, f ∷ fs ++ t.back) → s ≡ Ok (x, room, f ∷ fs ++ t.other) → Along t.Front (f ∷ fs) → Alike t r s

abbrev Local : {V : Type 0} → (ℕ → List Word → Read (V × ℕ × List Word)) → Type 1
Local f = (t : Two) (front : List Word) → Along t.Front front → Alike t (f t.end (front ++ t.back)) (f t.other_end (front ++ t.other))

abbrev Begins : {V : Type 0} → (ℕ → List Word → Read (V × ℕ × List Word)) → Type 1
Begins f = (t : Two) (w : Word) (fs : List Word) → AtToken t.Front w.at → Along t.Front fs → Alike t (f t.end (w ∷ fs ++ t.back)) (f t.other_end (w ∷ fs ++ t.other))

moved : {V : Type 0} (t : Two) (r r' s s' : Read (V × ℕ × List Word)) → r ≡ r' → s ≡ s' → Alike t r' s' → Alike t r s
moved t r r' s s' e g a = subst (λ x. Alike t x s) (sym e) (subst (λ y. Alike t r' y) (sym g) a)

from-apart : {V : Type 0} (P : ScriptFault → Type 0) (end : ℕ) (ws : List Word) (a : Along P ws) (e : AtEnd P end) (r s : Read (V × ℕ × List Word)) → Alike (apart P end ws a e) r s → Leaves P r
from-apart P end ws a e r s (past h) = h
from-apart P end ws a e r s (wrong fault one two at) = absurd at
from-apart P end ws a e r s (kept x room f fs one two along) = absurd along.0.1

leaves : {V : Type 0} (f : ℕ → List Word → Read (V × ℕ × List Word)) → Local f → (P : ScriptFault → Type 0) (end : ℕ) (ws : List Word) → Along P ws → AtEnd P end → Leaves P (f end ws)
leaves f l P end ws a e = from-apart P end ws a e (f end ws) (f end ws) (l (apart P end ws a e) [] tt)

at-one : {V : Type 0} (P : ScriptFault → Type 0) (end : ℕ) (ws : List Word) (a : Along P ws) (e : AtEnd P end) (r s : Read (V × ℕ × List Word)) → Alike (all_past P end ws a e) r s → Leaves P r
at-one P end ws a e r s (past h) = h
at-one {V = V} P end ws a e r s (wrong fault one two at) = subst (λ (z : Read (V × ℕ × List Word)). Leaves P z) (sym one) at
at-one {V = V} P end ws a e r s (kept x room f fs one two along) = subst (λ (z : Read (V × ℕ × List Word)). Leaves P z) (sym one) (along_append P (f ∷ fs) ws along a)

by-token-past : {V : Type 0} (f : ℕ → List Word → Read (V × ℕ × List Word)) → ((P : ScriptFault → Type 0) (end : ℕ) → AtEnd P end → Leaves P (f end [])) → Begins f → (P : ScriptFault → Type 0) (end : ℕ) (ws : List Word) → Along P ws → AtEnd P end → Leaves P (f end ws)
by-token-past f none some P end [] a e = none P end e
by-token-past f none some P end (w ∷ ws) a e = at-one P end ws a.1 e (f end (w ∷ ws)) (f end (w ∷ ws)) (some (all_past P end ws a.1 e) w [] a.0 tt)

by-token : {V : Type 0} (f : ℕ → List Word → Read (V × ℕ × List Word)) → ((P : ScriptFault → Type 0) (end : ℕ) → AtEnd P end → Leaves P (f end [])) → Begins f → Local f
by-token f none some t (w ∷ fs) along = some t w fs along.0 along.1
by-token f none some t [] along = past (by-token-past f none some t.Past t.end t.back t.along t.stands)

map-leaves : {V W : Type 0} (P : ScriptFault → Type 0) (k : V → W) (r : Read (V × ℕ × List Word)) → Leaves P r → Leaves P (and_then r (λ b. Ok (k b.0, b.1, b.2)))
map-leaves P k (Ok p) h = h
map-leaves P k (Err e) h = h

map-alike : {V W : Type 0} (t : Two) (k : V → W) (r s : Read (V × ℕ × List Word)) → Alike t r s → Alike t (and_then r (λ b. Ok (k b.0, b.1, b.2))) (and_then s (λ b. Ok (k b.0, b.1, b.2)))
map-alike t k r s (past h) = past (map-leaves t.Past k r h)
map-alike t k r s (wrong e one two at) = wrong e (ap (λ z. and_then z (λ b. Ok (k b.0, b.1, b.2))) one) (ap (λ z. and_then z (λ b. Ok (k b.0, b.1, b.2))) two) at
map-alike t k r s (kept x room f fs one two along) =
    kept (k x) room f fs (ap (λ z. and_then z (λ b. Ok (k b.0, b.1, b.2))) one) (ap (λ z. and_then z (λ b. Ok (k b.0, b.1, b.2))) two) along

-- ---- a line

-- the line ends within these tokens, whatever follows them; or it goes on behind them
data LineEnd (column k : ℕ) (len : List Word → ℕ) : Type 0 where
  here : (n : ℕ) → n < k → ((xs : List Word) → len xs ≡ n) → LineEnd column k len
  later : ((xs : List Word) → len xs ≡ k + line_length column xs) → LineEnd column k len

longer : (column k : ℕ) (len : List Word → ℕ) → LineEnd column k len → LineEnd column (suc k) (λ xs. suc (len xs))
longer column k len (here n lt is) = here (suc n) (omega (arith, lt)) (λ xs. ap suc (is xs))
longer column k len (later is) = later (λ xs. omega (arith, is xs))

line-end : (column : ℕ) (fs : List Word) → LineEnd column (length fs) (λ xs. line_length column (fs ++ xs))
line-end column [] = later (λ xs. omega arith)
line-end column (f ∷ fs) = elim (is_semicolon f || ends_line column f) as (λ c. LineEnd column (suc (length fs)) (λ xs. if c then 0 else suc (line_length column (fs ++ xs)))) [
  | true ↦ here 0 (omega arith) (λ xs. refl)
  | false ↦ longer column (length fs) (λ xs. line_length column (fs ++ xs)) (line-end column fs)
]

take-over : (fs xs : List Word) (m : ℕ) → take (length fs + m) (fs ++ xs) ≡ fs ++ take m xs
take-over [] xs m = let e : 0 + m ≡ m = omega arith in ap (λ k. take k xs) e
take-over (f ∷ fs) xs m = let e : suc (length fs) + m ≡ suc (length fs + m) = omega arith in ap (λ k. take k (f ∷ fs ++ xs)) e ∙ ap (λ ys. f ∷ ys) (take-over fs xs m)

drop-over : (fs xs : List Word) (m : ℕ) → drop (length fs + m) (fs ++ xs) ≡ drop m xs
drop-over [] xs m = let e : 0 + m ≡ m = omega arith in ap (λ k. drop k xs) e
drop-over (f ∷ fs) xs m = let e : suc (length fs) + m ≡ suc (length fs + m) = omega arith in ap (λ k. drop k (f ∷ fs ++ xs)) e ∙ drop-over fs xs m

along-take : (P : ScriptFault → Type 0) (n : ℕ) (ws : List Word) → Along P ws → Along P (take n ws)
along-take P zero ws a = tt
along-take P (suc n) [] a = tt
along-take P (suc n) (w ∷ ws) a = (a.0, along-take P n ws a.1)

along-drop : (P : ScriptFault → Type 0) (n : ℕ) (ws : List Word) → Along P ws → Along P (drop n ws)
along-drop P zero ws a = a
along-drop P (suc n) [] a = tt
along-drop P (suc n) (w ∷ ws) a = along-drop P n ws a.1

-- a reader of the tokens behind a word, which may find the word itself at fault
abbrev FinalAt : {M : Type 0} → Word → (ℕ → List Word → Read M) → Type 1
FinalAt w f = (t : Two) (front : List Word) → AtToken t.Front w.at → Along t.Front front → Stops t (f t.end (front ++ t.back)) (f t.other_end (front ++ t.other))

-- what reads a line of so many tokens
abbrev line_read : {M : Type 0} → (ℕ → List Word → Read M) → (M → Entry) → (M → ℕ) → (end n : ℕ) → List Word → Read (Entry × ℕ × List Word)
line_read f e r end n ws = and_then (f (place end (drop n ws)) (take n ws)) (λ m. Ok (e m, r m, drop n ws))

-- a line, what is behind it, and where it ends
abbrev line_parts : {M : Type 0} → (ℕ → List Word → Read M) → (M → Entry) → (M → ℕ) → (end : ℕ) → (ws rest : List Word) → Read (Entry × ℕ × List Word)
line_parts f e r end ws rest = and_then (f end ws) (λ m. Ok (e m, r m, rest))

within-is : {M : Type 0} (f : ℕ → List Word → Read M) (e : M → Entry) (r : M → ℕ) (end column n : ℕ) (fs xs : List Word) (Front : ScriptFault → Type 0) (c : Cut Front fs n) → line_length column (fs ++ xs) ≡ n
    → line_read f e r end (line_length column (fs ++ xs)) (fs ++ xs) ≡ line_parts f e r c.head.at (take n fs) (c.head ∷ c.tail ++ xs)
within-is f e r end column n fs xs Front c is =
    ap (λ k. line_read f e r end k (fs ++ xs)) is
    ∙ ap (λ ys. line_parts f e r (place end (drop n (fs ++ xs))) ys (drop n (fs ++ xs))) (c.taken xs)
    ∙ ap (λ ys. line_parts f e r (place end ys) (take n fs) ys) (c.left xs)

over-is : {M : Type 0} (f : ℕ → List Word → Read M) (e : M → Entry) (r : M → ℕ) (end column : ℕ) (fs xs : List Word) → line_length column (fs ++ xs) ≡ length fs + line_length column xs
    → line_read f e r end (line_length column (fs ++ xs)) (fs ++ xs)
    ≡ line_parts f e r (place end (drop (line_length column xs) xs)) (fs ++ take (line_length column xs) xs) (drop (line_length column xs) xs)
over-is f e r end column fs xs is =
    ap (λ k. line_read f e r end k (fs ++ xs)) is
    ∙ ap (λ ys. line_parts f e r (place end (drop (length fs + line_length column xs) (fs ++ xs))) ys (drop (length fs + line_length column xs) (fs ++ xs))) (take-over fs xs (line_length column xs))
    ∙ ap (λ ys. line_parts f e r (place end ys) (fs ++ take (line_length column xs) xs) ys) (drop-over fs xs (line_length column xs))

within-alike : {M : Type 0} (t : Two) (q : Read M) (e : M → Entry) (r : M → ℕ) (head : Word) (tail : List Word) → Passes t.Front q → Along t.Front (head ∷ tail)
    → Alike t (and_then q (λ m. Ok (e m, r m, head ∷ tail ++ t.back))) (and_then q (λ m. Ok (e m, r m, head ∷ tail ++ t.other)))
within-alike t (Ok m) e r head tail h a = kept (e m) (r m) head tail refl refl a
within-alike t (Err x) e r head tail h a = wrong x refl refl h

over-leaves : {M : Type 0} (P : ScriptFault → Type 0) (q : Read M) (e : M → Entry) (r : M → ℕ) (rest : List Word) → Passes P q → Along P rest → Leaves P (and_then q (λ m. Ok (e m, r m, rest)))
over-leaves P (Ok m) e r rest h a = a
over-leaves P (Err x) e r rest h a = h

abbrev line_two : (t : Two) (column : ℕ) → Two
line_two t column = record {
  Front = t.Front;
  Past = t.Past;
  end = place t.end (drop (line_length column t.back) t.back);
  back = take (line_length column t.back) t.back;
  other_end = place t.other_end (drop (line_length column t.other) t.other);
  other = take (line_length column t.other) t.other;
  along = along-take t.Past (line_length column t.back) t.back t.along;
  stands = along_place t.Past t.end (drop (line_length column t.back) t.back) (along-drop t.Past (line_length column t.back) t.back t.along) t.stands;
}

over-alike : {M : Type 0} (t : Two) (column : ℕ) (q q' : Read M) (e : M → Entry) (r : M → ℕ) (rest rest' : List Word) → Stops (line_two t column) q q' → Along t.Past rest
    → Alike t (and_then q (λ m. Ok (e m, r m, rest))) (and_then q' (λ m. Ok (e m, r m, rest')))
over-alike t column q q' e r rest rest' (passed h) a = past (over-leaves t.Past q e r rest h a)
over-alike t column q q' e r rest rest' (faulty x one two at) a = wrong x (ap (λ z. and_then z (λ m. Ok (e m, r m, rest))) one) (ap (λ z. and_then z (λ m. Ok (e m, r m, rest'))) two) at

line-by : {M : Type 0} (f : ℕ → List Word → Read M) (e : M → Entry) (r : M → ℕ) (column : ℕ) (w : Word) (t : Two) (fs : List Word) → FinalAt w f → AtToken t.Front w.at → Along t.Front fs
    → LineEnd column (length fs) (λ xs. line_length column (fs ++ xs))
    → Alike t (line_read f e r t.end (line_length column (fs ++ t.back)) (fs ++ t.back)) (line_read f e r t.other_end (line_length column (fs ++ t.other)) (fs ++ t.other))
line-by f e r column w t fs l at a (here n lt is) =
    let c = cut t.Front fs n lt a in
    moved t _ _ _ _ (within-is f e r t.end column n fs t.back t.Front c (is t.back)) (within-is f e r t.other_end column n fs t.other t.Front c (is t.other))
    (within-alike t (f c.head.at (take n fs)) e r c.head c.tail
    (stops-one t.Front c.head.at (take n fs) c.along_taken c.along.0.0 (f c.head.at (take n fs)) (f c.head.at (take n fs)) (l (all_past t.Front c.head.at (take n fs) c.along_taken c.along.0.0) [] at tt)) c.along)
line-by f e r column w t fs l at a (later is) =
    moved t _ _ _ _ (over-is f e r t.end column fs t.back (is t.back)) (over-is f e r t.other_end column fs t.other (is t.other))
    (over-alike t column (f (place t.end (drop (line_length column t.back) t.back)) (fs ++ take (line_length column t.back) t.back))
    (f (place t.other_end (drop (line_length column t.other) t.other)) (fs ++ take (line_length column t.other) t.other)) e r
    (drop (line_length column t.back) t.back) (drop (line_length column t.other) t.other) (l (line_two t column) fs at a) (along-drop t.Past (line_length column t.back) t.back t.along))

-- ---- items

move-choice : (c : Bool) (room : ℕ) (w : Word) (t : Two) (front : List Word) → AtToken t.Front w.at → Along t.Front front
    → Stops t (if c then Err (TooMany w.at) else and_then (shape_at (head_of w.text) room t.end (front ++ t.back)) (λ s. Ok ((let m : Step = record { at = w.at; head = w.text; shape = s } in m))))
    (if c then Err (TooMany w.at) else and_then (shape_at (head_of w.text) room t.other_end (front ++ t.other)) (λ s. Ok ((let m : Step = record { at = w.at; head = w.text; shape = s } in m))))
move-choice true room w t front at a = faulty (TooMany w.at) refl refl at.1
move-choice false room w t front at a =
    stops_map t (shape_at (head_of w.text) room t.end (front ++ t.back)) (shape_at (head_of w.text) room t.other_end (front ++ t.other)) (λ s. record { at = w.at; head = w.text; shape = s })
    (shape_final (head_of w.text) room t front a)

move-final : (room : ℕ) (w : Word) → FinalAt w (λ end ws. move_at room end w ws)
move-final room w t front at a = move-choice (room == 0) room w t front at a

hint-final : (w : Word) → FinalAt w (λ end ws. hint_at w.at end ws)
hint-final w t front at a = hint_final w.at t front a

move-line : (column room : ℕ) (w : Word) (t : Two) (fs : List Word) → AtToken t.Front w.at → Along t.Front fs → Alike t (line_at false column t.end room w (fs ++ t.back)) (line_at false column t.other_end room w (fs ++ t.other))
move-line column room w t fs at a = line-by (λ end ws. move_at room end w ws) (λ m. move m) (λ m. room - steps_of m.shape) column w t fs (move-final room w) at a (line-end column fs)

hint-line : (column room : ℕ) (w : Word) (t : Two) (fs : List Word) → AtToken t.Front w.at → Along t.Front fs → Alike t (line_at true column t.end room w (fs ++ t.back)) (line_at true column t.other_end room w (fs ++ t.other))
hint-line column room w t fs at a = line-by (λ end ws. hint_at w.at end ws) (λ h. hint h) (λ h. room) column w t fs (hint-final w) at a (line-end column fs)

-- blocks deeper in are read alike
abbrev Deeper : (ℕ → ℕ → List Word → ReadEntries) → Type 1
Deeper inner = (room : ℕ) → Local (λ end ws. inner end room ws)

inner-choice : (c : Bool) (inner : ℕ → ℕ → List Word → ReadEntries) (room : ℕ) (v : Word) (t : Two) (vs : List Word) → Deeper inner → AtToken t.Front v.at → Along t.Front vs
    → Alike t (if c then inner t.end room (v ∷ vs ++ t.back) else Err (Expected v.at wanted.Block)) (if c then inner t.other_end room (v ∷ vs ++ t.other) else Err (Expected v.at wanted.Block))
inner-choice true inner room v t vs d at a = d room t (v ∷ vs) (at, a)
inner-choice false inner room v t vs d at a = wrong (Expected v.at wanted.Block) refl refl (at.0 wanted.Block)

inner-local : (inner : ℕ → ℕ → List Word → ReadEntries) (column room : ℕ) (w : Word) → Deeper inner → Local (λ end ws. inner_at (inner end) column end room w ws)
inner-local inner column room w d = by-token (λ end ws. inner_at (inner end) column end room w ws) (λ P end e. e _) (λ t v vs at a. inner-choice (stands_deeper column w v) inner room v t vs d at a)

kind-alike : (inner : ℕ → ℕ → List Word → ReadEntries) (column room : ℕ) (w : Word) (k : Kind) (t : Two) (fs : List Word) → Deeper inner → AtToken t.Front w.at → Along t.Front fs
    → Alike t (by_kind (inner t.end) column t.end room w (fs ++ t.back) k) (by_kind (inner t.other_end) column t.other_end room w (fs ++ t.other) k)
kind-alike inner column room w kind.Move t fs d at a = move-line column room w t fs at a
kind-alike inner column room w kind.Hint t fs d at a = hint-line column room w t fs at a
kind-alike inner column room w kind.Focus t fs d at a =
    map-alike t (λ es. focus (entries_of es)) (inner_at (inner t.end) column t.end room w (fs ++ t.back)) (inner_at (inner t.other_end) column t.other_end room w (fs ++ t.other)) (inner-local inner column room w d t fs a)
kind-alike inner column room w kind.Branch t fs d at a =
    map-alike t (λ es. branch (entries_of es)) (inner_at (inner t.end) column t.end room w (fs ++ t.back)) (inner_at (inner t.other_end) column t.other_end room w (fs ++ t.other)) (inner-local inner column room w d t fs a)
kind-alike inner column room w kind.NoItem t fs d at a = wrong (Expected w.at wanted.Item) refl refl (at.0 wanted.Item)

entry-local : (inner : ℕ → ℕ → List Word → ReadEntries) (sample : Bool) (column room : ℕ) → Deeper inner → Local (λ end ws. entry_at (inner end) sample column end room ws)
entry-local inner sample column room d =
    by-token (λ end ws. entry_at (inner end) sample column end room ws) (λ P end e. e _) (λ t w fs at a. kind-alike inner column room w (kind_of sample w) t fs d at a)

-- ---- what follows an item

shorter : (sample : Bool) (budget column room end : ℕ) (ws : List Word) (p : Entry × ℕ × List Word) → entry_at (block_at budget sample end) sample column end room ws ≡ Ok p → length p.2 < length ws
shorter sample budget column room end ws p h =
    let l = item-laid sample end budget column room (block_at budget sample end) ws p (insides sample end budget) h in
    omega (arith, item_some l.2, ap length l.1, length-append l.0 p.2)

with-leaves : (P : ScriptFault → Type 0) (e : Entry) (r : ReadEntries) → Leaves P r → Leaves P (with_entry e r)
with-leaves P e (Ok p) h = h
with-leaves P e (Err x) h = h

with-alike : (t : Two) (e : Entry) (r s : ReadEntries) → Alike t r s → Alike t (with_entry e r) (with_entry e s)
with-alike t e r s (past h) = past (with-leaves t.Past e r h)
with-alike t e r s (wrong x one two at) = wrong x (ap (with_entry e) one) (ap (with_entry e) two) at
with-alike t e r s (kept xs room f fs one two along) = kept (e ∷ xs) room f fs (ap (with_entry e) one) (ap (with_entry e) two) along

after-leaves : (P : ScriptFault → Type 0) (column end : ℕ) (e : Entry) (room : ℕ) (rest ws : List Word) (more : List Word → ReadEntries) → AtEnd P end → Along P ws → ((ns : List Word) → Along P ns → Leaves P (more ns))
    → Leaves P (entries_after e room rest more (after_semicolon column end ws))
after-leaves P column end e room rest [] more s a rec = s _
after-leaves P column end e room rest (v ∷ vs) more s a rec =
    elim (v.first && nat_lt v.column column) as (λ c. Leaves P (entries_after e room rest more (if c then Err (Expected v.at wanted.Item) else Ok (Some (v ∷ vs))))) [
      | true ↦ a.0.0 _
      | false ↦ with-leaves P e (more (v ∷ vs)) (rec (v ∷ vs) a)
    ]

next-leaves : (P : ScriptFault → Type 0) (column end : ℕ) (e : Entry) (room : ℕ) (ws : List Word) (more : List Word → ReadEntries) → AtEnd P end → Along P ws → ((ns : List Word) → Along P ns → Leaves P (more ns))
    → Leaves P (entries_after e room ws more (next_at column end ws))
next-leaves P column end e room [] more s a rec = tt
next-leaves P column end e room (w ∷ ws) more s a rec =
    elim (w.first && nat_lt w.column column) as (λ c. Leaves P (entries_after e room (w ∷ ws) more
    (if c then Ok None else (if w.first && (w.column == column) then Ok (Some (w ∷ ws)) else (if is_semicolon w then after_semicolon column end ws else Err (Expected w.at wanted.EndOfItem)))))) [
      | true ↦ a
      | false ↦ elim (w.first && (w.column == column)) as (λ c. Leaves P (entries_after e room (w ∷ ws) more
          (if c then Ok (Some (w ∷ ws)) else (if is_semicolon w then after_semicolon column end ws else Err (Expected w.at wanted.EndOfItem))))) [
            | true ↦ with-leaves P e (more (w ∷ ws)) (rec (w ∷ ws) a)
            | false ↦ elim (is_semicolon w) as (λ c. Leaves P (entries_after e room (w ∷ ws) more (if c then after_semicolon column end ws else Err (Expected w.at wanted.EndOfItem)))) [
              | true ↦ after-leaves P column end e room (w ∷ ws) ws more s a.1 rec
              | false ↦ a.0.0 _
            ]
          ]
    ]

-- the items behind are read alike, of no more tokens than these
abbrev Onward : Two → (k : ℕ) → (more more' : List Word → ReadEntries) → Type 0
Onward t k more more' = (gs : List Word) → Along t.Front gs → length gs ≤ k → Alike t (more (gs ++ t.back)) (more' (gs ++ t.other))

after-alike : (t : Two) (column : ℕ) (e : Entry) (room : ℕ) (rest rest' gs : List Word) (k : ℕ) (more more' : List Word → ReadEntries) → Along t.Front gs → length gs ≤ k → Onward t k more more'
    → ((ns : List Word) → Along t.Past ns → Leaves t.Past (more ns))
    → Alike t (entries_after e room rest more (after_semicolon column t.end (gs ++ t.back))) (entries_after e room rest' more' (after_semicolon column t.other_end (gs ++ t.other)))
after-alike t column e room rest rest' [] k more more' a le rec out = past (after-leaves t.Past column t.end e room rest t.back more t.stands t.along out)
after-alike t column e room rest rest' (g ∷ gs) k more more' a le rec out =
    elim (g.first && nat_lt g.column column) as (λ c. Alike t (entries_after e room rest more (if c then Err (Expected g.at wanted.Item) else Ok (Some (g ∷ gs ++ t.back))))
    (entries_after e room rest' more' (if c then Err (Expected g.at wanted.Item) else Ok (Some (g ∷ gs ++ t.other))))) [
      | true ↦ wrong (Expected g.at wanted.Item) refl refl (a.0.0 wanted.Item)
      | false ↦ with-alike t e (more (g ∷ gs ++ t.back)) (more' (g ∷ gs ++ t.other)) (rec (g ∷ gs) a le)
    ]

next-alike : (t : Two) (column : ℕ) (e : Entry) (room : ℕ) (f : Word) (fs : List Word) (more more' : List Word → ReadEntries) → Along t.Front (f ∷ fs) → Onward t (length (f ∷ fs)) more more'
    → ((ns : List Word) → Along t.Past ns → Leaves t.Past (more ns))
    → Alike t (entries_after e room (f ∷ fs ++ t.back) more (next_at column t.end (f ∷ fs ++ t.back))) (entries_after e room (f ∷ fs ++ t.other) more' (next_at column t.other_end (f ∷ fs ++ t.other)))
next-alike t column e room f fs more more' a rec out =
    elim (f.first && nat_lt f.column column) as (λ c. Alike t
    (entries_after e room (f ∷ fs ++ t.back) more (if c then Ok None else (if f.first && (f.column == column) then Ok (Some (f ∷ fs ++ t.back)) else (if is_semicolon f then after_semicolon column t.end (fs ++ t.back) else Err (Expected f.at wanted.EndOfItem)))))
    (entries_after e room (f ∷ fs ++ t.other) more' (if c then Ok None else (if f.first && (f.column == column) then Ok (Some (f ∷ fs ++ t.other)) else (if is_semicolon f then after_semicolon column t.other_end (fs ++ t.other) else Err (Expected f.at wanted.EndOfItem)))))) [
      | true ↦ kept (e ∷ []) room f fs refl refl a
      | false ↦ elim (f.first && (f.column == column)) as (λ c. Alike t
          (entries_after e room (f ∷ fs ++ t.back) more (if c then Ok (Some (f ∷ fs ++ t.back)) else (if is_semicolon f then after_semicolon column t.end (fs ++ t.back) else Err (Expected f.at wanted.EndOfItem))))
          (entries_after e room (f ∷ fs ++ t.other) more' (if c then Ok (Some (f ∷ fs ++ t.other)) else (if is_semicolon f then after_semicolon column t.other_end (fs ++ t.other) else Err (Expected f.at wanted.EndOfItem))))) [
            | true ↦ with-alike t e (more (f ∷ fs ++ t.back)) (more' (f ∷ fs ++ t.other)) (rec (f ∷ fs) a (omega arith))
            | false ↦ elim (is_semicolon f) as (λ c. Alike t
                (entries_after e room (f ∷ fs ++ t.back) more (if c then after_semicolon column t.end (fs ++ t.back) else Err (Expected f.at wanted.EndOfItem)))
                (entries_after e room (f ∷ fs ++ t.other) more' (if c then after_semicolon column t.other_end (fs ++ t.other) else Err (Expected f.at wanted.EndOfItem)))) [
                  | true ↦ after-alike t column e room (f ∷ fs ++ t.back) (f ∷ fs ++ t.other) fs (length (f ∷ fs)) more more' a.1 (omega arith) rec out
                  | false ↦ wrong (Expected f.at wanted.EndOfItem) refl refl (a.0.0 wanted.EndOfItem)
                ]
          ]
    ]

-- ---- blocks

abbrev one_item : (ℕ → List Word → ReadEntries) → Bool → (column end turns : ℕ) → Read (Entry × ℕ × List Word) → ReadEntries
one_item inner sample column end turns r = and_then r (λ x. entries_after x.0 x.1 x.2 (λ next. entries_at inner sample column end turns x.1 next) (next_at column end x.2))

item-leaves : (inner : ℕ → List Word → ReadEntries) (sample : Bool) (column end turns : ℕ) (P : ScriptFault → Type 0) (r : Read (Entry × ℕ × List Word)) → AtEnd P end → Leaves P r
    → ((room : ℕ) (ws : List Word) → Along P ws → Leaves P (entries_at inner sample column end turns room ws)) → Leaves P (one_item inner sample column end turns r)
item-leaves inner sample column end turns P (Ok p) s h rec = next-leaves P column end p.0 p.1 p.2 (λ next. entries_at inner sample column end turns p.1 next) s h (λ ns a. rec p.1 ns a)
item-leaves inner sample column end turns P (Err e) s h rec = h

entries-leaves : (inner : ℕ → ℕ → List Word → ReadEntries) (sample : Bool) (column turns room : ℕ) (P : ScriptFault → Type 0) (end : ℕ) (ws : List Word) → Deeper inner → Along P ws → AtEnd P end
    → Leaves P (entries_at (inner end) sample column end turns room ws)
entries-leaves inner sample column zero room P end ws d a s = along_place P end ws a s _
entries-leaves inner sample column (suc turns) room P end ws d a s =
    item-leaves (inner end) sample column end turns P (entry_at (inner end) sample column end room ws) s
    (leaves (λ end ws. entry_at (inner end) sample column end room ws) (entry-local inner sample column room d) P end ws a s) (λ r ns b. entries-leaves inner sample column turns r P end ns d b s)

abbrev reading : ℕ → Bool → ℕ → ℕ → List Word → ReadEntries
reading budget sample end room ws = block_at budget sample end room ws

-- the items that are read of lists with no more tokens than turns
abbrev Turning : (budget : ℕ) → Bool → (column turns turns' : ℕ) → Two → Type 0
Turning budget sample column turns turns' t = (room : ℕ) (front : List Word) → Along t.Front front → length (front ++ t.back) ≤ turns → length (front ++ t.other) ≤ turns'
    → Alike t (entries_at (block_at budget sample t.end) sample column t.end turns room (front ++ t.back)) (entries_at (block_at budget sample t.other_end) sample column t.other_end turns' room (front ++ t.other))

item-alike : (budget : ℕ) (sample : Bool) (column turns turns' : ℕ) (t : Two) (k k' : ℕ) (r s : Read (Entry × ℕ × List Word)) → Deeper (reading budget sample) → k ≤ suc turns → k' ≤ suc turns'
    → ((p : Entry × ℕ × List Word) → r ≡ Ok p → length p.2 < k) → ((p : Entry × ℕ × List Word) → s ≡ Ok p → length p.2 < k') → Turning budget sample column turns turns' t → Alike t r s
    → Alike t (one_item (block_at budget sample t.end) sample column t.end turns r) (one_item (block_at budget sample t.other_end) sample column t.other_end turns' s)
item-alike budget sample column turns turns' t k k' r s d le le' short short' rec (past h) =
    past (item-leaves (block_at budget sample t.end) sample column t.end turns t.Past r t.stands h (λ room ws a. entries-leaves (reading budget sample) sample column turns room t.Past t.end ws d a t.stands))
item-alike budget sample column turns turns' t k k' r s d le le' short short' rec (wrong e one two at) =
    wrong e (ap (one_item (block_at budget sample t.end) sample column t.end turns) one) (ap (one_item (block_at budget sample t.other_end) sample column t.other_end turns') two) at
item-alike budget sample column turns turns' t k k' r s d le le' short short' rec (kept x room f fs one two along) =
    moved t _ _ _ _ (ap (one_item (block_at budget sample t.end) sample column t.end turns) one) (ap (one_item (block_at budget sample t.other_end) sample column t.other_end turns') two)
    (next-alike t column x room f fs (λ next. entries_at (block_at budget sample t.end) sample column t.end turns room next) (λ next. entries_at (block_at budget sample t.other_end) sample column t.other_end turns' room next) along
    (λ gs a g. rec room gs a
    (omega (arith, le, g, short (x, room, f ∷ fs ++ t.back) one, length-append gs t.back, length-append (f ∷ fs) t.back))
    (omega (arith, le', g, short' (x, room, f ∷ fs ++ t.other) two, length-append gs t.other, length-append (f ∷ fs) t.other)))
    (λ ns a. entries-leaves (reading budget sample) sample column turns room t.Past t.end ns d a t.stands))

entries-alike : (budget : ℕ) (sample : Bool) (column turns turns' : ℕ) (t : Two) → Deeper (reading budget sample) → Turning budget sample column turns turns' t
entries-alike budget sample column turns turns' t d room [] a le le' =
    past (entries-leaves (reading budget sample) sample column turns room t.Past t.end t.back d t.along t.stands)
entries-alike budget sample column zero turns' t d room (f ∷ fs) a le le' = absurd (omega (arith, le))
entries-alike budget sample column (suc turns) zero t d room (f ∷ fs) a le le' = absurd (omega (arith, le'))
entries-alike budget sample column (suc turns) (suc turns') t d room (f ∷ fs) a le le' =
    item-alike budget sample column turns turns' t (length (f ∷ fs ++ t.back)) (length (f ∷ fs ++ t.other))
    (entry_at (block_at budget sample t.end) sample column t.end room (f ∷ fs ++ t.back)) (entry_at (block_at budget sample t.other_end) sample column t.other_end room (f ∷ fs ++ t.other)) d le le'
    (λ p h. shorter sample budget column room t.end (f ∷ fs ++ t.back) p h) (λ p h. shorter sample budget column room t.other_end (f ∷ fs ++ t.other) p h)
    (entries-alike budget sample column turns turns' t d) (entry-local (reading budget sample) sample column room d t (f ∷ fs) a)

block-shut : (sample : Bool) (end room : ℕ) (ws : List Word) → block_at 0 sample end room ws ≡ Err (too_deep sample end room ws)
unfolding block_at
block-shut sample end room ws = refl

block-missing : (budget : ℕ) (sample : Bool) (end room : ℕ) → block_at (suc budget) sample end room [] ≡ Err (Expected end wanted.Block)
unfolding block_at
block-missing budget sample end room = refl

abbrev deep_kind : Kind → (room at : ℕ) → ScriptFault
deep_kind k room at = elim k [
  | kind.NoItem ↦ Expected at wanted.Item
  | kind.Move ↦ if room == 0 then TooMany at else Deep at
  | _ ↦ Deep at
]

deep-at : (P : ScriptFault → Type 0) (k : Kind) (room at : ℕ) → AtToken P at → P (deep_kind k room at)
deep-at P kind.NoItem room at h = h.0 _
deep-at P kind.Move room at h = elim (room == 0) as (λ c. P (if c then TooMany at else Deep at)) [ true ↦ h.1 | false ↦ h.2 ]
deep-at P k room at h = h.2

deep-local : (sample : Bool) (room : ℕ) → Local (λ end ws. let r : ReadEntries = Err (too_deep sample end room ws) in r)
deep-local sample room =
    by-token (λ end ws. let r : ReadEntries = Err (too_deep sample end room ws) in r) (λ P end e. e _)
    (λ t w fs at a. wrong (deep_kind (kind_of sample w) room w.at) refl refl (deep-at t.Front (kind_of sample w) room w.at at))

same-local : (f g : ℕ → List Word → ReadEntries) → ((end : ℕ) (ws : List Word) → g end ws ≡ f end ws) → Local f → Local g
same-local f g e l t front a = moved t _ _ _ _ (e t.end (front ++ t.back)) (e t.other_end (front ++ t.other)) (l t front a)

block-local : (budget : ℕ) (sample : Bool) → Deeper (reading budget sample)
block-local zero sample room = same-local (λ end ws. Err (too_deep sample end room ws)) (λ end ws. block_at 0 sample end room ws) (λ end ws. block-shut sample end room ws) (deep-local sample room)
block-local (suc budget) sample room =
    by-token (λ end ws. block_at (suc budget) sample end room ws) (λ P end e. subst (λ (z : ReadEntries). Leaves P z) (sym (block-missing budget sample end room)) (e _))
    (λ t w fs at a. moved t _ _ _ _ (block-open budget sample t.end room w (fs ++ t.back)) (block-open budget sample t.other_end room w (fs ++ t.other))
    (entries-alike budget sample w.column (length (w ∷ fs ++ t.back)) (length (w ∷ fs ++ t.other)) t (block-local budget sample) room (w ∷ fs) (at, a) (omega arith) (omega arith)))

-- ---- scripts

ended-at : (P : ScriptFault → Type 0) (es : List Entry) (ws : List Word) → Along P ws → Passes P (ended es ws)
ended-at P es [] a = tt
ended-at P es (w ∷ ws) a = a.0.0 _

ended-passes : (P : ScriptFault → Type 0) (r : ReadEntries) → Leaves P r → Passes P (and_then r (λ b. ended b.0 b.2))
ended-passes P (Ok p) h = ended-at P p.0 p.2 h
ended-passes P (Err e) h = h

ended-stops : (t : Two) (r s : ReadEntries) → Alike t r s → Stops t (and_then r (λ b. ended b.0 b.2)) (and_then s (λ b. ended b.0 b.2))
ended-stops t r s (past h) = passed (ended-passes t.Past r h)
ended-stops t r s (wrong e one two at) = faulty e (ap (λ z. and_then z (λ b. ended b.0 b.2)) one) (ap (λ z. and_then z (λ b. ended b.0 b.2)) two) at
ended-stops t r s (kept x room f fs one two along) =
    faulty (Expected f.at wanted.EndOfItem) (ap (λ z. and_then z (λ b. ended b.0 b.2)) one) (ap (λ z. and_then z (λ b. ended b.0 b.2)) two) (along.0.0 _)

pub script_passes : (sample : Bool) (P : ScriptFault → Type 0) (end : ℕ) (ws : List Word) → Along P ws → AtEnd P end → Passes P (entries_of_tokens ws end sample)
script_passes sample P end [] a s = subst (λ (z : Read (List Entry)). Passes P z) (sym (script-empty sample end)) tt
script_passes sample P end (w ∷ ws) a s =
    subst (λ (z : Read (List Entry)). Passes P z) (sym (script-open sample end w ws))
    (ended-passes P (block_at 16 sample end 200 (w ∷ ws)) (leaves (λ end ws. block_at 16 sample end 200 ws) (block-local 16 sample 200) P end (w ∷ ws) a s))

-- a script is read as any other that begins like it, as far as it does
pub script_alike : (sample : Bool) (t : Two) (front : List Word) → Along t.Front front → Stops t (entries_of_tokens (front ++ t.back) t.end sample) (entries_of_tokens (front ++ t.other) t.other_end sample)
script_alike sample t [] a = passed (script_passes sample t.Past t.end t.back t.along t.stands)
script_alike sample t (w ∷ fs) a =
    stops_moved t _ _ _ _ (script-open sample t.end w (fs ++ t.back)) (script-open sample t.other_end w (fs ++ t.other))
    (ended-stops t (block_at 16 sample t.end 200 (w ∷ fs ++ t.back)) (block_at 16 sample t.other_end 200 (w ∷ fs ++ t.other)) (block-local 16 sample 200 t (w ∷ fs) a))
