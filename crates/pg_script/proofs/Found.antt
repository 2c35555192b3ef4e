-- A script that is read is laid out by columns.
use Rattle.std.proofs.Common.{◌≡◌, ◌∙◌, ℕ, zero, suc, ◌-◌, ◌<◌, Bool, true, false, ◌&&◌, ◌||◌, List, [], ◌∷◌, ◌++◌, length, take, drop, refl, sym, ap, subst, arith, append_assoc, append-nil, length-append, Option, Some, None, Ok, Err, if◌then◌else◌, IsTrue, IsFalse, ◌==◌, nat_lt}
use Rattle.std.proofs.lemmas.List.{take-append-drop}
use Rattle.pg_base.specs.declared.token.Wanted.TheVariants as wanted
use Rattle.pg_base.specs.Tokens.{Word}
use Rattle.pg_script.specs.declared.fault.ScriptFault.{ScriptFault}
use Rattle.pg_script.specs.declared.fault.ScriptFault.TheVariants.{Expected}
use Rattle.pg_script.specs.declared.block.Kind.{Kind}
use Rattle.pg_script.specs.declared.block.Kind.TheVariants as kind
use Rattle.pg_script.specs.Data.{Entry, move, focus, branch, hint, entries_of}
use Rattle.pg_script.specs.Marks.{place}
use Rattle.pg_script.specs.Lines.{Read, and_then, ended, hint_at}
use Rattle.pg_script.specs.Blocks.{ReadEntries, ends_line, is_semicolon, line_length, kind_of, move_at, steps_of, stands_deeper, inner_at, line_at, entry_at, next_at, after_semicolon, with_entry, entries_after, entries_at, block_at}
use Rattle.pg_script.specs.Grammar.{EndsBlock, EndsLine, GoesOn, BeginsItem, Separates, IsItem, a_move, a_hint, a_bullet, a_branch, IsBlock, last, line, semicolon, IsScript, empty, block}
use Rattle.pg_script.specs.Scripts.{entries_of_tokens}
use Rattle.pg_script.proofs.Laid.{item_some, by_kind, block-open, script-open, script-empty}

pub clash : {V : Type 0} (e : ScriptFault) (y : V) → (let r : Read V = Err e in r) ≡ Ok y → ⊥
clash e y h = cc

-- what was read on the way
pub and_then_ok : {V W : Type 0} (r : Read V) (f : V → Read W) (y : W) → and_then r f ≡ Ok y → (x : V) × (r ≡ Ok x) × (f x ≡ Ok y)
and_then_ok (Ok x) f y e = (x, refl, e)
and_then_ok (Err z) f y e = absurd (clash z y e)

-- ---- lines

pub goes : (column : ℕ) (ws : List Word) → GoesOn column (take (line_length column ws) ws)
goes column [] = tt
goes column (w ∷ ws) =
    elim (is_semicolon w || ends_line column w) as (λ b. (is_semicolon w || ends_line column w) ≡ b → GoesOn column (take (if b then 0 else suc (line_length column ws)) (w ∷ ws))) [
      | true ↦ λ e. tt
      | false ↦ λ e. (e, goes column ws)
    ] refl

ends : (column : ℕ) (ws : List Word) → EndsLine column (drop (line_length column ws) ws)
ends column [] = tt
ends column (w ∷ ws) =
    elim (is_semicolon w || ends_line column w) as (λ b. (is_semicolon w || ends_line column w) ≡ b → EndsLine column (drop (if b then 0 else suc (line_length column ws)) (w ∷ ws))) [
      | true ↦ λ e. e
      | false ↦ λ e. ends column ws
    ] refl

-- ---- items

abbrev pub LaidItem : Bool → (end budget column room : ℕ) → List Word → Entry × ℕ × List Word → Type 0
LaidItem sample end budget column room ws p = (front : List Word) × (ws ≡ front ++ p.2) × IsItem sample end budget column room p.1 front p.2 p.0

abbrev LaidBlock : Bool → (end budget column room : ℕ) → List Word → List Entry × ℕ × List Word → Type 0
LaidBlock sample end budget column room ws p = (front : List Word) × (ws ≡ front ++ p.2) × IsBlock sample end budget column room p.1 front p.2 p.0

pub inj : {V : Type 0} (x y : V) → (let r : Read V = Ok x in r) ≡ Ok y → x ≡ y
inj x y h = cc

move-laid : (sample : Bool) (end budget column room : ℕ) (w : Word) (ws : List Word) (p : Entry × ℕ × List Word) → kind_of sample w ≡ kind.Move
    → line_at false column end room w ws ≡ Ok p → LaidItem sample end budget column room (w ∷ ws) p
move-laid sample end budget column room w ws p k h =
    let n = line_length column ws in
    let m = and_then_ok (move_at room (place end (drop n ws)) w (take n ws)) (λ m. Ok (move m, room - steps_of m.shape, drop n ws)) p h in
    let P : Entry × ℕ × List Word → Type 0 = LaidItem sample end budget column room (w ∷ ws) in
    subst P (inj (move m.0, room - steps_of m.0.shape, drop n ws) p m.2)
    (w ∷ take n ws, ap (λ t. w ∷ t) (sym (take-append-drop n ws)), a_move budget column room w (take n ws) (drop n ws) m.0 k (goes column ws) (ends column ws) m.1)

hint-laid : (sample : Bool) (end budget column room : ℕ) (w : Word) (ws : List Word) (p : Entry × ℕ × List Word) → kind_of sample w ≡ kind.Hint
    → line_at true column end room w ws ≡ Ok p → LaidItem sample end budget column room (w ∷ ws) p
hint-laid sample end budget column room w ws p k h =
    let n = line_length column ws in
    let m = and_then_ok (hint_at w.at (place end (drop n ws)) (take n ws)) (λ x. Ok (hint x, room, drop n ws)) p h in
    let P : Entry × ℕ × List Word → Type 0 = LaidItem sample end budget column room (w ∷ ws) in
    subst P (inj (hint m.0, room, drop n ws) p m.2)
    (w ∷ take n ws, ap (λ t. w ∷ t) (sym (take-append-drop n ws)), a_hint budget column room w (take n ws) (drop n ws) m.0 k (goes column ws) (ends column ws) m.1)

-- a block that was read deeper in, with one block fewer to nest
pub record Inside (sample : Bool) (end budget room : ℕ) (v : Word) (vs : List Word) (p : List Entry × ℕ × List Word) : Type 0 where
  pub fewer : ℕ
  pub is : budget ≡ suc fewer
  pub more : List Word
  pub whole : vs ≡ more ++ p.2
  pub inner : IsBlock sample end fewer v.column room p.1 (v ∷ more) p.2 p.0

abbrev pub Insides : Bool → (end budget : ℕ) → (ℕ → List Word → ReadEntries) → Type 0
Insides sample end budget inner = (room : ℕ) (v : Word) (vs : List Word) (p : List Entry × ℕ × List Word) → inner room (v ∷ vs) ≡ Ok p → Inside sample end budget room v vs p

-- the block behind a bullet or a branch
record Behind (sample : Bool) (end budget column room : ℕ) (w : Word) (ws : List Word) (p : List Entry × ℕ × List Word) : Type 0 where
  v : Word
  vs : List Word
  is : ws ≡ v ∷ vs
  deeper : IsTrue (stands_deeper column w v)
  inside : Inside sample end budget room v vs p

behind-laid : (sample : Bool) (end budget column room : ℕ) (inner : ℕ → List Word → ReadEntries) (w : Word) (ws : List Word) (p : List Entry × ℕ × List Word) → Insides sample end budget inner
    → inner_at inner column end room w ws ≡ Ok p → Behind sample end budget column room w ws p
behind-laid sample end budget column room inner w [] p all h = absurd (clash (Expected end wanted.Block) p h)
behind-laid sample end budget column room inner w (v ∷ vs) p all h =
    elim (stands_deeper column w v) as (λ b. stands_deeper column w v ≡ b → (if b then inner room (v ∷ vs) else Err (Expected v.at wanted.Block)) ≡ Ok p → Behind sample end budget column room w (v ∷ vs) p) [
      | true ↦ λ e g. record { v = v; vs = vs; is = refl; deeper = e; inside = all room v vs p g }
      | false ↦ λ e g. absurd (clash (Expected v.at wanted.Block) p g)
    ] refl h

bullet-laid : (sample : Bool) (end budget column room : ℕ) (w : Word) (ws : List Word) (p : List Entry × ℕ × List Word) → kind_of sample w ≡ kind.Focus → Behind sample end budget column room w ws p
    → LaidItem sample end budget column room (w ∷ ws) (focus (entries_of p.0), p.1, p.2)
bullet-laid sample end budget column room w ws p k b =
    let P : ℕ → Type 0 = λ n. IsItem sample end n column room p.1 (w ∷ b.v ∷ b.inside.more) p.2 (focus (entries_of p.0)) in (
      w ∷ b.v ∷ b.inside.more,
      ap (λ t. w ∷ t) (b.is ∙ ap (λ t. b.v ∷ t) b.inside.whole),
      subst P (sym b.inside.is) (a_bullet b.inside.fewer column room p.1 w b.v b.inside.more p.2 p.0 k b.deeper b.inside.inner),
    )

branch-laid : (sample : Bool) (end budget column room : ℕ) (w : Word) (ws : List Word) (p : List Entry × ℕ × List Word) → kind_of sample w ≡ kind.Branch → Behind sample end budget column room w ws p
    → LaidItem sample end budget column room (w ∷ ws) (branch (entries_of p.0), p.1, p.2)
branch-laid sample end budget column room w ws p k b =
    let P : ℕ → Type 0 = λ n. IsItem sample end n column room p.1 (w ∷ b.v ∷ b.inside.more) p.2 (branch (entries_of p.0)) in (
      w ∷ b.v ∷ b.inside.more,
      ap (λ t. w ∷ t) (b.is ∙ ap (λ t. b.v ∷ t) b.inside.whole),
      subst P (sym b.inside.is) (a_branch b.inside.fewer column room p.1 w b.v b.inside.more p.2 p.0 k b.deeper b.inside.inner),
    )

kind-laid : (sample : Bool) (end budget column room : ℕ) (inner : ℕ → List Word → ReadEntries) (w : Word) (ws : List Word) (p : Entry × ℕ × List Word) (k : Kind) → Insides sample end budget inner
    → kind_of sample w ≡ k → by_kind inner column end room w ws k ≡ Ok p → LaidItem sample end budget column room (w ∷ ws) p
kind-laid sample end budget column room inner w ws p kind.Move all k h = move-laid sample end budget column room w ws p k h
kind-laid sample end budget column room inner w ws p kind.Hint all k h = hint-laid sample end budget column room w ws p k h
kind-laid sample end budget column room inner w ws p kind.NoItem all k h = absurd (clash (Expected w.at wanted.Item) p h)
kind-laid sample end budget column room inner w ws p kind.Focus all k h =
    let m = and_then_ok (inner_at inner column end room w ws) (λ b. Ok (focus (entries_of b.0), b.1, b.2)) p h in
    let P : Entry × ℕ × List Word → Type 0 = LaidItem sample end budget column room (w ∷ ws) in
    subst P (inj (focus (entries_of m.0.0), m.0.1, m.0.2) p m.2) (bullet-laid sample end budget column room w ws m.0 k (behind-laid sample end budget column room inner w ws m.0 all m.1))
kind-laid sample end budget column room inner w ws p kind.Branch all k h =
    let m = and_then_ok (inner_at inner column end room w ws) (λ b. Ok (branch (entries_of b.0), b.1, b.2)) p h in
    let P : Entry × ℕ × List Word → Type 0 = LaidItem sample end budget column room (w ∷ ws) in
    subst P (inj (branch (entries_of m.0.0), m.0.1, m.0.2) p m.2) (branch-laid sample end budget column room w ws m.0 k (behind-laid sample end budget column room inner w ws m.0 all m.1))

pub item-laid : (sample : Bool) (end budget column room : ℕ) (inner : ℕ → List Word → ReadEntries) (ws : List Word) (p : Entry × ℕ × List Word) → Insides sample end budget inner
    → entry_at inner sample column end room ws ≡ Ok p → LaidItem sample end budget column room ws p
item-laid sample end budget column room inner [] p all h = absurd (clash (Expected end wanted.Item) p h)
item-laid sample end budget column room inner (w ∷ ws) p all h = kind-laid sample end budget column room inner w ws p (kind_of sample w) all refl h

-- ---- what follows an item

data Follows (column : ℕ) : List Word → Option (List Word) → Type 0 where
  ended_here : (ws : List Word) → EndsBlock column ws → Follows column ws None
  by_line : (v : Word) (vs : List Word) → BeginsItem column v → Follows column (v ∷ vs) (Some (v ∷ vs))
  by_semicolon : (s v : Word) (vs : List Word) → Separates column s → IsFalse (v.first && nat_lt v.column column) → Follows column (s ∷ v ∷ vs) (Some (v ∷ vs))

after-follows : (column end : ℕ) (s : Word) (ws : List Word) (o : Option (List Word)) → Separates column s → after_semicolon column end ws ≡ Ok o → Follows column (s ∷ ws) o
after-follows column end s [] o g h = absurd (clash (Expected end wanted.Item) o h)
after-follows column end s (v ∷ vs) o g h =
    elim (v.first && nat_lt v.column column) as (λ b. (v.first && nat_lt v.column column) ≡ b → (if b then Err (Expected v.at wanted.Item) else Ok (Some (v ∷ vs))) ≡ Ok o → Follows column (s ∷ v ∷ vs) o) [
      | true ↦ λ e k. absurd (clash (Expected v.at wanted.Item) o k)
      | false ↦ λ e k. let P : Option (List Word) → Type 0 = Follows column (s ∷ v ∷ vs) in subst P (inj (Some (v ∷ vs)) o k) (by_semicolon s v vs g e)
    ] refl h

sign-follows : (column end : ℕ) (s : Word) (ws : List Word) (o : Option (List Word)) → IsFalse (s.first && nat_lt s.column column) → IsFalse (s.first && (s.column == column))
    → (if is_semicolon s then after_semicolon column end ws else Err (Expected s.at wanted.EndOfItem)) ≡ Ok o → Follows column (s ∷ ws) o
sign-follows column end s ws o a b h =
    elim (is_semicolon s) as (λ c. is_semicolon s ≡ c → (if c then after_semicolon column end ws else Err (Expected s.at wanted.EndOfItem)) ≡ Ok o → Follows column (s ∷ ws) o) [
      | true ↦ λ e k. after-follows column end s ws o (a, b, e) k
      | false ↦ λ e k. absurd (clash (Expected s.at wanted.EndOfItem) o k)
    ] refl h

line-follows : (column end : ℕ) (w : Word) (ws : List Word) (o : Option (List Word)) → IsFalse (w.first && nat_lt w.column column)
    → (if w.first && (w.column == column) then Ok (Some (w ∷ ws)) else (if is_semicolon w then after_semicolon column end ws else Err (Expected w.at wanted.EndOfItem))) ≡ Ok o → Follows column (w ∷ ws) o
line-follows column end w ws o a h =
    elim (w.first && (w.column == column)) as (λ c. (w.first && (w.column == column)) ≡ c
    → (if c then Ok (Some (w ∷ ws)) else (if is_semicolon w then after_semicolon column end ws else Err (Expected w.at wanted.EndOfItem))) ≡ Ok o → Follows column (w ∷ ws) o) [
      | true ↦ λ e k. let P : Option (List Word) → Type 0 = Follows column (w ∷ ws) in subst P (inj (Some (w ∷ ws)) o k) (by_line w ws (a, e))
      | false ↦ λ e k. sign-follows column end w ws o a e k
    ] refl h

follows : (column end : ℕ) (ws : List Word) (o : Option (List Word)) → next_at column end ws ≡ Ok o → Follows column ws o
follows column end [] o h = let P : Option (List Word) → Type 0 = Follows column [] in subst P (inj None o h) (ended_here [] tt)
follows column end (w ∷ ws) o h =
    elim (w.first && nat_lt w.column column) as (λ c. (w.first && nat_lt w.column column) ≡ c
    → (if c then Ok None else (if w.first && (w.column == column) then Ok (Some (w ∷ ws)) else (if is_semicolon w then after_semicolon column end ws else Err (Expected w.at wanted.EndOfItem)))) ≡ Ok o → Follows column (w ∷ ws) o) [
      | true ↦ λ e k. let P : Option (List Word) → Type 0 = Follows column (w ∷ ws) in subst P (inj None o k) (ended_here (w ∷ ws) e)
      | false ↦ λ e k. line-follows column end w ws o e k
    ] refl h

-- ---- blocks

block_some : {sample : Bool} {end budget column room left : ℕ} {ws next : List Word} {xs : List Entry} → IsBlock sample end budget column room left ws next xs → 0 < length ws
block_some (last budget column room left ws next x i e) = item_some i
block_some (line budget column room between left ws vs next v x xs i n b) = omega (arith, length-append ws (v ∷ vs), item_some i)
block_some (semicolon budget column room between left ws vs next s v x xs i n f b) = omega (arith, length-append ws (s ∷ v ∷ vs), item_some i)

-- a block begins with the first of its tokens
record Begun (sample : Bool) (end budget column room : ℕ) (v : Word) (vs : List Word) (p : List Entry × ℕ × List Word) : Type 0 where
  more : List Word
  whole : vs ≡ more ++ p.2
  inner : IsBlock sample end budget column room p.1 (v ∷ more) p.2 p.0

head-is : (v f : Word) (vs fs : List Word) → v ∷ vs ≡ f ∷ fs → v ≡ f
head-is v f vs fs h = cc

tail-is : (v f : Word) (vs fs : List Word) → v ∷ vs ≡ f ∷ fs → vs ≡ fs
tail-is v f vs fs h = cc

begun : (sample : Bool) (end budget column room : ℕ) (v : Word) (vs front : List Word) (p : List Entry × ℕ × List Word) → v ∷ vs ≡ front ++ p.2 → IsBlock sample end budget column room p.1 front p.2 p.0
    → Begun sample end budget column room v vs p
begun sample end budget column room v vs [] p whole b = absurd (omega (arith, block_some b))
begun sample end budget column room v vs (f ∷ fs) p whole b =
    let P : Word → Type 0 = λ z. IsBlock sample end budget column room p.1 (z ∷ fs) p.2 p.0 in
    record { more = fs; whole = tail-is v f vs (fs ++ p.2) whole; inner = subst P (sym (head-is v f vs (fs ++ p.2) whole)) b }

abbrev Items : Bool → (end budget : ℕ) → (ℕ → List Word → ReadEntries) → Type 0
Items sample end budget inner = (column room : ℕ) (ws : List Word) (p : Entry × ℕ × List Word) → entry_at inner sample column end room ws ≡ Ok p → LaidItem sample end budget column room ws p

-- one item, and the items behind it
joined-laid : (sample : Bool) (end budget column room between : ℕ) (ws front rest ns : List Word) (x : Entry) (p : List Entry × ℕ × List Word) → ws ≡ front ++ rest → IsItem sample end budget column room between front rest x
    → Follows column rest (Some ns) → LaidBlock sample end budget column between ns p → LaidBlock sample end budget column room ws (x ∷ p.0, p.1, p.2)
joined-laid sample end budget column room between ws front rest ns x p whole i (by_line v vs n) b =
    let g = begun sample end budget column between v vs b.0 p b.1 b.2 in
    let P : List Word → Type 0 = λ t. IsItem sample end budget column room between front (v ∷ t) x in (
      front ++ v ∷ g.more,
      whole ∙ ap (λ t. front ++ v ∷ t) g.whole ∙ sym (append_assoc front (v ∷ g.more) p.2),
      line budget column room between p.1 front g.more p.2 v x p.0 (subst P g.whole i) n g.inner,
    )
joined-laid sample end budget column room between ws front rest ns x p whole i (by_semicolon s v vs n f) b =
    let g = begun sample end budget column between v vs b.0 p b.1 b.2 in
    let P : List Word → Type 0 = λ t. IsItem sample end budget column room between front (s ∷ v ∷ t) x in (
      front ++ s ∷ v ∷ g.more,
      whole ∙ ap (λ t. front ++ s ∷ v ∷ t) g.whole ∙ sym (append_assoc front (s ∷ v ∷ g.more) p.2),
      semicolon budget column room between p.1 front g.more p.2 s v x p.0 (subst P g.whole i) n f g.inner,
    )

last-laid : (sample : Bool) (end budget column room left : ℕ) (ws front rest : List Word) (x : Entry) → ws ≡ front ++ rest → IsItem sample end budget column room left front rest x → Follows column rest None
    → LaidBlock sample end budget column room ws (x ∷ [], left, rest)
last-laid sample end budget column room left ws front rest x whole i (ended_here behind e) = (front, whole, last budget column room left front rest x i e)

first-ok : (x : Entry) (r : ReadEntries) (p : List Entry × ℕ × List Word) → with_entry x r ≡ Ok p → (q : List Entry × ℕ × List Word) × (r ≡ Ok q) × ((x ∷ q.0, q.1, q.2) ≡ p)
first-ok x (Ok q) p h = (q, refl, inj (x ∷ q.0, q.1, q.2) p h)
first-ok x (Err e) p h = absurd (clash e p h)

after-laid : (sample : Bool) (end budget column room left : ℕ) (ws front rest : List Word) (x : Entry) (more : List Word → ReadEntries) (next : Read (Option (List Word))) (p : List Entry × ℕ × List Word)
    → ws ≡ front ++ rest → IsItem sample end budget column room left front rest x → next_at column end rest ≡ next
    → ((ns : List Word) (q : List Entry × ℕ × List Word) → more ns ≡ Ok q → LaidBlock sample end budget column left ns q)
    → entries_after x left rest more next ≡ Ok p → LaidBlock sample end budget column room ws p
after-laid sample end budget column room left ws front rest x more (Err e) p whole i n rec h = absurd (clash e p h)
after-laid sample end budget column room left ws front rest x more (Ok None) p whole i n rec h =
    let P : List Entry × ℕ × List Word → Type 0 = LaidBlock sample end budget column room ws in
    subst P (inj (x ∷ [], left, rest) p h) (last-laid sample end budget column room left ws front rest x whole i (follows column end rest None n))
after-laid sample end budget column room left ws front rest x more (Ok (Some ns)) p whole i n rec h =
    let P : List Entry × ℕ × List Word → Type 0 = LaidBlock sample end budget column room ws in
    let q = first-ok x (more ns) p h in
    subst P q.2 (joined-laid sample end budget column room left ws front rest ns x q.0 whole i (follows column end rest (Some ns) n) (rec ns q.0 q.1))

block-laid : (sample : Bool) (end budget column : ℕ) (inner : ℕ → List Word → ReadEntries) (turns room : ℕ) (ws : List Word) (p : List Entry × ℕ × List Word) → Items sample end budget inner
    → entries_at inner sample column end turns room ws ≡ Ok p → LaidBlock sample end budget column room ws p
block-laid sample end budget column inner zero room ws p all h = absurd (clash (Expected (place end ws) wanted.Item) p h)
block-laid sample end budget column inner (suc turns) room ws p all h =
    let m = and_then_ok (entry_at inner sample column end room ws) (λ y. entries_after y.0 y.1 y.2 (λ next. entries_at inner sample column end turns y.1 next) (next_at column end y.2)) p h in
    let i = all column room ws m.0 m.1 in
    after-laid sample end budget column room m.0.1 ws i.0 m.0.2 m.0.0 (λ next. entries_at inner sample column end turns m.0.1 next) (next_at column end m.0.2) p i.1 i.2 refl
    (λ ns q g. block-laid sample end budget column inner turns m.0.1 ns q all g) m.2

no-block : (sample : Bool) (end room : ℕ) (ws : List Word) → (e : ScriptFault) × (block_at 0 sample end room ws ≡ Err e)
unfolding block_at
no-block sample end room ws = (_, refl)

pub insides : (sample : Bool) (end budget : ℕ) → Insides sample end budget (block_at budget sample end)
insides sample end zero room v vs p h = let n = no-block sample end room (v ∷ vs) in absurd (clash n.0 p (sym n.1 ∙ h))
insides sample end (suc budget) room v vs p h =
    let b = block-laid sample end budget v.column (block_at budget sample end) (length (v ∷ vs)) room (v ∷ vs) p
    (λ column r ws q g. item-laid sample end budget column r (block_at budget sample end) ws q (insides sample end budget) g) (sym (block-open budget sample end room v vs) ∙ h) in
    let g = begun sample end budget v.column room v vs b.0 p b.1 b.2 in
    record { fewer = budget; is = refl; more = g.more; whole = g.whole; inner = g.inner }

ended-ok : (xs ys : List Entry) (rest : List Word) → ended xs rest ≡ Ok ys → (rest ≡ []) × (xs ≡ ys)
ended-ok xs ys [] h = (refl, inj xs ys h)
ended-ok xs ys (w ∷ ws) h = absurd (clash (Expected w.at wanted.EndOfItem) ys h)

-- what is read is laid out
pub script_laid : (sample : Bool) (end : ℕ) (ws : List Word) (xs : List Entry) → entries_of_tokens ws end sample ≡ Ok xs → IsScript sample end ws xs
script_laid sample end [] xs h =
    let P : List Entry → Type 0 = IsScript sample end [] in subst P (inj [] xs (sym (script-empty sample end) ∙ h)) empty
script_laid sample end (w ∷ ws) xs h =
    let m = and_then_ok (block_at 16 sample end 200 (w ∷ ws)) (λ b. ended b.0 b.2) xs (sym (script-open sample end w ws) ∙ h) in
    let i = insides sample end 16 200 w ws m.0 m.1 in
    let e = ended-ok m.0.0 xs m.0.2 m.2 in
    let fewer_is : i.fewer ≡ 15 = omega (arith, i.is) in
    let whole : ws ≡ i.more = i.whole ∙ ap (λ t. i.more ++ t) e.0 ∙ append-nil i.more in
    let P : ℕ → Type 0 = λ n. IsBlock sample end n w.column 200 m.0.1 (w ∷ i.more) m.0.2 m.0.0 in
    let Q : List Word → Type 0 = λ t. IsBlock sample end 15 w.column 200 m.0.1 (w ∷ i.more) t m.0.0 in
    let R : List Entry → Type 0 = λ t. IsBlock sample end 15 w.column 200 m.0.1 (w ∷ i.more) [] t in
    let S : List Word → Type 0 = λ t. IsBlock sample end 15 w.column 200 m.0.1 (w ∷ t) [] xs in
    block m.0.1 w ws xs (subst S (sym whole) (subst R e.1 (subst Q e.0 (subst P fewer_is i.inner))))
