-- A script that is laid out by columns is read.
use Rattle.std.proofs.Common.{◌≡◌, ◌∙◌, ℕ, zero, suc, ◌-◌, ◌≤◌, ◌<◌, Bool, true, false, ◌&&◌, List, [], ◌∷◌, ◌++◌, length, drop, refl, sym, ap, arith, append_assoc, append-nil, length-append, Option, Some, None, Ok, Err, if◌then◌else◌, IsTrue, IsFalse, nat_lt}
use Rattle.std.proofs.lemmas.List.{take_at, drop_at}
use Rattle.pg_base.specs.Tokens.{Word}
use Rattle.pg_base.specs.declared.token.Wanted.TheVariants as wanted
use Rattle.pg_script.specs.declared.fault.ScriptFault.TheVariants.{Expected}
use Rattle.pg_script.specs.declared.block.Kind.{Kind}
use Rattle.pg_script.specs.declared.block.Kind.TheVariants as kind
use Rattle.pg_script.specs.Data.{Entry, move, focus, branch, hint, entries_of, Step, Remark}
use Rattle.pg_script.specs.Marks.{place}
use Rattle.pg_script.specs.Lines.{Read, and_then, ended, hint_at}
use Rattle.pg_script.specs.Blocks.{ReadEntries, line_length, move_at, steps_of, stands_deeper, inner_at, line_of, line_at, entry_at, next_at, with_entry, entries_after, entries_at, block_at}
use Rattle.pg_script.specs.Grammar.{EndsBlock, EndsLine, GoesOn, BeginsItem, Separates, IsItem, a_move, a_hint, a_bullet, a_branch, IsBlock, last, line, semicolon, IsScript, empty, block}
use Rattle.pg_script.specs.Scripts.{entries_of_tokens}

-- ---- lines

length-line : (column : ℕ) (ws next : List Word) → GoesOn column ws → EndsLine column next → line_length column (ws ++ next) ≡ length ws
length-line column [] [] g e = refl
length-line column [] (w ∷ next) g e = ap (λ b. if b then 0 else suc (line_length column next)) e
length-line column (w ∷ ws) next g e = ap (λ b. if b then 0 else suc (line_length column (ws ++ next))) g.0 ∙ ap suc (length-line column ws next g.1 e)

move-read : (column end room : ℕ) (w : Word) (ws next : List Word) (m : Step) → GoesOn column ws → EndsLine column next → move_at room (place end next) w ws ≡ Ok m
    → line_at false column end room w (ws ++ next) ≡ Ok (move m, room - steps_of m.shape, next)
move-read column end room w ws next m g e is =
    ap (λ n. line_of false end room n w (ws ++ next)) (length-line column ws next g e)
    ∙ ap (λ t. and_then (move_at room (place end (drop (length ws) (ws ++ next))) w t) (λ x. Ok (move x, room - steps_of x.shape, drop (length ws) (ws ++ next)))) (take_at ws next (length ws) refl)
    ∙ ap (λ d. and_then (move_at room (place end d) w ws) (λ x. Ok (move x, room - steps_of x.shape, d))) (drop_at ws next (length ws) refl)
    ∙ ap (λ r. and_then r (λ x. Ok (move x, room - steps_of x.shape, next))) is

hint-read : (column end room : ℕ) (w : Word) (ws next : List Word) (h : Remark) → GoesOn column ws → EndsLine column next → hint_at w.at (place end next) ws ≡ Ok h
    → line_at true column end room w (ws ++ next) ≡ Ok (hint h, room, next)
hint-read column end room w ws next h g e is =
    ap (λ n. line_of true end room n w (ws ++ next)) (length-line column ws next g e)
    ∙ ap (λ t. and_then (hint_at w.at (place end (drop (length ws) (ws ++ next))) t) (λ x. Ok (hint x, room, drop (length ws) (ws ++ next)))) (take_at ws next (length ws) refl)
    ∙ ap (λ d. and_then (hint_at w.at (place end d) ws) (λ x. Ok (hint x, room, d))) (drop_at ws next (length ws) refl)
    ∙ ap (λ r. and_then r (λ x. Ok (hint x, room, next))) is

-- ---- what follows an item

next-end : (column end : ℕ) (next : List Word) → EndsBlock column next → next_at column end next ≡ Ok None
next-end column end [] e = refl
next-end column end (w ∷ ws) e = rw e refl

next-line : (column end : ℕ) (v : Word) (ws : List Word) → BeginsItem column v → next_at column end (v ∷ ws) ≡ Ok (Some (v ∷ ws))
next-line column end v ws b = rw (b.0, b.1) refl

next-semicolon : (column end : ℕ) (s v : Word) (ws : List Word) → Separates column s → IsFalse (v.first && nat_lt v.column column) → next_at column end (s ∷ v ∷ ws) ≡ Ok (Some (v ∷ ws))
next-semicolon column end s v ws b f = rw (b.0, b.1, b.2, f) refl

-- an item, and what follows it
turn : (inner : ℕ → List Word → ReadEntries) (sample : Bool) (column end turns room left : ℕ) (ws rest : List Word) (x : Entry) (next : Read (Option (List Word)))
    → entry_at inner sample column end room ws ≡ Ok (x, left, rest) → next_at column end rest ≡ next
    → entries_at inner sample column end (suc turns) room ws ≡ entries_after x left rest (λ more. entries_at inner sample column end turns left more) next
turn inner sample column end turns room left ws rest x next is then_is =
    ap (λ r. and_then r (λ y. entries_after y.0 y.1 y.2 (λ more. entries_at inner sample column end turns y.1 more) (next_at column end y.2))) is
    ∙ ap (entries_after x left rest (λ more. entries_at inner sample column end turns left more)) then_is

pub item_some : {sample : Bool} {end budget column room left : ℕ} {ws next : List Word} {x : Entry} → IsItem sample end budget column room left ws next x → 0 < length ws
item_some (a_move budget column room w ws next m k g e is) = omega arith
item_some (a_hint budget column room w ws next h k g e is) = omega arith
item_some (a_bullet budget column room left w v vs next es k d b) = omega arith
item_some (a_branch budget column room left w v vs next es k d b) = omega arith

-- ---- items and blocks

within : (inner : ℕ → List Word → ReadEntries) (column end room : ℕ) (w v : Word) (vs : List Word) → IsTrue (stands_deeper column w v) → inner_at inner column end room w (v ∷ vs) ≡ inner room (v ∷ vs)
within inner column end room w v vs deeper = rw deeper refl

abbrev pub by_kind : (ℕ → List Word → ReadEntries) → (column end room : ℕ) → Word → List Word → Kind → Read (Entry × ℕ × List Word)
by_kind inner column end room w ws k = elim k [
  | kind.Move ↦ line_at false column end room w ws
  | kind.Hint ↦ line_at true column end room w ws
  | kind.Focus ↦ and_then (inner_at inner column end room w ws) (λ b. Ok (focus (entries_of b.0), b.1, b.2))
  | kind.Branch ↦ and_then (inner_at inner column end room w ws) (λ b. Ok (branch (entries_of b.0), b.1, b.2))
  | kind.NoItem ↦ Err (Expected w.at wanted.Item)
]

-- a block within others is read as its items
pub block-open : (budget : ℕ) (sample : Bool) (end room : ℕ) (w : Word) (ws : List Word)
    → block_at (suc budget) sample end room (w ∷ ws) ≡ entries_at (block_at budget sample end) sample w.column end (length (w ∷ ws)) room (w ∷ ws)
unfolding block_at
block-open budget sample end room w ws = refl

mutual
  pub item_read : {sample : Bool} {end budget column room left : ℕ} {ws next : List Word} {x : Entry} → IsItem sample end budget column room left ws next x
      → entry_at (block_at budget sample end) sample column end room (ws ++ next) ≡ Ok (x, left, next)
  item_read {sample = sample} {end = end} (a_move budget column room w ws next m k g e is) = ap (by_kind (block_at budget sample end) column end room w (ws ++ next)) k ∙ (move-read column end room w ws next m g e is)
  item_read {sample = sample} {end = end} (a_hint budget column room w ws next h k g e is) = ap (by_kind (block_at budget sample end) column end room w (ws ++ next)) k ∙ (hint-read column end room w ws next h g e is)
  item_read {sample = sample} {end = end} (a_bullet budget column room left w v vs next es k d b) =
      ap (by_kind (block_at (suc budget) sample end) column end room w (v ∷ vs ++ next)) k ∙ (ap (λ r. and_then r (λ y. Ok (focus (entries_of y.0), y.1, y.2))) (within (block_at (suc budget) sample end) column end room w v (vs ++ next) d ∙ block-open budget sample end room v (vs ++ next) ∙ block_read (length (v ∷ vs ++ next)) b (omega (arith, length-append (v ∷ vs) next))))
  item_read {sample = sample} {end = end} (a_branch budget column room left w v vs next es k d b) =
      ap (by_kind (block_at (suc budget) sample end) column end room w (v ∷ vs ++ next)) k ∙ (ap (λ r. and_then r (λ y. Ok (branch (entries_of y.0), y.1, y.2))) (within (block_at (suc budget) sample end) column end room w v (vs ++ next) d ∙ block-open budget sample end room v (vs ++ next) ∙ block_read (length (v ∷ vs ++ next)) b (omega (arith, length-append (v ∷ vs) next))))

  pub block_read : {sample : Bool} {end budget column room left : ℕ} {ws next : List Word} {xs : List Entry} (turns : ℕ) → IsBlock sample end budget column room left ws next xs → length ws ≤ turns
      → entries_at (block_at budget sample end) sample column end turns room (ws ++ next) ≡ Ok (xs, left, next)
  block_read zero (last budget column room left ws next x i e) le = absurd (omega (arith, le, item_some i))
  block_read zero (line budget column room between left ws vs next v x xs i n b) le = absurd (omega (arith, le, item_some i, length-append ws (v ∷ vs)))
  block_read zero (semicolon budget column room between left ws vs next s v x xs i n f b) le = absurd (omega (arith, le, item_some i, length-append ws (s ∷ v ∷ vs)))
  block_read {sample = sample} {end = end} (suc turns) (last budget column room left ws next x i e) le =
      turn (block_at budget sample end) sample column end turns room left (ws ++ next) next x (Ok None) (item_read i) (next-end column end next e)
  block_read {sample = sample} {end = end} (suc turns) (line budget column room between left ws vs next v x xs i n b) le =
      ap (λ t. entries_at (block_at budget sample end) sample column end (suc turns) room t) (append_assoc ws (v ∷ vs) next)
      ∙ turn (block_at budget sample end) sample column end turns room between (ws ++ (v ∷ vs ++ next)) (v ∷ vs ++ next) x (Ok (Some (v ∷ vs ++ next))) (item_read i) (next-line column end v (vs ++ next) n)
      ∙ ap (with_entry x) (block_read turns b (omega (arith, le, item_some i, length-append ws (v ∷ vs))))
  block_read {sample = sample} {end = end} (suc turns) (semicolon budget column room between left ws vs next s v x xs i n f b) le =
      ap (λ t. entries_at (block_at budget sample end) sample column end (suc turns) room t) (append_assoc ws (s ∷ v ∷ vs) next)
      ∙ turn (block_at budget sample end) sample column end turns room between (ws ++ (s ∷ v ∷ vs ++ next)) (s ∷ v ∷ vs ++ next) x (Ok (Some (v ∷ vs ++ next))) (item_read i) (next-semicolon column end s v (vs ++ next) n f)
      ∙ ap (with_entry x) (block_read turns b (omega (arith, le, item_some i, length-append ws (s ∷ v ∷ vs))))

-- what is laid out is read
pub script-open : (sample : Bool) (end : ℕ) (w : Word) (ws : List Word) → entries_of_tokens (w ∷ ws) end sample ≡ and_then (block_at 16 sample end 200 (w ∷ ws)) (λ b. ended b.0 b.2)
unfolding entries_of_tokens
script-open sample end w ws = refl

pub script-empty : (sample : Bool) (end : ℕ) → entries_of_tokens [] end sample ≡ Ok []
unfolding entries_of_tokens
script-empty sample end = refl

pub script_read : {sample : Bool} {end : ℕ} {ws : List Word} {xs : List Entry} → IsScript sample end ws xs → entries_of_tokens ws end sample ≡ Ok xs
script_read {sample = sample} {end = end} empty = script-empty sample end
script_read {sample = sample} {end = end} (block left w vs es b) =
    script-open sample end w vs
    ∙ ap (λ r. and_then r (λ x. ended x.0 x.2)) (block-open 15 sample end 200 w vs ∙ ap (λ t. entries_at (block_at 15 sample end) sample w.column end (length (w ∷ vs)) 200 t) (sym (append-nil (w ∷ vs))) ∙ block_read (length (w ∷ vs)) b (omega arith))
