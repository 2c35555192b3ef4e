-- Scripts that are read: their moves are written, and how many items and parts they have.
use Rattle.std.proofs.Common.{◌≡◌, ◌∙◌, ℕ, ◌+◌, ◌<◌, ◌≤◌, ◌^◌, Bool, List, [], ◌∷◌, length, Ok, sym, arith, length-append}
use Rattle.std.proofs.lemmas.List.Elements.{recursion_from_All}
use Rattle.pg_base.specs.Layout.{written}
use Rattle.pg_base.specs.Spans.{AreInOrder}
use Rattle.pg_base.specs.Tokens.{Word}
use Rattle.pg_script.specs.Data.{Entry, entries_of}
use Rattle.pg_script.specs.Grammar.{IsItem, a_move, a_hint, a_bullet, a_branch, IsBlock, last, line, semicolon, IsScript, empty, block}
use Rattle.pg_script.specs.Marks.{place}
use Rattle.pg_script.specs.Scripts.{entries_of_tokens}
use Rattle.pg_script.proofs.Found.{script_laid}
use Rattle.pg_script.proofs.Shapes.{move_found}
use Rattle.pg_moves.specs.Runs.{items_in, items_among, parts_in, parts_among}
use Rattle.pg_runs.specs.Written.{AreWrittenIn, AreWritten, AreRead, ItemsLaw}
use Rattle.pg_runs.proofs.Texts.{IsText, Texts, front, behind, some, not-none, name-some, move-name}
use Rattle.pg_runs.proofs.Shapely.{shapely}

-- An item of these tokens, items: written, with as many parts as there is less room behind them, and no more items than tokens.
abbrev ItemIn : (room left : ℕ) → List Word → Entry → Type 0
ItemIn room left ws x = AreWrittenIn x × (left + parts_in x ≡ room) × (items_in x ≤ length ws)

abbrev BlockIn : (room left : ℕ) → List Word → List Entry → Type 0
BlockIn room left ws xs = AreWritten (entries_of xs) × (left + parts_among (entries_of xs) ≡ room) × (items_among (entries_of xs) ≤ length ws)

mutual
  item-in : {sample : Bool} {end budget column room left : ℕ} {ws next : List Word} {x : Entry} → IsItem sample end budget column room left ws next x → room ≤ 200 → Texts ws → ItemIn room left ws x
  item-in {sample = sample} {end = end} (a_move budget column room w ws next m k g e is) le t =
      let f = move_found room (place end next) w ws m is in (
        record { head = λ n. name-some w.kind w.text (move-name sample w k) t.0 (sym f.word ∙ n); few = omega (arith, f.steps, le); tokens = shapely f.form t.1 },
        omega (arith, f.steps),
        omega arith,
      )
  item-in (a_hint budget column room w ws next h k g e is) le t = (tt, omega arith, omega arith)
  item-in (a_bullet budget column room left w v vs next es k d b) le t = let r = block-in b le t.1 in (r.0, r.1, omega (arith, r.2))
  item-in (a_branch budget column room left w v vs next es k d b) le t = let r = block-in b le t.1 in (r.0, r.1, omega (arith, r.2))

  block-in : {sample : Bool} {end budget column room left : ℕ} {ws next : List Word} {xs : List Entry} → IsBlock sample end budget column room left ws next xs → room ≤ 200 → Texts ws → BlockIn room left ws xs
  block-in (last budget column room left ws next x i e) le t = let r = item-in i le t in ((r.0, tt), omega (arith, r.1), omega (arith, r.2))
  block-in (line budget column room between left ws vs next v x xs i n b) le t =
      let r = item-in i le (front ws (v ∷ vs) t) in
      let q = block-in b (omega (arith, r.1, le)) (behind ws (v ∷ vs) t) in
      ((r.0, q.0), omega (arith, r.1, q.1), omega (arith, r.2, q.2, length-append ws (v ∷ vs)))
  block-in (semicolon budget column room between left ws vs next s v x xs i n f b) le t =
      let r = item-in i le (front ws (s ∷ v ∷ vs) t) in
      let q = block-in b (omega (arith, r.1, le)) (behind ws (s ∷ v ∷ vs) t).1 in
      ((r.0, q.0), omega (arith, r.1, q.1), omega (arith, r.2, q.2, length-append ws (s ∷ v ∷ vs)))

script-in : {sample : Bool} {end : ℕ} {ws : List Word} {xs : List Entry} → IsScript sample end ws xs → Texts ws → length ws < 2 ^ 32 → AreRead xs
script-in empty t few = record { written = tt; items = omega arith; parts = omega arith }
script-in (block left w ws es b) t few = let r = block-in b (omega arith) t in record { written = r.0; items = omega (arith, r.2, few); parts = omega (arith, r.1) }

-- Tokens with texts of their kinds, fewer than 2^32.
pub read : (ws : List Word) (end : ℕ) (sample : Bool) (es : List Entry) → Texts ws → length ws < 2 ^ 32 → entries_of_tokens ws end sample ≡ Ok es → AreRead es
read ws end sample es t few h = script-in (script_laid sample end ws es h) t few

-- ---- how many tokens there are

counted : (at end : ℕ) (ws : List Word) → AreInOrder at end ws → Texts ws → at + length ws ≤ end
counted at end [] o t = omega (arith, o)
counted at end (w ∷ ws) o t = omega (arith, o.0, not-none (written w.kind w.text) (some w.kind w.text t.0), counted (w.at + length (written w.kind w.text)) end ws o.1 t.1)

pub items_read : ItemsLaw
items_read ws end sample es are lt h =
    let t : Texts ws = recursion_from_All IsText ws are.texts in
    read ws end sample es t (omega (arith, lt, counted 0 end ws are.in_order t)) h
