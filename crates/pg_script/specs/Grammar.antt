-- How a script falls into blocks and items by columns, told without a reader. What stands inside a move or a hint is
-- `move_at` or `hint_at` here: Forms.antt tells it without a reader, and the laws of src/laws.rt that the two are one.
use Rattle.std.specs.Prelude.{◌≡◌, ℕ, suc, ◌-◌, Bool, ◌&&◌, ◌||◌, List, [], ◌∷◌, ◌++◌, Result, Ok, Err, nat_lt, IsTrue, IsFalse, ◌==◌}
use Rattle.pg_base.specs.Tokens.{Word}
use Rattle.pg_script.specs.declared.fault.ScriptFault.{ScriptFault}
use Rattle.pg_script.specs.declared.fault.ScriptFault.TheVariants.{OutOfMemory}
use Rattle.pg_script.specs.declared.item.Script.{Script}
use Rattle.pg_script.specs.declared.block.Kind.TheVariants as kind
use Rattle.pg_script.specs.Data.{Entry, move, focus, branch, hint, entries_of, Step, Remark}
use Rattle.pg_script.specs.Scripts.{script}
use Rattle.pg_script.specs.Marks.{place}
use Rattle.pg_script.specs.Lines.{hint_at}
use Rattle.pg_script.specs.Blocks.{ends_line, is_semicolon, kind_of, move_at, steps_of, stands_deeper}

-- ---- what follows

-- the end of the text, or a token that is first of its line at a smaller column than this
abbrev pub EndsBlock : ℕ → List Word → Type 0
EndsBlock column [] = Unit {0}
EndsBlock column (w ∷ ws) = IsTrue (w.first && nat_lt w.column column)

-- the end of the text, `;`, or a token that is first of its line at this column or a smaller one
abbrev pub EndsLine : ℕ → List Word → Type 0
EndsLine column [] = Unit {0}
EndsLine column (w ∷ ws) = IsTrue (is_semicolon w || ends_line column w)

-- none of these tokens is `;`, or first of its line at this column or a smaller one
abbrev pub GoesOn : ℕ → List Word → Type 0
GoesOn column [] = Unit {0}
GoesOn column (w ∷ ws) = IsFalse (is_semicolon w || ends_line column w) × GoesOn column ws

-- a token that is first of its line at this column
abbrev pub BeginsItem : ℕ → Word → Type 0
BeginsItem column w = IsFalse (w.first && nat_lt w.column column) × IsTrue (w.first && (w.column == column))

-- `;`, and not first of its line at this column or a smaller one
abbrev pub Separates : ℕ → Word → Type 0
Separates column w = IsFalse (w.first && nat_lt w.column column) × IsFalse (w.first && (w.column == column)) × IsTrue (is_semicolon w)

-- ---- items and blocks

mutual
  -- These tokens, with what follows them, are this item of a block at this column. At most so many blocks are nested
  -- within it. Before it so many more steps may stand, and behind it.
  pub data IsItem (sample : Bool) (end : ℕ) : (budget column room left : ℕ) → (ws next : List Word) → Entry → Type 0 where
    a_move : (budget column room : ℕ) (w : Word) (ws next : List Word) (m : Step) → kind_of sample w ≡ kind.Move → GoesOn column ws → EndsLine column next
        → move_at room (place end next) w ws ≡ Ok m → IsItem sample end budget column room (room - steps_of m.shape) (w ∷ ws) next (move m)
    a_hint : (budget column room : ℕ) (w : Word) (ws next : List Word) (h : Remark) → kind_of sample w ≡ kind.Hint → GoesOn column ws → EndsLine column next
        → hint_at w.at (place end next) ws ≡ Ok h → IsItem sample end budget column room room (w ∷ ws) next (hint h)
    a_bullet : (budget column room left : ℕ) (w v : Word) (vs next : List Word) (es : List Entry) → kind_of sample w ≡ kind.Focus → IsTrue (stands_deeper column w v)
        → IsBlock sample end budget v.column room left (v ∷ vs) next es → IsItem sample end (suc budget) column room left (w ∷ v ∷ vs) next (focus (entries_of es))
    a_branch : (budget column room left : ℕ) (w v : Word) (vs next : List Word) (es : List Entry) → kind_of sample w ≡ kind.Branch → IsTrue (stands_deeper column w v)
        → IsBlock sample end budget v.column room left (v ∷ vs) next es → IsItem sample end (suc budget) column room left (w ∷ v ∷ vs) next (branch (entries_of es))

  -- The same of the items of a block: one behind the other, each on a line of its own at the block's column or behind `;`.
  pub data IsBlock (sample : Bool) (end : ℕ) : (budget column room left : ℕ) → (ws next : List Word) → List Entry → Type 0 where
    last : (budget column room left : ℕ) (ws next : List Word) (x : Entry) → IsItem sample end budget column room left ws next x → EndsBlock column next
        → IsBlock sample end budget column room left ws next (x ∷ [])
    line : (budget column room between left : ℕ) (ws vs next : List Word) (v : Word) (x : Entry) (xs : List Entry) → IsItem sample end budget column room between ws (v ∷ vs ++ next) x
        → BeginsItem column v → IsBlock sample end budget column between left (v ∷ vs) next xs → IsBlock sample end budget column room left (ws ++ v ∷ vs) next (x ∷ xs)
    semicolon : (budget column room between left : ℕ) (ws vs next : List Word) (s v : Word) (x : Entry) (xs : List Entry) → IsItem sample end budget column room between ws (s ∷ v ∷ vs ++ next) x
        → Separates column s → IsFalse (v.first && nat_lt v.column column) → IsBlock sample end budget column between left (v ∷ vs) next xs
        → IsBlock sample end budget column room left (ws ++ s ∷ v ∷ vs) next (x ∷ xs)

-- These tokens, up to the end, are this script: nothing, or a block at the column of its first token with at most 200
-- steps, within which at most 15 blocks are nested.
pub data IsScript (sample : Bool) (end : ℕ) : List Word → List Entry → Type 0 where
  empty : IsScript sample end [] []
  block : (left : ℕ) (w : Word) (ws : List Word) (es : List Entry) → IsBlock sample end 15 w.column 200 left (w ∷ ws) [] es → IsScript sample end (w ∷ ws) es

-- What was read is a script.
abbrev pub ReadsScript : Bool → (end : ℕ) → List Word → Result Script ScriptFault → Type 0
ReadsScript sample end ws (Ok s) = IsScript sample end ws (script s)
ReadsScript sample end ws (Err e) = Unit {0}

-- Of a script that these tokens are, no other answer is given but want of memory.
abbrev pub ReadsAll : Bool → (end : ℕ) → List Word → Result Script ScriptFault → Type 0
ReadsAll sample end ws (Ok s) = (es : List Entry) → IsScript sample end ws es → script s ≡ es
ReadsAll sample end ws (Err e) = (es : List Entry) → IsScript sample end ws es → e ≡ OutOfMemory
