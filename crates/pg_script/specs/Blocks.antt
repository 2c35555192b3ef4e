-- Reading blocks, item by item.
use Rattle.std.specs.Prelude.{ℕ, zero, suc, ◌-◌, Bool, true, false, ◌&&◌, ◌||◌, List, [], ◌∷◌, length, take, drop, Option, Some, None, Ok, Err, if◌then◌else◌, ◌==◌, nat_le, nat_lt, not, codes}
use Rattle.std.specs.Str.{bytes_eq}
use Rattle.pg_base.specs.declared.token.Wanted.TheVariants as wanted
use Rattle.pg_base.specs.Tokens.{Word}
use Rattle.pg_script.specs.declared.fault.ScriptFault.{ScriptFault}
use Rattle.pg_script.specs.declared.fault.ScriptFault.TheVariants.{Expected, TooMany, Deep}
use Rattle.pg_script.specs.declared.mark.Mark.TheVariants.{Semicolon, Bullet, Free}
use Rattle.pg_script.specs.declared.block.Kind.{Kind}
use Rattle.pg_script.specs.declared.block.Kind.TheVariants as kind
use Rattle.pg_script.specs.Data.{Shape, intro, rewrite, uses, Step, Entry, move, focus, branch, hint, entries_of}
use Rattle.pg_script.specs.Marks.{mark, place}
use Rattle.pg_script.specs.Lines.{Read, and_then, head_of, shape_at, hint_at}

-- the first so many items, the steps that may still stand, and the tokens that are left
abbrev pub ReadEntries : Type 0
ReadEntries = Read (List Entry × ℕ × List Word)

-- ---- lines

-- first of its line, at the block's column or at a smaller one
abbrev pub ends_line : ℕ → Word → Bool
ends_line column w = w.first && nat_le w.column column

abbrev pub is_semicolon : Word → Bool
is_semicolon w = elim (mark w) [ Semicolon ↦ true | _ ↦ false ]

-- how many tokens go on with an item of a block at this column
abbrev pub line_length : ℕ → List Word → ℕ
line_length column [] = 0
line_length column (w ∷ ws) = if is_semicolon w || ends_line column w then 0 else suc (line_length column ws)

-- ---- items

-- what kind of item begins with this token. Only a sample has branches and hints.
abbrev pub named_kind : Bool → List ℕ → Kind
named_kind false text = kind.Move
named_kind true text =
    if bytes_eq text (codes "Branch") then kind.Branch
    else (if bytes_eq text (codes "Hint") then kind.Hint else kind.Move)

abbrev pub kind_of : Bool → Word → Kind
kind_of sample w = elim (mark w) [ Bullet ↦ kind.Focus | Free ↦ named_kind sample w.text | _ ↦ kind.NoItem ]

-- how many steps a move has
abbrev pub steps_of : Shape → ℕ
steps_of (intro names) = length names
steps_of (rewrite rules h) = length rules
steps_of (uses terms) = length terms
steps_of _ = 1

-- a move from its word and the tokens behind it, where so many more steps may stand
abbrev pub move_at : (room end : ℕ) → Word → List Word → Read Step
move_at room end w ws =
    if room == 0 then Err (TooMany w.at)
    else and_then (shape_at (head_of w.text) room end ws) (λ s. Ok (record { at = w.at; head = w.text; shape = s }))

-- the block behind a bullet or a branch stands at a greater column than that token, and within its item
abbrev pub stands_deeper : ℕ → Word → Word → Bool
stands_deeper column w v = nat_lt w.column v.column && not (ends_line column v)

abbrev pub inner_at : (ℕ → List Word → ReadEntries) → (column end room : ℕ) → Word → List Word → ReadEntries
inner_at inner column end room w [] = Err (Expected end wanted.Block)
inner_at inner column end room w (v ∷ vs) = if stands_deeper column w v then inner room (v ∷ vs) else Err (Expected v.at wanted.Block)

-- a move or a hint, of so many tokens behind its word
abbrev pub line_of : (is_hint : Bool) → (end room n : ℕ) → Word → List Word → Read (Entry × ℕ × List Word)
line_of true end room n w ws = and_then (hint_at w.at (place end (drop n ws)) (take n ws)) (λ h. Ok (hint h, room, drop n ws))
line_of false end room n w ws = and_then (move_at room (place end (drop n ws)) w (take n ws)) (λ m. Ok (move m, room - steps_of m.shape, drop n ws))

abbrev pub line_at : (is_hint : Bool) → (column end room : ℕ) → Word → List Word → Read (Entry × ℕ × List Word)
line_at is_hint column end room w ws = line_of is_hint end room (line_length column ws) w ws

-- an item of a block at this column, the steps that may still stand, and the tokens that are left
abbrev pub entry_at : (ℕ → List Word → ReadEntries) → Bool → (column end room : ℕ) → List Word → Read (Entry × ℕ × List Word)
entry_at inner sample column end room [] = Err (Expected end wanted.Item)
entry_at inner sample column end room (w ∷ ws) =
    elim (kind_of sample w) [
      | kind.Move ↦ line_at false column end room w ws
      | kind.Hint ↦ line_at true column end room w ws
      | kind.Focus ↦ and_then (inner_at inner column end room w ws) (λ b. Ok (focus (entries_of b.0), b.1, b.2))
      | kind.Branch ↦ and_then (inner_at inner column end room w ws) (λ b. Ok (branch (entries_of b.0), b.1, b.2))
      | kind.NoItem ↦ Err (Expected w.at wanted.Item)
    ]

-- ---- blocks

-- behind `;` an item has to follow
abbrev pub after_semicolon : (column end : ℕ) → List Word → Read (Option (List Word))
after_semicolon column end [] = Err (Expected end wanted.Item)
after_semicolon column end (v ∷ vs) = if v.first && nat_lt v.column column then Err (Expected v.at wanted.Item) else Ok (Some (v ∷ vs))

-- the tokens of the next item, behind an item of a block at this column, or None where the block ends
abbrev pub next_at : (column end : ℕ) → List Word → Read (Option (List Word))
next_at column end [] = Ok None
next_at column end (w ∷ ws) =
    if w.first && nat_lt w.column column then Ok None
    else (if w.first && (w.column == column) then Ok (Some (w ∷ ws))
    else (if is_semicolon w then after_semicolon column end ws
    else Err (Expected w.at wanted.EndOfItem)))

abbrev pub with_entry : Entry → ReadEntries → ReadEntries
with_entry e (Ok (es, room, rest)) = Ok (e ∷ es, room, rest)
with_entry e (Err fault) = Err fault

abbrev pub entries_after : Entry → ℕ → List Word → (List Word → ReadEntries) → Read (Option (List Word)) → ReadEntries
entries_after e room rest more (Err fault) = Err fault
entries_after e room rest more (Ok None) = Ok (e ∷ [], room, rest)
entries_after e room rest more (Ok (Some next)) = with_entry e (more next)

-- at most so many items of a block at this column, at least one
abbrev pub entries_at : (ℕ → List Word → ReadEntries) → Bool → (column end turns room : ℕ) → List Word → ReadEntries
entries_at inner sample column end zero room ws = Err (Expected (place end ws) wanted.Item)
entries_at inner sample column end (suc turns) room ws =
    and_then (entry_at inner sample column end room ws)
    (λ x. entries_after x.0 x.1 x.2 (λ next. entries_at inner sample column end turns x.1 next) (next_at column end x.2))

-- what is wrong where a block is nested too deep
abbrev pub too_deep : Bool → (end room : ℕ) → List Word → ScriptFault
too_deep sample end room [] = Expected end wanted.Block
too_deep sample end room (w ∷ ws) = elim (kind_of sample w) [
  | kind.NoItem ↦ Expected w.at wanted.Item
  | kind.Move ↦ if room == 0 then TooMany w.at else Deep w.at
  | _ ↦ Deep w.at
]

-- A block at the front, within which at most so many others may be nested, itself included. Its column is that of its
-- first token. Each item has a token at least, so there are at most as many items as tokens.
unfoldable pub block_at : ℕ → Bool → (end room : ℕ) → List Word → ReadEntries
block_at zero sample end room ws = Err (too_deep sample end room ws)
block_at (suc budget) sample end room [] = Err (Expected end wanted.Block)
block_at (suc budget) sample end room (w ∷ ws) = entries_at (block_at budget sample end) sample w.column end (length (w ∷ ws)) room (w ∷ ws)
