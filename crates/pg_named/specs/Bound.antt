-- The words of binders and parameters.
use Rattle.std.specs.Prelude.{ℕ, zero, suc, ◌<◌, Bool, false, List, [], ◌∷◌, Option, Some, None, option_map, Result, Ok, Err, if◌then◌else◌, nat_lt}
use Rattle.pg_base.specs.Tokens.{Word}
use Rattle.pg_gametext.specs.Faults.{Fault, fault, LimitName, Limit}
use Rattle.pg_gametext.specs.Before.{Given}
use Rattle.pg_faults.specs.declared.fault.Fault as its
use Rattle.pg_faults.specs.View as view

-- words that stand behind this place, one behind the other
abbrev pub RisesFrom : ℕ → List Word → Type 0
RisesFrom at [] = Unit {0}
RisesFrom at (w ∷ ws) = (at < w.at) × RisesFrom w.at ws

-- words that stand one behind the other
abbrev pub Rises : List Word → Type 0
Rises [] = Unit {0}
Rises (w ∷ ws) = RisesFrom w.at ws

-- whether a word stands behind the last place, if there is one
abbrev pub stands_behind : (last : Option ℕ) → Word → Bool
stands_behind None w = false
stands_behind (Some at) w = nat_lt at w.at

-- the words that do not
abbrev pub up_to : (last : Option ℕ) → List Word → List Word
up_to last [] = []
up_to last (w ∷ ws) = if stands_behind last w then up_to last ws else w ∷ up_to last ws

-- names before others, the nearest first
abbrev pub over : List Given → List Given → List Given
over taken [] = taken
over taken (g ∷ gs) = over (g ∷ taken) gs

-- the place of a fault that there may be
abbrev pub place_of : Option Fault → Option ℕ
place_of = option_map (λ (f : Fault). f.at)

-- where there is room for so many words, how much these leave, or the fault of the first that is too many
abbrev pub room_behind : LimitName → (limit room : ℕ) → List Word → Result ℕ Fault
room_behind what limit room [] = Ok room
room_behind what limit zero (w ∷ ws) = Err (fault w.at (Limit what (suc limit)))
room_behind what limit (suc room) (w ∷ ws) = room_behind what limit room ws

-- such an answer
abbrev pub left : Result ℕ its.Fault → Result ℕ Fault
left (Ok room) = Ok room
left (Err f) = Err (view.fault f)
