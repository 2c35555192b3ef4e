-- Links that are read one after the other.
use Rattle.std.specs.Prelude.{ℕ, Bool, true, false, List, [], ◌∷◌, ◌++◌, Option, Some, None}
use Rattle.pg_base.specs.Tokens.{Word}
use Rattle.pg_gametext.specs.Forms.{Taken, Told, Link, token_taken, with_link, links_after, is_arrow}
use Rattle.pg_gametext.specs.Commands.{is_plain}

-- whether links end here, of which the flag says that one stands already
abbrev pub are_ended : (some : Bool) → List Word → Bool
are_ended some [] = some
are_ended some (w ∷ ws) = false

-- an arrow and a world
abbrev pub world_behind : ℕ → Taken (Option Word) → Taken (Option Word)
world_behind end arrow = elim arrow.stuck [ Some at ↦ record { value = None; stuck = Some at; rest = [] } | None ↦ token_taken is_plain end arrow.rest ]

abbrev pub second_world : ℕ → List Word → Taken (Option Word)
second_world end ws = world_behind end (token_taken is_arrow end ws)

-- the links behind a world, where this is the next one
abbrev pub links_on : Word → ℕ → Taken (Option Word) → Told (List Link)
links_on a end next = elim next.value [
  | None ↦ record { value = []; stuck = next.stuck }
  | Some b ↦ with_link (record { before = a; after = b }) (links_after true end b next.rest)
]

-- links, and those behind them
abbrev pub with_links : List Link → Told (List Link) → Told (List Link)
with_links ls t = record { value = ls ++ t.value; stuck = t.stuck }
