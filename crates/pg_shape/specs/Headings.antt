-- What the values of the Rust types stand for.
use Rattle.std.specs.Prelude.{ℕ, ◌≡◌, Bool, true, false, List, map, Option, Some, None}
use Rattle.pg_grammar.specs.Shapes as grammar
use Rattle.pg_grammar.specs.Machine as machine
use Rattle.pg_shape.specs.View.{group, bracket}
use Rattle.pg_shape.specs.declared.heading.Part.{Part}
use Rattle.pg_shape.specs.declared.heading.Part.TheVariants.{Unnamed, PlainNames, PlainColon, PlainTyped, GroupOpen, GroupNames, GroupColon, GroupTyped, GroupClosed}
use Rattle.pg_shape.specs.declared.heading.Heading.{Heading}

-- the groups before the last one, where the last one opens, and its names
abbrev pub heading_of : Part → List grammar.Bracket → ℕ → grammar.Group → machine.Heading
heading_of Unnamed bs at g = machine.Unnamed
heading_of PlainNames bs at g = machine.PlainNames g
heading_of PlainColon bs at g = machine.PlainColon g
heading_of PlainTyped bs at g = machine.PlainTyped g
heading_of GroupOpen bs at g = machine.GroupOpen bs at
heading_of GroupNames bs at g = machine.GroupNames bs at g
heading_of GroupColon bs at g = machine.GroupColon bs at g
heading_of GroupTyped bs at g = machine.GroupTyped bs at g
heading_of GroupClosed bs at g = machine.GroupClosed bs (machine.bracket at g)

abbrev pub heading : Heading → machine.Heading
heading h = heading_of h.part (map bracket h.groups) h.at (group h.names)

-- one step of a machine is this one where it goes on, and else there is none
abbrev pub Goes : {A : Type 0} → Option A → Bool → A → Type 0
Goes step true now = step ≡ Some now
Goes step false now = step ≡ None
