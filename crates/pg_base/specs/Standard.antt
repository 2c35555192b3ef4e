-- The door of the standard streams.
use Rattle.std.specs.Prelude.{Option, Some, None}
use Rattle.pg_base.specs.Outside.{next_counts}
use Rattle.pg_base.specs.declared.outside.Counts.{Counts}
use Rattle.pg_base.specs.declared.outside.Place.{Place}
use Rattle.pg_base.specs.declared.outside.Place.TheVariants.{Standard, Port}
use Rattle.pg_base.specs.declared.standard.Pipe.{Pipe}

-- it is a port, and not the standard streams
abbrev pub IsPort : Place → Type 0
IsPort Standard = ⊥
IsPort (Port n) = Unit {0}

-- with the counts of a connection, or as before where there is none
abbrev pub counts_of : {R W : Type 0} → Counts → Option (Pipe R W) → Counts
counts_of before None = before
counts_of before (Some pipe) = next_counts before pipe.read_faults pipe.write_faults
