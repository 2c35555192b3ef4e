-- The faults of `pg_gametext` that the Rust types stand for. What could stand at a place is told besides.
use Rattle.std.specs.Prelude.{Option, Some, None, option_map}
use Rattle.pg_gametext.specs.Faults as text
use Rattle.pg_faults.specs.declared.fault.Fault.{Fault}
use Rattle.pg_faults.specs.declared.fault.Kind.{Kind}
use Rattle.pg_faults.specs.declared.fault.Kind.TheVariants as its
use Rattle.pg_faults.specs.declared.fault.LimitName.{LimitName}
use Rattle.pg_faults.specs.declared.fault.LimitName.TheVariants as name

abbrev pub limit : LimitName → text.LimitName
limit name.Worlds = text.Worlds
limit name.Levels = text.Levels
limit name.Functions = text.Functions
limit name.Predicates = text.Predicates
limit name.Arity = text.Arity
limit name.Tokens = text.Tokens
limit name.Nesting = text.Nesting
limit name.Nodes = text.Nodes
limit name.Height = text.Height
limit name.Variables = text.Variables
limit name.Hypotheses = text.Hypotheses
limit name.ScriptBytes = text.ScriptBytes
limit name.Steps = text.Steps
limit name.Blocks = text.Blocks
limit name.Hints = text.Hints

abbrev pub kind : Kind → text.Kind
kind its.BadToken = text.BadToken
kind (its.Expected what) = text.Expected
kind its.Unknown = text.Unknown
kind (its.Duplicate first) = text.Duplicate first
kind (its.LevelGap expected) = text.LevelGap expected
kind (its.Limit what count) = text.Limit (limit what) count
kind its.NotRecursive = text.NotRecursive

abbrev pub fault : Fault → text.Fault
fault f = record { at = f.at; kind = kind f.kind }

-- a fault or none
abbrev pub found : Option Fault → Option text.Fault
found = option_map fault

-- the first of two that there may be
abbrev pub sooner : Option text.Fault → Option text.Fault → Option text.Fault
sooner None g = g
sooner (Some f) g = Some (text.earlier f g)
