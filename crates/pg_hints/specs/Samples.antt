-- What a block is, and its first fault.
use Rattle.std.specs.Prelude.{◌≡◌, List, [], map, Option, Some, option_map, Result, Ok, Err}
use Rattle.pg_script.specs.Data.{Part, Entry}
use Rattle.pg_script.specs.View.{entry}
use Rattle.pg_script.specs.declared.item.Script.{Script}
use Rattle.pg_gametext.specs.Faults.{least}
use Rattle.pg_gametext.specs.Checks.{block_faults}
use Rattle.pg_gametext.specs.Game.{sample_of}
use Rattle.pg_faults.specs.View.{fault}
use Rattle.pg_hints.specs.declared.samples.SampleFault.{SampleFault}
use Rattle.pg_hints.specs.declared.samples.SampleFault.TheVariants as fault_of

abbrev pub script : Script → List Entry
script s = map entry s.items

-- Without a fault the answer is the block's script, or none where the block is `sorry`; else it is the first fault.
abbrev pub IsSample : Part → Result (Option Script) SampleFault → Type 0
IsSample p (Ok s) = (block_faults (Some p) ≡ []) × (sample_of (Some p) ≡ option_map script s)
IsSample p (Err (fault_of.Fault f)) = least (block_faults (Some p)) ≡ Some (fault f)
IsSample p (Err fault_of.OutOfMemory) = Unit {0}
