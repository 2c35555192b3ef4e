-- How many hints there may still be.
use Rattle.std.specs.Prelude.{◌≡◌, ℕ, zero, suc, ◌+◌, List, [], ◌∷◌, length, Some, Result, Ok, Err}
use Rattle.pg_script.specs.Data.{Part}
use Rattle.pg_gametext.specs.Faults.{least}
use Rattle.pg_gametext.specs.Checks.{block_hints, hint_faults}
use Rattle.pg_faults.specs.View.{fault}
use Rattle.pg_hints.specs.declared.samples.SampleFault.{SampleFault}
use Rattle.pg_hints.specs.declared.samples.SampleFault.TheVariants as fault_of

-- Where so many hints may stand, and hints stand at these places: how many more may, or the place of the first that is
-- too many.
abbrev pub left_of : (room : ℕ) → List ℕ → Result ℕ ℕ
left_of room [] = Ok room
left_of zero (at ∷ ats) = Err at
left_of (suc room) (at ∷ ats) = left_of room ats

-- Where so many hints stand before a block: without a fault how many there are with its own, else its first fault.
abbrev pub AreCounted : (before : ℕ) → Part → Result ℕ SampleFault → Type 0
AreCounted before p (Ok n) = (hint_faults before (block_hints (Some p)) ≡ []) × (n ≡ length (block_hints (Some p)) + before)
AreCounted before p (Err (fault_of.Fault f)) = least (hint_faults before (block_hints (Some p))) ≡ Some (fault f)
AreCounted before p (Err fault_of.OutOfMemory) = Unit {0}
