-- Limits that formulas pass, where these are not made.
use Rattle.std.specs.Prelude.{◌≡◌, ◌≤◌, Some, Result, Ok, Err}
use Rattle.pg_logic.specs.Tree.{Fm, nodes_of}
use Rattle.pg_moves.specs.Causes.{Tried}
use Rattle.pg_moves.specs.Measures.{first_over, formula_measures}
use Rattle.pg_reduction.specs.declared.cause.Cause.{Cause}
use Rattle.pg_reduction.specs.declared.cause.ActFault.TheVariants.{Stop, OutOfMemory}
use Rattle.pg_reduction.specs.Limits.{Tells}
use Rattle.pg_reduction.specs.View.{cause_of}
use Rattle.pg_rewrites.specs.declared.measuring.Refusal.{Refusal}
use Rattle.pg_rewrites.specs.declared.measuring.Refusal.TheVariants.{Large, Fault}

-- the formula is there, and this is the first limit that it passes
abbrev pub IsLarge : Tried Fm → Cause → Type 0
IsLarge (Ok a) c = Tells (first_over (formula_measures a)) (Some c)
IsLarge (Err e) c = ⊥

-- it is there, and has at most 4,096 nodes
abbrev pub IsSmall : Tried Fm → Type 0
IsSmall (Ok a) = nodes_of a ≤ 4096
IsSmall (Err e) = ⊥

-- A value, where the formula that comes of it is small; else the limit that the formula passes, or why there is no value.
abbrev pub Forms : {X Y : Type 0} → (X → Y) → Tried Y → Tried Fm → Result X Refusal → Type 0
Forms view want made (Ok x) = (want ≡ Ok (view x)) × IsSmall made
Forms view want made (Err (Large c)) = IsLarge made c
Forms view want made (Err (Fault (Stop c))) = want ≡ Err (cause_of c)
Forms view want made (Err (Fault OutOfMemory)) = Unit {0}
