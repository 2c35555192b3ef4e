-- What the calls answer, against the definitions. Only want of memory is free.
use Rattle.std.specs.Prelude.{ℕ, ◌≡◌, ◌≤◌, ◌<◌, ◌-◌, ◌^◌, min, Bool, true, false, List, length, Some, None, Result, Ok, Err, slice_get}
use Rattle.pg_logic.specs.Tree.{Tm, bound, Fm, nodes_of}
use Rattle.pg_logic.specs.Declarations.{Name}
use Rattle.pg_terms.specs.declared.term.Term.{Term}
use Rattle.pg_terms.specs.declared.formula.Formula.{Formula}
use Rattle.pg_terms.specs.View.{terms, formula}
use Rattle.pg_moves.specs.Causes as causes
use Rattle.pg_moves.specs.Instances.{Values, first_instance}
use Rattle.pg_moves.specs.Replaced.{replaced_formula}
use Rattle.pg_moves.specs.Stripped.{fixed}
use Rattle.pg_match.specs.View.{found_values}
use Rattle.pg_match.specs.declared.found.Found.{Found}
use Rattle.pg_match.specs.declared.fault.MatchFault.{MatchFault}
use Rattle.pg_match.specs.declared.fault.MatchFault.TheVariants.{BarePattern, NoInstance, Undetermined, TooLarge, OutOfMemory}

-- whether a pattern is a hole alone
abbrev pub is_bare : Tm → Bool
is_bare (bound i) = true
is_bare _ = false

-- the values for the first instance, or why there are none
abbrev pub Finds : (pattern : Tm) → (holes : ℕ) → (within : Fm) → Result Found MatchFault → Type 0
Finds p n a (Ok found) = (is_bare p ≡ false) × (first_instance p n a ≡ Some (found_values found))
Finds p n a (Err BarePattern) = is_bare p ≡ true
Finds p n a (Err NoInstance) = (is_bare p ≡ false) × (first_instance p n a ≡ None)
Finds p n a (Err OutOfMemory) = Unit {0}
Finds p n a (Err _) = ⊥

-- the fixed values of binders of these names, or the number of the first one that isn't fixed
abbrev pub Determines : List Name → Values → Result (List Term) MatchFault → Type 0
Determines names vs (Ok ts) = fixed names vs ≡ Ok (terms ts)
Determines names vs (Err (Undetermined i)) = (i < length names) × ((x : Name) → slice_get names i ≡ Some x → fixed names vs ≡ Err (causes.Undetermined x))
Determines names vs (Err OutOfMemory) = Unit {0}
Determines names vs (Err _) = ⊥

-- the formula with the new term for the old one, or its size, which is over the limit
abbrev pub Replaces : Fm → (old new : Tm) → (limit : ℕ) → Result Formula MatchFault → Type 0
Replaces a old new limit (Ok r) = (formula r ≡ replaced_formula old new a) × (nodes_of (replaced_formula old new a) ≤ limit)
Replaces a old new limit (Err (TooLarge size)) = (limit < nodes_of (replaced_formula old new a)) × (size ≡ min (nodes_of (replaced_formula old new a)) (2 ^ 64 - 1))
Replaces a old new limit (Err OutOfMemory) = Unit {0}
Replaces a old new limit (Err _) = ⊥
