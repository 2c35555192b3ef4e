-- The theorems that a proof names.
use Rattle.std.specs.Prelude.{ℕ, Bool, false, ◌||◌, ◌==◌, ◌≡◌, ◌↔◌, List, Contains, IsTrue, Some, slice_get}
use Rattle.std.specs.Ordering.{nat_cmp}
use Rattle.std.specs.List.Sorted.{IsStrictlySortedBy}
use Rattle.pg_logic.specs.Tree.{Fm}
use Rattle.pg_logic.specs.Kernel.{Pf, hyp, thm, andi, andl, andr, orl, orr, ore, impi, impe, fale, lem, alli, alle, exi, exe, reflexive, repl, ind, predi, prede}

-- whether a proof names theorem k
abbrev pub is_named : ℕ → Pf → Bool
is_named k (hyp i) = false
is_named k (thm i) = i == k
is_named k (andi p q) = is_named k p || is_named k q
is_named k (andl b p) = is_named k p
is_named k (andr a p) = is_named k p
is_named k (orl p) = is_named k p
is_named k (orr p) = is_named k p
is_named k (ore a b p q r) = is_named k p || is_named k q || is_named k r
is_named k (impi p) = is_named k p
is_named k (impe a p q) = is_named k p || is_named k q
is_named k (fale p) = is_named k p
is_named k lem = false
is_named k (alli p) = is_named k p
is_named k (alle a t p) = is_named k p
is_named k (exi t p) = is_named k p
is_named k (exe a p q) = is_named k p || is_named k q
is_named k reflexive = false
is_named k (repl a s t p q) = is_named k p || is_named k q
is_named k (ind a t p q) = is_named k p || is_named k q
is_named k (predi p) = is_named k p
is_named k (prede a p) = is_named k p

-- a formula is a theorem of a list that a proof names
abbrev pub IsNamedTheorem : List Fm → Pf → Fm → Type 0
IsNamedTheorem th p a = (k : ℕ) × IsTrue (is_named k p) × (slice_get th k ≡ Some a)

-- these are the theorem numbers that a proof names, each once, ascending
pub record AreNames (p : Pf) (ks : List ℕ) : Type 0 where
  pub exact : (k : ℕ) → Contains ks k ↔ IsTrue (is_named k p)
  pub ascending : IsStrictlySortedBy nat_cmp ks
