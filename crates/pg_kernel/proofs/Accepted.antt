-- What an accepted proof proves: its goal is derivable, and so it is entailed.
use Rattle.std.proofs.Common.{◌≡◌, ℕ, List, Some, None, IsTrue, true}
use Rattle.std.specs.Prelude.{slice_get}
use Rattle.pg_logic.specs.Tree.{Fm}
use Rattle.pg_logic.specs.Signature.{Signature, IsDeclared, fits}
use Rattle.pg_logic.specs.Kernel.{Pf, fault_of}
use Rattle.pg_logic.specs.Derivation.{Derives}
use Rattle.pg_logic.specs.Sound.{AllFit, IsTheorem, Entails}
use Rattle.pg_logic.proofs.Derived.{derived}
use Rattle.pg_logic.proofs.Sound.{derivable-true}
use Rattle.pg_kernel.specs.Names.{is_named, IsNamedTheorem}
use Rattle.pg_kernel.proofs.Naming.{each_named}

module _ (s : Signature) (th : List Fm) (p : Pf) (n : ℕ) (h : List Fm) (c : Fm) where
  pub accepted-derives : fault_of s th p n h c 0 ≡ None → Derives s (IsNamedTheorem th p) n h c
  accepted-derives e =
      let known : (k : ℕ) → IsTrue (is_named k p) → (a : Fm) → slice_get th k ≡ Some a → IsNamedTheorem th p a = λ k t a is. (k, t, is) in
      derived s (IsNamedTheorem th p) th p n h c 0 (each_named (λ k. (a : Fm) → slice_get th k ≡ Some a → IsNamedTheorem th p a) p known) e

  pub derived-entails : IsDeclared s → ((k : ℕ) → IsTrue (is_named k p) → IsTheorem s th k) → AllFit s n h → fits s n 0 c ≡ true → Derives s (IsNamedTheorem th p) n h c → Entails s n h c
  derived-entails d known f fc t = derivable-true s d (IsNamedTheorem th p) (λ a x. known x.0 x.1 a x.2) t f fc
