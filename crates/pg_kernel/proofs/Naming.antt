-- The theorems that a proof names.
use Rattle.std.proofs.Common.{◌≡◌, ℕ, Bool, true, false, ◌||◌, [], IsTrue, refl, ap, sym, ◌∙◌}
use Rattle.std.specs.List.{list_any}
use Rattle.std.specs.List.Sorted.{IsStrictlySortedBy}
use Rattle.std.specs.Ordering.{nat_cmp}
use Rattle.std.specs.Cmp.{nat_cmp_total}
use Rattle.std.specs.BTreeMap.{is_at}
use Rattle.std.specs.BTreeSet.{BTreeSet, contains}
use Rattle.std.proofs.lemmas.Map.Lookups.{exact_unsigned}
use Rattle.std.proofs.lemmas.Map.Views.{btree_set_contains_iff}
use Rattle.std.proofs.lemmas.Bool.{eq-eqb, or_left, or_right}
use Rattle.pg_logic.specs.Kernel.{Pf, hyp, thm, andi, andl, andr, orl, orr, ore, impi, impe, fale, lem, alli, alle, exi, exe, reflexive, repl, ind, predi, prede}
use Rattle.pg_logic.proofs.Derived.{EachNamed}
use Rattle.pg_kernel.specs.Names.{is_named, AreNames}

abbrev pub Of : (ℕ → Type 0) → Pf → Type 0
Of Q p = (k : ℕ) → IsTrue (is_named k p) → Q k

left : (Q : ℕ → Type 0) (before more : ℕ → Bool) → ((k : ℕ) → IsTrue (before k || more k) → Q k) → (k : ℕ) → IsTrue (before k) → Q k
left Q before more h k t = h k (or_left (before k) (more k) t)

right : (Q : ℕ → Type 0) (before more : ℕ → Bool) → ((k : ℕ) → IsTrue (before k || more k) → Q k) → (k : ℕ) → IsTrue (more k) → Q k
right Q before more h k t = h k (or_right (before k) (more k) t)

-- what holds of all numbers that a proof names holds at each of its nodes that name one
pub each_named : (Q : ℕ → Type 0) (p : Pf) → Of Q p → EachNamed Q p
each_named Q (hyp i) h = tt
each_named Q (thm i) h = h i (eq-eqb i i refl)
each_named Q (andi p q) h = (each_named Q p (left Q (λ k. is_named k p) (λ k. is_named k q) h), each_named Q q (right Q (λ k. is_named k p) (λ k. is_named k q) h))
each_named Q (andl b p) h = each_named Q p h
each_named Q (andr a p) h = each_named Q p h
each_named Q (orl p) h = each_named Q p h
each_named Q (orr p) h = each_named Q p h
each_named Q (ore a b p q r) h =
    let both = left Q (λ k. is_named k p || is_named k q) (λ k. is_named k r) h in (
      each_named Q p (left Q (λ k. is_named k p) (λ k. is_named k q) both),
      each_named Q q (right Q (λ k. is_named k p) (λ k. is_named k q) both),
      each_named Q r (right Q (λ k. is_named k p || is_named k q) (λ k. is_named k r) h),
    )
each_named Q (impi p) h = each_named Q p h
each_named Q (impe a p q) h = (each_named Q p (left Q (λ k. is_named k p) (λ k. is_named k q) h), each_named Q q (right Q (λ k. is_named k p) (λ k. is_named k q) h))
each_named Q (fale p) h = each_named Q p h
each_named Q lem h = tt
each_named Q (alli p) h = each_named Q p h
each_named Q (alle a t p) h = each_named Q p h
each_named Q (exi t p) h = each_named Q p h
each_named Q (exe a p q) h = (each_named Q p (left Q (λ k. is_named k p) (λ k. is_named k q) h), each_named Q q (right Q (λ k. is_named k p) (λ k. is_named k q) h))
each_named Q reflexive h = tt
each_named Q (repl a t u p q) h = (each_named Q p (left Q (λ k. is_named k p) (λ k. is_named k q) h), each_named Q q (right Q (λ k. is_named k p) (λ k. is_named k q) h))
each_named Q (ind a t p q) h = (each_named Q p (left Q (λ k. is_named k p) (λ k. is_named k q) h), each_named Q q (right Q (λ k. is_named k p) (λ k. is_named k q) h))
each_named Q (predi p) h = each_named Q p h
each_named Q (prede a p) h = each_named Q p h

or_nothing : (b : Bool) → (b || false) ≡ b
or_nothing true = refl
or_nothing false = refl

-- a set to which the numbers of a proof were added, empty before
pub names_in_set : (p : Pf) (old new : BTreeSet ℕ) → old.keys ≡ [] → ((k : ℕ) → contains nat_cmp new k ≡ (is_named k p || contains nat_cmp old k)) → IsStrictlySortedBy nat_cmp new.keys → AreNames p new.keys
names_in_set p old new none added ascending =
    let found : (k : ℕ) → contains nat_cmp new k ≡ is_named k p = λ k. added k ∙ ap (λ ks. is_named k p || list_any (is_at (nat_cmp k)) ks) none ∙ or_nothing (is_named k p) in
    record {
      exact = λ k. let both = btree_set_contains_iff nat_cmp_total exact_unsigned new k in (λ h. sym (found k) ∙ both.1 h, λ t. both.0 (found k ∙ t));
      ascending = ascending;
    }
