-- Derivability, as a textbook states it: natural deduction for classical first-order logic with equality, induction and declared predicates. It knows no proof as a tree and no check.
use Rattle.std.specs.Prelude.{ℕ, ◌+◌, true, List, [], ◌∷◌, ◌++◌, ◌≡◌, Some, slice_get}
use Rattle.pg_logic.specs.Tree.{Tm, free, nought, succ, Fm, falsum, eq, and, or, imp, all, ex, same_formula, opened_formula}
use Rattle.pg_logic.specs.Signature.{Signature, fits, fits_term}
use Rattle.pg_logic.specs.Kernel.{unfolded}

-- h ⊢ c over n variables: c is derivable from the hypotheses h and from axioms. A new variable is number n, which neither h nor c has.
-- Each comment is the rule: what stands before the bar is derivable, so is what stands behind it. `a t` is the body a at the term t
pub data Derives (sig : Signature) (IsAxiom : Fm → Type 0) : ℕ → List Fm → Fm → Type 0 where
  -- / h ⊢ a, for a in h
  hypothesis : (n : ℕ) (h : List Fm) (i : ℕ) (a : Fm) → slice_get h i ≡ Some a → Derives sig IsAxiom n h a
  -- / h ⊢ a, for an axiom a
  by_axiom : (n : ℕ) (h : List Fm) (a : Fm) → IsAxiom a → Derives sig IsAxiom n h a
  -- h ⊢ a / h ⊢ c, where a and c are equal up to the names of binders
  renaming : (n : ℕ) (h : List Fm) (a c : Fm) → same_formula a c ≡ true → Derives sig IsAxiom n h a → Derives sig IsAxiom n h c
  -- h ⊢ a, h ⊢ b / h ⊢ a ∧ b
  and_intro : (n : ℕ) (h : List Fm) (a b : Fm) → Derives sig IsAxiom n h a → Derives sig IsAxiom n h b → Derives sig IsAxiom n h (and a b)
  -- h ⊢ a ∧ b / h ⊢ a
  and_elim_left : (n : ℕ) (h : List Fm) (a b : Fm) → fits sig n 0 b ≡ true → Derives sig IsAxiom n h (and a b) → Derives sig IsAxiom n h a
  -- h ⊢ a ∧ b / h ⊢ b
  and_elim_right : (n : ℕ) (h : List Fm) (a b : Fm) → fits sig n 0 a ≡ true → Derives sig IsAxiom n h (and a b) → Derives sig IsAxiom n h b
  -- h ⊢ a / h ⊢ a ∨ b
  or_intro_left : (n : ℕ) (h : List Fm) (a b : Fm) → Derives sig IsAxiom n h a → Derives sig IsAxiom n h (or a b)
  -- h ⊢ b / h ⊢ a ∨ b
  or_intro_right : (n : ℕ) (h : List Fm) (a b : Fm) → Derives sig IsAxiom n h b → Derives sig IsAxiom n h (or a b)
  -- h ⊢ a ∨ b, h a ⊢ c, h b ⊢ c / h ⊢ c
  or_elim : (n : ℕ) (h : List Fm) (a b c : Fm) → fits sig n 0 a ≡ true → fits sig n 0 b ≡ true → Derives sig IsAxiom n h (or a b) →
      Derives sig IsAxiom n (h ++ a ∷ []) c → Derives sig IsAxiom n (h ++ b ∷ []) c → Derives sig IsAxiom n h c
  -- h a ⊢ b / h ⊢ a → b
  imp_intro : (n : ℕ) (h : List Fm) (a b : Fm) → Derives sig IsAxiom n (h ++ a ∷ []) b → Derives sig IsAxiom n h (imp a b)
  -- h ⊢ a → b, h ⊢ a / h ⊢ b
  imp_elim : (n : ℕ) (h : List Fm) (a b : Fm) → fits sig n 0 a ≡ true → Derives sig IsAxiom n h (imp a b) → Derives sig IsAxiom n h a → Derives sig IsAxiom n h b
  -- h ⊢ ⊥ / h ⊢ c
  falsum_elim : (n : ℕ) (h : List Fm) (c : Fm) → Derives sig IsAxiom n h falsum → Derives sig IsAxiom n h c
  -- / h ⊢ a ∨ (a → ⊥)
  excluded_middle : (n : ℕ) (h : List Fm) (a : Fm) → Derives sig IsAxiom n h (or a (imp a falsum))
  -- h ⊢ a v, for the new variable v / h ⊢ ∀ x, a
  all_intro : (n : ℕ) (h : List Fm) (x : List ℕ) (a : Fm) → Derives sig IsAxiom (n + 1) h (opened_formula (free n) a) → Derives sig IsAxiom n h (all x a)
  -- h ⊢ ∀ x, a / h ⊢ a t
  all_elim : (n : ℕ) (h : List Fm) (x : List ℕ) (a : Fm) (t : Tm) → fits sig n 1 a ≡ true → fits_term sig.functions n 0 t ≡ true →
      Derives sig IsAxiom n h (all x a) → Derives sig IsAxiom n h (opened_formula t a)
  -- h ⊢ a t / h ⊢ ∃ x, a
  ex_intro : (n : ℕ) (h : List Fm) (x : List ℕ) (a : Fm) (t : Tm) → fits_term sig.functions n 0 t ≡ true → Derives sig IsAxiom n h (opened_formula t a) → Derives sig IsAxiom n h (ex x a)
  -- h ⊢ ∃ x, a, and h (a v) ⊢ c for the new variable v / h ⊢ c
  ex_elim : (n : ℕ) (h : List Fm) (x : List ℕ) (a c : Fm) → fits sig n 1 a ≡ true → Derives sig IsAxiom n h (ex x a) →
      Derives sig IsAxiom (n + 1) (h ++ opened_formula (free n) a ∷ []) c → Derives sig IsAxiom n h c
  -- / h ⊢ t = t
  eq_intro : (n : ℕ) (h : List Fm) (t : Tm) → Derives sig IsAxiom n h (eq t t)
  -- h ⊢ s = t, h ⊢ a s / h ⊢ a t
  eq_elim : (n : ℕ) (h : List Fm) (a : Fm) (s t : Tm) → fits sig n 1 a ≡ true → fits_term sig.functions n 0 s ≡ true → fits_term sig.functions n 0 t ≡ true →
      Derives sig IsAxiom n h (eq s t) → Derives sig IsAxiom n h (opened_formula s a) → Derives sig IsAxiom n h (opened_formula t a)
  -- h ⊢ a 0, and h (a v) ⊢ a (succ v) for the new variable v / h ⊢ a t
  by_induction : (n : ℕ) (h : List Fm) (a : Fm) (t : Tm) → fits sig n 1 a ≡ true → fits_term sig.functions n 0 t ≡ true → Derives sig IsAxiom n h (opened_formula nought a) →
      Derives sig IsAxiom (n + 1) (h ++ opened_formula (free n) a ∷ []) (opened_formula (succ (free n)) a) → Derives sig IsAxiom n h (opened_formula t a)
  -- h ⊢ b / h ⊢ p, where b is the body of the predicate formula p at its terms
  pred_intro : (n : ℕ) (h : List Fm) (p b : Fm) → unfolded sig p ≡ Some b → Derives sig IsAxiom n h b → Derives sig IsAxiom n h p
  -- h ⊢ p / h ⊢ b, likewise
  pred_elim : (n : ℕ) (h : List Fm) (p b : Fm) → fits sig n 0 p ≡ true → unfolded sig p ≡ Some b → Derives sig IsAxiom n h p → Derives sig IsAxiom n h b
