-- A formula means what its parts mean together.
use Rattle.std.proofs.Common.{◌≡◌, ℕ, List, [], ◌∷◌, ◌++◌, length, drop, Option, None, refl, ap, ◌∙◌, sym, subst, append-nil, append_assoc}
use Rattle.std.proofs.lemmas.List.{reverse-append}
use Rattle.pg_logic.specs.Tree.{Fm, and, or, imp}
use Rattle.pg_grammar.specs.Shapes.{Op, Implies, Or, And, Equal, NotEqual, LessEqual, Less, Plus, Times, Power, Quantifier, Word, Binders, Shape, Quant, Binary}
use Rattle.pg_grammar.specs.Printing.{binder_words}
use Rattle.pg_meaning.specs.Scope.{Scope, under_name, under, in_body}
use Rattle.pg_meaning.specs.Faults as meaning
use Rattle.pg_meaning.specs.Meaning.{quantified, bound_by, formula_of}
use Rattle.pg_arith.specs.declared.signature.Function.{Function}
use Rattle.pg_arith.specs.declared.signature.Predicate.{Predicate}
use Rattle.pg_arith.specs.View.{declarations}
use Rattle.pg_syntax.specs.declared.names.Names.{Names}
use Rattle.pg_syntax.specs.View.{names, scope_of}
use Rattle.pg_syntax.specs.Steps.{fault_from, joined, texts, bound_names}
use Rattle.pg_syntax.proofs.Wholes.{none-of}

-- the formula of this shape is this one
abbrev pub MeansFormula : Scope → ℕ → Shape → Fm → Type 0
MeansFormula c from s a = (fault_from c meaning.FormulaSort from s ≡ None) × (a ≡ formula_of c s)

connective : (c : Scope) (from at : ℕ) (op : Op) (l r : Shape) (a b : Fm) → meaning.operand_sort op ≡ meaning.FormulaSort
    → MeansFormula c (meaning.beginning l) l a → MeansFormula c (meaning.beginning r) r b → MeansFormula c from (Binary at op l r) (joined op a b)
connective c from at Implies l r a b o h k = (none-of _ _ h.0 k.0, ap (λ x. imp x b) h.1 ∙ ap (imp (formula_of c l)) k.1)
connective c from at Or l r a b o h k = (none-of _ _ h.0 k.0, ap (λ x. or x b) h.1 ∙ ap (or (formula_of c l)) k.1)
connective c from at And l r a b o h k = (none-of _ _ h.0 k.0, ap (λ x. and x b) h.1 ∙ ap (and (formula_of c l)) k.1)
connective c from at Equal l r a b o h k = absurd cc
connective c from at NotEqual l r a b o h k = absurd cc
connective c from at LessEqual l r a b o h k = absurd cc
connective c from at Less l r a b o h k = absurd cc
connective c from at Plus l r a b o h k = absurd cc
connective c from at Times l r a b o h k = absurd cc
connective c from at Power l r a b o h k = absurd cc

pub join_means : (ns : Names) (sig : List Function × List Predicate) (old b1 : List (List ℕ)) (from at : ℕ) (op : Op) (l r whole l1 l2 r1 r2 : Shape) (a b : Fm)
    → whole ≡ Binary at op l r → l1 ≡ l → l2 ≡ l → r1 ≡ r → r2 ≡ r → b1 ≡ old → meaning.operand_sort op ≡ meaning.FormulaSort
    → MeansFormula (scope_of ns sig old) (meaning.beginning l1) l2 a → MeansFormula (scope_of ns sig b1) (meaning.beginning r1) r2 b
    → MeansFormula (scope_of ns sig old) from whole (joined op a b)
join_means ns sig old b1 from at op l r whole l1 l2 r1 r2 a b w e1 e2 k1 k2 same o h k =
    let h : MeansFormula (scope_of ns sig old) (meaning.beginning l) l a =
    subst (λ y. MeansFormula (scope_of ns sig old) (meaning.beginning l) y a) e2 (subst (λ x. MeansFormula (scope_of ns sig old) (meaning.beginning x) l2 a) e1 h) in
    let k : MeansFormula (scope_of ns sig old) (meaning.beginning r) r b =
    subst (λ y. MeansFormula (scope_of ns sig old) (meaning.beginning r) y b) k2 (subst (λ x. MeansFormula (scope_of ns sig old) (meaning.beginning x) r2 b) k1
    (subst (λ bs. MeansFormula (scope_of ns sig bs) (meaning.beginning r1) r2 b) same k)) in
    subst (λ x. MeansFormula (scope_of ns sig old) from x (joined op a b)) (sym w) (connective (scope_of ns sig old) from at op l r a b o h k)

-- ---- quantifiers

under-names : (ns : Names) (sig : List Function × List Predicate) (old : List (List ℕ)) (ws : List Word) → under (scope_of ns sig old) ws ≡ scope_of ns sig (old ++ texts ws)
under-names ns sig old [] = ap (scope_of ns sig) (sym (append-nil old))
under-names ns sig old (x ∷ ws) =
    let inner : (bs : List (List ℕ)) → Scope = λ bs. record { vars = names ns; binders = bs; declared = declarations sig } in
    let step : scope_of ns sig (old ++ x.text ∷ []) ≡ under_name (scope_of ns sig old) x = ap inner (reverse-append old (x.text ∷ [])) in
    ap (λ c. under c ws) (sym step) ∙ under-names ns sig (old ++ x.text ∷ []) ws ∙ ap (scope_of ns sig) (append_assoc old (x.text ∷ []) (texts ws))

bound-texts : (q : Quantifier) (ws : List Word) (a : Fm) → bound_names q (texts ws) a ≡ bound_by q ws a
bound-texts q [] a = refl
bound-texts q (x ∷ ws) a = ap (quantified q x.text) (bound-texts q ws a)

drop-front : (xs ys : List (List ℕ)) (n : ℕ) → n ≡ length xs → drop n (xs ++ ys) ≡ ys
drop-front [] ys n e = ap (λ k. drop k ys) e
drop-front (x ∷ xs) ys n e = ap (λ k. drop k (x ∷ (xs ++ ys))) e ∙ drop-front xs ys (length xs) refl

-- the fault of a quantified formula is that of its body
pub quant_fault : (ns : Names) (sig : List Function × List Predicate) (old inside : List (List ℕ)) (from at : ℕ) (q : Quantifier) (b : Binders) (s whole s1 s2 : Shape)
    → whole ≡ Quant at q b s → s1 ≡ s → s2 ≡ s → inside ≡ old ++ texts (binder_words b)
    → fault_from (scope_of ns sig old) meaning.FormulaSort from whole ≡ fault_from (scope_of ns sig inside) meaning.FormulaSort (meaning.beginning s1) s2
quant_fault ns sig old inside from at q b s whole s1 s2 w k1 k2 is =
    let body : Scope → Option meaning.Fault = λ c. fault_from c meaning.FormulaSort (meaning.beginning s) s in
    ap (fault_from (scope_of ns sig old) meaning.FormulaSort from) w
    ∙ ap body (under-names ns sig old (binder_words b) ∙ ap (scope_of ns sig) (sym is))
    ∙ ap (λ x. fault_from (scope_of ns sig inside) meaning.FormulaSort (meaning.beginning x) s) (sym k1)
    ∙ ap (fault_from (scope_of ns sig inside) meaning.FormulaSort (meaning.beginning s1)) (sym k2)

pub quant_means : (ns : Names) (sig : List Function × List Predicate) (old inside left : List (List ℕ)) (outer from at : ℕ) (q : Quantifier) (b : Binders) (s whole s1 s2 : Shape) (a r : Fm)
    → whole ≡ Quant at q b s → s1 ≡ s → s2 ≡ s → inside ≡ old ++ texts (binder_words b) → left ≡ inside → outer ≡ length old
    → MeansFormula (scope_of ns sig inside) (meaning.beginning s1) s2 a → r ≡ bound_names q (drop outer left) a
    → MeansFormula (scope_of ns sig old) from whole r
quant_means ns sig old inside left outer from at q b s whole s1 s2 a r w k1 k2 is kept size h e =
    let ws : List Word = binder_words b in
    let gone : drop outer left ≡ texts ws = ap (drop outer) (kept ∙ is) ∙ drop-front old (texts ws) outer size in
    let body : a ≡ formula_of (in_body (scope_of ns sig old) b) s =
    h.1 ∙ ap (formula_of (scope_of ns sig inside)) k2 ∙ sym (ap (λ c. formula_of c s) (under-names ns sig old ws ∙ ap (scope_of ns sig) (sym is))) in (
      quant_fault ns sig old inside from at q b s whole s1 s2 w k1 k2 is ∙ h.0,
      e ∙ ap (λ l. bound_names q l a) gone ∙ bound-texts q ws a ∙ ap (bound_by q ws) body ∙ sym (ap (formula_of (scope_of ns sig old)) w),
    )
