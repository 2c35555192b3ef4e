-- One step along a formula.
use Rattle.std.proofs.Common.{◌≡◌, ℕ, zero, suc, ◌+◌, List, [], ◌∷◌, ◌++◌, map, drop, false, Some, None, refl, arith, ap, sym, ◌∙◌, subst, append_assoc}
use Rattle.std.specs.Prelude.{Result, Ok, Err, IfOk, slice_get}
use Rattle.pg_logic.specs.Tree.{Tm, Fm, falsum, eq, pred, and, or, imp, all, ex, opened_formula}
use Rattle.pg_terms.specs.declared.term.Term.{Term}
use Rattle.pg_terms.specs.declared.formula.Formula.{Formula}
use Rattle.pg_terms.specs.declared.formula.Formula.TheOpen.{Formula-F}
use Rattle.pg_terms.specs.declared.formula.Formula.TheVariants.{All, Imp, rolls-All, rolls-Imp}
use Rattle.pg_terms.specs.declared.formula.Formula.TheFolds.{fold-roll-Formula}
use Rattle.pg_terms.specs.View.{term, terms, formula_step, formula}
use Rattle.pg_moves.specs.Frames.{for_all, where_so}
use Rattle.pg_moves.proofs.Moved.{append_nil}
use Rattle.pg_frames.specs.View.{stage_of}
use Rattle.pg_rewrites.specs.Applying.{stages}
use Rattle.pg_rewrites.specs.Searching.{strips}
use Rattle.pg_rewrites.specs.Staging.{made}
use Rattle.pg_rewrites.specs.declared.staging.Partial.{Partial}

pub formula-all : (x : List ℕ) (a : Formula) → formula (All x a) ≡ all x (formula a)
formula-all x a = ap formula (sym (rolls-All x a)) ∙ fold-roll-Formula Fm formula_step (Formula-F.All x a)

pub formula-imp : (a b : Formula) → formula (Imp a b) ≡ imp (formula a) (formula b)
formula-imp a b = ap formula (sym (rolls-Imp a b)) ∙ fold-roll-Formula Fm formula_step (Formula-F.Imp a b)

pub plain-stages : (k : ℕ) (ts : List Tm) (a : Fm) → strips a ≡ false → stages k ts a ≡ []
plain-stages zero ts a e = refl
plain-stages (suc k) ts falsum e = refl
plain-stages (suc k) ts (eq t u) e = refl
plain-stages (suc k) ts (pred p us) e = refl
plain-stages (suc k) ts (and a b) e = refl
plain-stages (suc k) ts (or a b) e = refl
plain-stages (suc k) ts (imp a b) e = absurd (cc)
plain-stages (suc k) ts (all x a) e = absurd (cc)
plain-stages (suc k) ts (ex x a) e = refl

ended : (by : List Term) (used : ℕ) → None ≡ slice_get by used → terms (drop used by) ≡ []
ended [] zero e = refl
ended [] (suc k) e = refl
ended (t ∷ by) zero e = absurd (cc)
ended (t ∷ by) (suc k) e = ended by k e

next : (by : List Term) (used : ℕ) (t : Term) → Some t ≡ slice_get by used → terms (drop used by) ≡ term t ∷ terms (drop (used + 1) by)
next [] used t e = absurd (cc)
next (u ∷ by) zero t e = let q : t ≡ u = cc in ap (λ t. term t ∷ terms by) (sym q)
next (u ∷ by) (suc k) t e = let s : suc k + 1 ≡ suc (k + 1) = omega arith in next by k t e ∙ ap (λ i. term t ∷ terms (drop i (u ∷ by))) (sym s)

pub no-term : (k : ℕ) (x : List ℕ) (a : Fm) → stages k [] (all x a) ≡ []
no-term zero x a = refl
no-term (suc k) x a = refl

-- nothing is taken off
pub made-plain : (by : List Term) (k : ℕ) (p : Partial) → strips (formula p.rest) ≡ false → made by k p ≡ made by (suc k) p
made-plain by k p e = ap (λ st. map stage_of p.stages ++ st) (plain-stages k (terms (drop p.used by)) (formula p.rest) e ∙ sym (plain-stages (suc k) (terms (drop p.used by)) (formula p.rest) e))

pub made-ended : (by : List Term) (k : ℕ) (p : Partial) (x : List ℕ) (a : Fm) → formula p.rest ≡ all x a → None ≡ slice_get by p.used → made by k p ≡ made by (suc k) p
made-ended by k p x a e n =
    let at-none : (j : ℕ) → stages j (terms (drop p.used by)) (formula p.rest) ≡ [] = λ j. ap (stages j (terms (drop p.used by))) e ∙ ap (λ ts. stages j ts (all x a)) (ended by p.used n) ∙ no-term j x a in
    ap (λ st. map stage_of p.stages ++ st) (at-none k ∙ sym (at-none (suc k)))

-- a binder is
pub made-binder : (by : List Term) (k : ℕ) (p r : Partial) (x : List ℕ) (a : Fm) (t : Term) → formula p.rest ≡ all x a → Some t ≡ slice_get by p.used → map stage_of r.stages ≡ map stage_of p.stages ++ for_all a (term t) ∷ [] →
    formula r.rest ≡ opened_formula (term t) a → r.used ≡ p.used + 1 → made by k r ≡ made by (suc k) p
made-binder by k p r x a t e n es er eu =
    ap (λ st. st ++ stages k (terms (drop r.used by)) (formula r.rest)) es
    ∙ ap (λ b. (map stage_of p.stages ++ for_all a (term t) ∷ []) ++ stages k (terms (drop r.used by)) b) er
    ∙ ap (λ i. (map stage_of p.stages ++ for_all a (term t) ∷ []) ++ stages k (terms (drop i by)) (opened_formula (term t) a)) eu
    ∙ append_assoc (map stage_of p.stages) (for_all a (term t) ∷ []) (stages k (terms (drop (p.used + 1) by)) (opened_formula (term t) a))
    ∙ sym (ap (λ b. map stage_of p.stages ++ stages (suc k) (terms (drop p.used by)) b) e ∙ ap (λ ts. map stage_of p.stages ++ stages (suc k) ts (all x a)) (next by p.used t n))

-- an antecedent is
pub made-antecedent : (by : List Term) (k : ℕ) (p r : Partial) (a b : Fm) → formula p.rest ≡ imp a b → map stage_of r.stages ≡ map stage_of p.stages ++ where_so a ∷ [] → formula r.rest ≡ b → r.used ≡ p.used → made by k r ≡ made by (suc k) p
made-antecedent by k p r a b e es er eu =
    ap (λ st. st ++ stages k (terms (drop r.used by)) (formula r.rest)) es
    ∙ ap (λ c. (map stage_of p.stages ++ where_so a ∷ []) ++ stages k (terms (drop r.used by)) c) er
    ∙ ap (λ i. (map stage_of p.stages ++ where_so a ∷ []) ++ stages k (terms (drop i by)) b) eu
    ∙ append_assoc (map stage_of p.stages) (where_so a ∷ []) (stages k (terms (drop p.used by)) b)
    ∙ sym (ap (λ c. map stage_of p.stages ++ stages (suc k) (terms (drop p.used by)) c) e)

-- all is taken off
pub made-done : (by : List Term) (a : Fm) (steps : ℕ) (p q : Partial) → made by 0 p ≡ made by steps q → q.stages ≡ [] → q.used ≡ 0 → formula q.rest ≡ a → map stage_of p.stages ≡ stages steps (terms by) a
made-done by a steps p q e es eu er =
    sym (append_nil (map stage_of p.stages)) ∙ e ∙ ap (λ st. map stage_of st ++ stages steps (terms (drop q.used by)) (formula q.rest)) es
    ∙ ap (λ i. stages steps (terms (drop i by)) (formula q.rest)) eu ∙ ap (stages steps (terms by)) er

pub if-ok : {E : Type 0} (P : Partial → Type 0) (r : Result Partial E) → ((x : Partial) → r ≡ Ok x → P x) → IfOk r P
if-ok P (Ok x) f = f x refl
if-ok P (Err e) f = tt

pub ok-of : {E : Type 0} (P : Partial → Type 0) (r : Result Partial E) (x : Partial) → r ≡ Ok x → IfOk r P → P x
ok-of P r x e i = subst (λ r. IfOk r P) e i
