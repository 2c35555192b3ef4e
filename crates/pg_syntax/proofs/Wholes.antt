-- A shape means what its parts mean together.
use Rattle.std.proofs.Common.{◌≡◌, ℕ, Option, Some, None, ap, ◌∙◌, sym, subst}
use Rattle.std.specs.Option.{option_or}
use Rattle.pg_logic.specs.Tree.{Tm, app, Tms, none}
use Rattle.pg_grammar.specs.Shapes.{Op, Shape, App, Binary}
use Rattle.pg_meaning.specs.Scope.{Scope, function_named, sign_text, sign_needs}
use Rattle.pg_meaning.specs.Faults as meaning
use Rattle.pg_meaning.specs.Meaning.{with_last, applied, two, function_term, term_of}
use Rattle.pg_syntax.specs.Steps.{fault_from, head_term, arguments}
use Rattle.pg_syntax.proofs.Calls.{function_call}

-- no fault anywhere
pub none-of : (o p : Option meaning.Fault) → o ≡ None → p ≡ None → option_or o p ≡ None
none-of o p e h = ap (λ x. option_or x p) e ∙ h

pub call_means : (c : Scope) (at : ℕ) (f s whole f1 f2 s1 s2 : Shape) (id : ℕ) (ts : Tms) (t : Tm)
    → whole ≡ App f s → f1 ≡ f → f2 ≡ f → s1 ≡ s → s2 ≡ s
    → (option_or (meaning.misfit meaning.TermSort (meaning.sort c f1) at) (meaning.head_fault c 1 f1) ≡ None) × (app id none ≡ head_term c f1)
    → (meaning.parts_fault c f2 ≡ None) × (ts ≡ arguments c f2)
    → (fault_from c meaning.TermSort (meaning.beginning s1) s2 ≡ None) × (t ≡ term_of c s2)
    → (fault_from c meaning.TermSort at whole ≡ None) × (app id (with_last ts t) ≡ term_of c whole)
call_means c at f s whole f1 f2 s1 s2 id ts t w e1 e2 k1 k2 h a l =
    let H : Shape → Type 0 = λ x. (option_or (meaning.misfit meaning.TermSort (meaning.sort c x) at) (meaning.head_fault c 1 x) ≡ None) × (app id none ≡ head_term c x) in
    let A : Shape → Type 0 = λ x. (meaning.parts_fault c x ≡ None) × (ts ≡ arguments c x) in
    let L : Shape → Shape → Type 0 = λ x y. (fault_from c meaning.TermSort (meaning.beginning x) y ≡ None) × (t ≡ term_of c y) in
    let W : Shape → Type 0 = λ x. (fault_from c meaning.TermSort at x ≡ None) × (app id (with_last ts t) ≡ term_of c x) in
    let h : H f = subst H e1 h in
    let a : A f = subst A e2 a in
    let l : L s s = subst (L s) k2 (subst (λ x. L x s2) k1 l) in
    let both : W (App f s) = (
      none-of _ _ h.0 (none-of _ _ a.0 l.0),
      ap (λ us. app id (with_last us t)) a.1 ∙ ap (λ u. app id (with_last (arguments c f) u)) l.1 ∙ sym (ap (λ u. applied u (term_of c s)) (function_call c f id h.1)),
    ) in
    subst W (sym w) both

pub sign_means : (c : Scope) (from at : ℕ) (op : Op) (l r whole l1 l2 r1 r2 : Shape) (id : ℕ) (s t : Tm)
    → whole ≡ Binary at op l r → l1 ≡ l → l2 ≡ l → r1 ≡ r → r2 ≡ r
    → (option_or (meaning.misfit meaning.TermSort (Some (meaning.sign_sort op)) from) (meaning.use_fault at 2 (sign_needs c op)) ≡ None) × (Some id ≡ function_named c.declared (sign_text op))
    → meaning.operand_sort op ≡ meaning.TermSort
    → (fault_from c meaning.TermSort (meaning.beginning l1) l2 ≡ None) × (s ≡ term_of c l2)
    → (fault_from c meaning.TermSort (meaning.beginning r1) r2 ≡ None) × (t ≡ term_of c r2)
    → (fault_from c meaning.TermSort from whole ≡ None) × (app id (two s t) ≡ term_of c whole)
sign_means c from at op l r whole l1 l2 r1 r2 id s t w e1 e2 k1 k2 h o a b =
    let P : meaning.Sort → Type 0 = λ want. option_or (meaning.own_or c want l (meaning.parts_fault c l)) (meaning.own_or c want r (meaning.parts_fault c r)) ≡ None in
    let M : Tm → Shape → Shape → Type 0 = λ t x y. (fault_from c meaning.TermSort (meaning.beginning x) y ≡ None) × (t ≡ term_of c y) in
    let W : Shape → Type 0 = λ x. (fault_from c meaning.TermSort from x ≡ None) × (app id (two s t) ≡ term_of c x) in
    let a : M s l l = subst (M s l) e2 (subst (λ x. M s x l2) e1 a) in
    let b : M t r r = subst (M t r) k2 (subst (λ x. M t x r2) k1 b) in
    let both : W (Binary at op l r) = (
      none-of _ _ h.0 (subst P (sym o) (none-of _ _ a.0 b.0)),
      ap (λ u. app id (two u t)) a.1 ∙ ap (λ u. app id (two (term_of c l) u)) b.1 ∙ ap (λ f. function_term f (two (term_of c l) (term_of c r))) h.1,
    ) in
    subst W (sym w) both
