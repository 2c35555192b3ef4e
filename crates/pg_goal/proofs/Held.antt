-- What is known of a name's formula.
use Rattle.std.proofs.Common.{◌≡◌, ◌≤◌, ◌<◌, ◌^◌, ℕ, true, map, length, ap, sym, subst, ◌∙◌, arith, Option, Some, None, IfOk}
use Rattle.std.specs.Prelude.{Result, Ok, Err, slice_get, option_map, if◌then◌else◌}
use Rattle.std.proofs.lemmas.Option.{slice_get-map}
use Rattle.std.proofs.lemmas.List.Elements.{recursion_from_All}
use Rattle.pg_logic.specs.Tree.{Fm, nodes_of}
use Rattle.pg_logic.specs.Signature.{fits}
use Rattle.pg_logic.specs.Declarations.{signature_of}
use Rattle.pg_logic.specs.Kernel.{Pf, hyp, thm}
use Rattle.pg_logic.proofs.Fitting.{fits-le}
use Rattle.pg_logic.proofs.AxiomTruth.{all_at}
use Rattle.pg_terms.specs.View.{formula}
use Rattle.pg_terms.specs.declared.formula.Formula.{Formula}
use Rattle.pg_kernel.specs.View.{proof}
use Rattle.pg_moves.specs.Lookup.{IsAvailable}
use Rattle.pg_moves.specs.Causes.{and_then, wanted}
use Rattle.pg_moves.specs.Expressions.{NoSuchName, Locked, small, hypothesis_given, theorem_given}
use Rattle.pg_moves.specs.Proofs.{hyp_formula}
use Rattle.pg_moves.proofs.Rules.{by_hyp, by_thm}
use Rattle.pg_moves.proofs.Given.{fit_at}
use Rattle.pg_moves.proofs.Sequents.{hyp-formula}
use Rattle.pg_goal.specs.declared.goal.Hyp.{Hyp}
use Rattle.pg_goal.specs.declared.expression.Place.{Place}
use Rattle.pg_goal.specs.declared.expression.Given.{Given}
use Rattle.pg_goal.specs.declared.expression.ExprFault.{ExprFault}
use Rattle.pg_goal.specs.View.{hyp_of}
use Rattle.pg_goal.specs.Answers.{Gives}
use Rattle.pg_goal.specs.Conditions.{IsProved}
use Rattle.pg_goal.specs.Places.{look, spot, IsReady, IsHeld}

-- what is given, where its formula and its proof are known
pub held : (p : Place) (r : Result Given ExprFault) (x : Given) (q : Pf) → IfOk r (λ y. y ≡ x) → IfOk r (λ y. nodes_of (formula x.formula) ≤ 4096) →
    proof x.proof ≡ q → IsProved (look p) (spot p) (formula x.formula) q → IfOk r (IsHeld p)
held p (Ok y) x q is few by shown = subst (IsHeld p) (sym is) (subst (IsProved (look p) (spot p) (formula x.formula)) (sym by) shown, few)
held p (Err e) x q is few by shown = tt

-- ---- hypotheses

-- the hypothesis as it is seen
hyp-there : (p : Place) (k : ℕ) (h : Hyp) → slice_get p.goal.now.hyps k ≡ Some h → slice_get (spot p).hyps k ≡ Some (hyp_of h)
hyp-there p k h e = slice_get-map hyp_of p.goal.now.hyps k ∙ ap (option_map hyp_of) e

formula-there : (p : Place) (k : ℕ) (h : Hyp) → slice_get p.goal.now.hyps k ≡ Some h → slice_get (map hyp_formula (spot p).hyps) k ≡ Some (formula h.formula)
formula-there p k h e = hyp-formula k (spot p).hyps (hyp_of h) (hyp-there p k h e)

pub hyp_counted : (p : Place) → IsReady p → (k : ℕ) (h : Hyp) (a : Formula) → slice_get p.goal.now.hyps k ≡ Some h → a ≡ h.formula → nodes_of (formula a) < 2 ^ 32
hyp_counted p ready k h a e is =
    subst (λ a. nodes_of (formula a) < 2 ^ 32) (sym is) (all_at (λ a. nodes_of a < 2 ^ 32) (map hyp_formula (spot p).hyps) k (formula h.formula) ready.counted.formulas (formula-there p k h e))

pub hyp_missing : (p : Place) (at k : ℕ) → slice_get p.goal.now.hyps k ≡ None → and_then (hypothesis_given at (slice_get (spot p).hyps k)) small ≡ Err (NoSuchName at)
hyp_missing p at k e = ap (λ o. and_then (hypothesis_given at o) small) (slice_get-map hyp_of p.goal.now.hyps k ∙ ap (option_map hyp_of) e)

pub hyp_gives : (p : Place) (at k : ℕ) (h : Hyp) (a : Formula) (r : Result Given ExprFault) → slice_get p.goal.now.hyps k ≡ Some h → a ≡ h.formula → Gives (small (formula a)) r →
    Gives (and_then (hypothesis_given at (slice_get (spot p).hyps k)) small) r
hyp_gives p at k h a r e is gives =
    subst (λ o. Gives (and_then (hypothesis_given at o) small) r) (sym (hyp-there p k h e)) (subst (λ a. Gives (small (formula a)) r) is gives)

pub hyp_proved : (p : Place) → IsReady p → (k : ℕ) (h : Hyp) (a : Formula) → slice_get p.goal.now.hyps k ≡ Some h → a ≡ h.formula → IsProved (look p) (spot p) (formula a) (hyp k)
hyp_proved p ready k h a e is =
    let l = look p in let g = spot p in let s = signature_of l.declared in let hs = map hyp_formula g.hyps in
    subst (λ a. IsProved l g (formula a) (hyp k)) (sym is) (record {
      fitting = fit_at s (length g.vars) hs k (formula h.formula) (recursion_from_All (λ a. fits s (length g.vars) 0 a ≡ true) hs ready.fits.0) (formula-there p k h e);
      shows = by_hyp s l.theorems (IsAvailable l) (length g.vars) hs k (formula h.formula) (formula-there p k h e);
    })

-- ---- theorems

thm-there : (p : Place) (k : ℕ) (a : Formula) → slice_get p.lookup.now.theorems.now k ≡ Some a → slice_get (look p).theorems k ≡ Some (formula a)
thm-there p k a e = slice_get-map formula p.lookup.now.theorems.now k ∙ ap (option_map formula) e

pub thm_counted : (p : Place) → IsReady p → (k : ℕ) (a : Formula) → slice_get p.lookup.now.theorems.now k ≡ Some a → nodes_of (formula a) < 2 ^ 32
thm_counted p ready k a e = all_at (λ a. nodes_of a < 2 ^ 32) (look p).theorems k (formula a) ready.counted.theorems (thm-there p k a e)

-- what an available theorem gives
available : (p : Place) (at k : ℕ) (o : Option Fm) → (look p).available.theorem k ≡ true → slice_get (look p).theorems k ≡ o →
    and_then (theorem_given (look p) at k) small ≡ and_then (wanted o (NoSuchName at)) small
available p at k o has e =
    ap (λ b. and_then (if b then wanted (slice_get (look p).theorems k) (NoSuchName at) else Err (Locked at k)) small) has ∙ ap (λ q. and_then (wanted q (NoSuchName at)) small) e

pub thm_missing : (p : Place) (at k : ℕ) → (look p).available.theorem k ≡ true → slice_get p.lookup.now.theorems.now k ≡ None →
    and_then (theorem_given (look p) at k) small ≡ Err (NoSuchName at)
thm_missing p at k has e = available p at k None has (slice_get-map formula p.lookup.now.theorems.now k ∙ ap (option_map formula) e)

pub thm_gives : (p : Place) (at k : ℕ) (a : Formula) (r : Result Given ExprFault) → (look p).available.theorem k ≡ true → slice_get p.lookup.now.theorems.now k ≡ Some a →
    Gives (small (formula a)) r → Gives (and_then (theorem_given (look p) at k) small) r
thm_gives p at k a r has e gives = subst (λ w. Gives w r) (sym (available p at k (Some (formula a)) has (thm-there p k a e))) gives

pub thm_proved : (p : Place) → IsReady p → (k : ℕ) (a : Formula) → (look p).available.theorem k ≡ true → slice_get p.lookup.now.theorems.now k ≡ Some a →
    IsProved (look p) (spot p) (formula a) (thm k)
thm_proved p ready k a has e =
    let l = look p in let g = spot p in let s = signature_of l.declared in
    record {
      fitting = fits-le s 0 (length g.vars) 0 0 (formula a) (omega arith) (omega arith) (fit_at s 0 l.theorems k (formula a) (recursion_from_All (λ a. fits s 0 0 a ≡ true) l.theorems ready.sound.theorems) (thm-there p k a e));
      shows = by_thm s l.theorems (IsAvailable l) (length g.vars) (map hyp_formula g.hyps) k (formula a) (thm-there p k a e) has;
    }
