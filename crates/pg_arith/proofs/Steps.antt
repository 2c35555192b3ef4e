-- The steps of a term run as the term does.
use Rattle.std.proofs.Common.{◌≡◌, ℕ, ◌+◌, ◌-◌, List, [], ◌∷◌, ◌++◌, length, take, drop, refl, arith, ap, sym, ◌∙◌, subst, append-nil, append_assoc, length-append}
use Rattle.std.specs.Prelude.{Result, Ok, Err, IsErr, IsErrAnd, MatchResult, slice_index}
use Rattle.std.proofs.lemmas.Bool.{false≢true}
use Rattle.std.proofs.Math.Seq.{get_or-append_seam, take-append_seam, drop-append_seam}
use Rattle.pg_logic.specs.Tree.{Tm, free, bound, nought, succ, app, Tms, none, arg}
use Rattle.pg_logic.specs.Signature.{count}
use Rattle.pg_logic.specs.Valuing.{Outcome, Got, Over, Spent, then_run, within, Runs, run, run_all}
use Rattle.pg_arith.specs.declared.postfix.Step.{Step}
use Rattle.pg_arith.specs.declared.postfix.Step.TheVariants.{AddOne, Apply}
use Rattle.pg_arith.specs.declared.values.ValueFault.{ValueFault}
use Rattle.pg_arith.specs.declared.values.ValueFault.TheVariants.{OverLimit, OverBudget, OutOfMemory}
use Rattle.pg_arith.specs.Outcomes.{Answers}
use Rattle.pg_arith.specs.Postfix.{postfix, postfix_all, run_step, run_steps}
use Rattle.pg_arith.proofs.Runs.{then-err}

then-then : {A B C : Type 0} (o : Outcome A) (f : A → ℕ → Outcome B) (g : B → ℕ → Outcome C) → then_run (then_run o f) g ≡ then_run o (λ v left. then_run (f v left) g)
then-then (Got v left) f g = refl
then-then (Over v) f g = refl
then-then Spent f g = refl

-- a fact of the value, if any
abbrev Holds : {A : Type 0} → (A → Type 0) → Outcome A → Type 0
Holds P (Got v left) = P v
Holds P (Over v) = Unit {0}
Holds P Spent = Unit {0}

abbrev Any : {A : Type 0} → A → Type 0
Any v = Unit {0}

any : {A : Type 0} (o : Outcome A) → Holds Any o
any (Got v left) = tt
any (Over v) = tt
any Spent = tt

then_holds : {A B : Type 0} (P : A → Type 0) (Q : B → Type 0) (o : Outcome A) (go : A → ℕ → Outcome B) → Holds P o → ((v : A) (left : ℕ) → P v → Holds Q (go v left)) → Holds Q (then_run o go)
then_holds P Q (Got v left) go p h = h v left p
then_holds P Q (Over v) go p h = tt
then_holds P Q Spent go p h = tt

then-alike : {A B : Type 0} (P : A → Type 0) (o : Outcome A) (f g : A → ℕ → Outcome B) → Holds P o → ((v : A) (left : ℕ) → P v → f v left ≡ g v left) → then_run o f ≡ then_run o g
then-alike P (Got v left) f g p h = h v left p
then-alike P (Over v) f g p h = refl
then-alike P Spent f g p h = refl

module _ (R : Runs) (limit : ℕ) (fr : List ℕ) where
  -- arguments have as many values as they are
  all-length : (ts : Tms) (left : ℕ) → Holds (λ ws. length ws ≡ count ts) (run_all R limit fr ts left)
  all-length none left = refl
  all-length (arg t ts) left =
      then_holds Any (λ ws. length ws ≡ count ts + 1) (run R limit fr t left) (λ v left. then_run (run_all R limit fr ts left) (λ ws left. Got (v ∷ ws) left)) (any (run R limit fr t left))
      (λ v left u. then_holds (λ ws. length ws ≡ count ts) (λ ws. length ws ≡ count ts + 1) (run_all R limit fr ts left) (λ ws left. Got (v ∷ ws) left) (all-length ts left)
      (λ ws left e. omega (arith, e)))

  add_one-step : (more : List Step) (vs : List ℕ) (v left : ℕ) →
      run_steps R limit fr (AddOne ∷ more) (vs ++ v ∷ []) left ≡ then_run (within limit (v + 1) left) (λ w left. run_steps R limit fr more (vs ++ w ∷ []) left)
  add_one-step more vs v left =
      let at : length (vs ++ v ∷ []) - 1 ≡ length vs = omega (arith, length-append vs (v ∷ [])) in
      let top : slice_index (vs ++ v ∷ []) (length (vs ++ v ∷ []) - 1) ≡ v = ap (slice_index (vs ++ v ∷ [])) at ∙ get_or-append_seam vs v [] 0 in
      let rest : take (length (vs ++ v ∷ []) - 1) (vs ++ v ∷ []) ≡ vs = ap (λ k. take k (vs ++ v ∷ [])) at ∙ take-append_seam vs (v ∷ []) in
      ap (λ x. then_run (then_run (within limit (x + 1) left) (λ w left. Got (take (length (vs ++ v ∷ []) - 1) (vs ++ v ∷ []) ++ w ∷ []) left)) (run_steps R limit fr more)) top
      ∙ ap (λ xs. then_run (then_run (within limit (v + 1) left) (λ w left. Got (xs ++ w ∷ []) left)) (run_steps R limit fr more)) rest
      ∙ then-then (within limit (v + 1) left) (λ w left. Got (vs ++ w ∷ []) left) (run_steps R limit fr more)

  apply-step : (more : List Step) (f : ℕ) (n : ℕ) (vs ws : List ℕ) (left : ℕ) → length ws ≡ n →
      run_steps R limit fr (Apply f n ∷ more) (vs ++ ws) left ≡ then_run (R f ws left) (λ w left. run_steps R limit fr more (vs ++ w ∷ []) left)
  apply-step more f n vs ws left e =
      let at : length (vs ++ ws) - n ≡ length vs = omega (arith, length-append vs ws, e) in
      let top : drop (length (vs ++ ws) - n) (vs ++ ws) ≡ ws = ap (λ k. drop k (vs ++ ws)) at ∙ drop-append_seam vs ws in
      let rest : take (length (vs ++ ws) - n) (vs ++ ws) ≡ vs = ap (λ k. take k (vs ++ ws)) at ∙ take-append_seam vs ws in
      ap (λ xs. then_run (then_run (R f xs left) (λ w left. Got (take (length (vs ++ ws) - n) (vs ++ ws) ++ w ∷ []) left)) (run_steps R limit fr more)) top
      ∙ ap (λ xs. then_run (then_run (R f ws left) (λ w left. Got (xs ++ w ∷ []) left)) (run_steps R limit fr more)) rest
      ∙ then-then (R f ws left) (λ w left. Got (vs ++ w ∷ []) left) (run_steps R limit fr more)

  mutual
    steps-term : (t : Tm) (more : List Step) (vs : List ℕ) (left : ℕ) →
        run_steps R limit fr (postfix t ++ more) vs left ≡ then_run (run R limit fr t left) (λ v left. run_steps R limit fr more (vs ++ v ∷ []) left)
    steps-term (free i) more vs left = refl
    steps-term (bound i) more vs left = refl
    steps-term nought more vs left = refl
    steps-term (succ t) more vs left =
        ap (λ l. run_steps R limit fr l vs left) (append_assoc (postfix t) (AddOne ∷ []) more)
        ∙ steps-term t (AddOne ∷ more) vs left
        ∙ then-alike Any (run R limit fr t left) (λ v left. run_steps R limit fr (AddOne ∷ more) (vs ++ v ∷ []) left)
        (λ v left. then_run (within limit (v + 1) left) (λ w left. run_steps R limit fr more (vs ++ w ∷ []) left)) (any (run R limit fr t left)) (λ v left u. add_one-step more vs v left)
        ∙ sym (then-then (run R limit fr t left) (λ v left. within limit (v + 1) left) (λ w left. run_steps R limit fr more (vs ++ w ∷ []) left))
    steps-term (app f ts) more vs left =
        ap (λ l. run_steps R limit fr l vs left) (append_assoc (postfix_all ts) (Apply f (count ts) ∷ []) more)
        ∙ steps-terms ts (Apply f (count ts) ∷ more) vs left
        ∙ then-alike (λ ws. length ws ≡ count ts) (run_all R limit fr ts left) (λ ws left. run_steps R limit fr (Apply f (count ts) ∷ more) (vs ++ ws) left)
        (λ ws left. then_run (R f ws left) (λ w left. run_steps R limit fr more (vs ++ w ∷ []) left)) (all-length ts left) (λ ws left e. apply-step more f (count ts) vs ws left e)
        ∙ sym (then-then (run_all R limit fr ts left) (R f) (λ w left. run_steps R limit fr more (vs ++ w ∷ []) left))

    steps-terms : (ts : Tms) (more : List Step) (vs : List ℕ) (left : ℕ) →
        run_steps R limit fr (postfix_all ts ++ more) vs left ≡ then_run (run_all R limit fr ts left) (λ ws left. run_steps R limit fr more (vs ++ ws) left)
    steps-terms none more vs left = ap (λ l. run_steps R limit fr more l left) (sym (append-nil vs))
    steps-terms (arg t ts) more vs left =
        let K : List ℕ → ℕ → Outcome (List ℕ) = λ ws left. run_steps R limit fr more (vs ++ ws) left in
        ap (λ l. run_steps R limit fr l vs left) (append_assoc (postfix t) (postfix_all ts) more)
        ∙ steps-term t (postfix_all ts ++ more) vs left
        ∙ then-alike Any (run R limit fr t left) (λ v left. run_steps R limit fr (postfix_all ts ++ more) (vs ++ v ∷ []) left)
        (λ v left. then_run (then_run (run_all R limit fr ts left) (λ ws left. Got (v ∷ ws) left)) K) (any (run R limit fr t left))
        (λ v left u. steps-terms ts more (vs ++ v ∷ []) left
        ∙ then-alike Any (run_all R limit fr ts left) (λ ws left. run_steps R limit fr more ((vs ++ v ∷ []) ++ ws) left) (λ ws left. K (v ∷ ws) left) (any (run_all R limit fr ts left))
        (λ ws left u. ap (λ l. run_steps R limit fr more l left) (append_assoc vs (v ∷ []) ws))
        ∙ sym (then-then (run_all R limit fr ts left) (λ ws left. Got (v ∷ ws) left) K))
        ∙ sym (then-then (run R limit fr t left) (λ v left. then_run (run_all R limit fr ts left) (λ ws left. Got (v ∷ ws) left)) K)

  -- the steps of a term on an empty stack leave its value
  steps-whole : (t : Tm) (left : ℕ) → run_steps R limit fr (postfix t) [] left ≡ then_run (run R limit fr t left) (λ v left. Got (v ∷ []) left)
  steps-whole t left = ap (λ l. run_steps R limit fr l [] left) (sym (append-nil (postfix t))) ∙ steps-term t [] [] left

got-one : (o : Outcome ℕ) (vs : List ℕ) (left : ℕ) → then_run o (λ v left. Got (v ∷ []) left) ≡ Got vs left → o ≡ Got (slice_index vs 0) left
got-one (Got v k) vs left e = cc
got-one (Over v) vs left e = absurd (cc)
got-one Spent vs left e = absurd (cc)

one-err : (o : Outcome ℕ) (e : ValueFault) → Answers (then_run o (λ v left. Got (v ∷ []) left)) (Err e) → Answers o (Err e)
one-err (Got v left) (OverLimit r) h = absurd (cc)
one-err (Got v left) OverBudget h = absurd (cc)
one-err (Got v left) OutOfMemory h = tt
one-err (Over v) (OverLimit r) h = let is : v ≡ r = cc in ap (λ v. Err (OverLimit v)) is
one-err (Over v) OverBudget h = absurd (cc)
one-err (Over v) OutOfMemory h = tt
one-err Spent (OverLimit r) h = absurd (cc)
one-err Spent OverBudget h = refl
one-err Spent OutOfMemory h = tt

pub steps-got : (R : Runs) (limit : ℕ) (fr : List ℕ) (t : Tm) (budget : ℕ) (vs : List ℕ) (left : ℕ) → Got vs left ≡ run_steps R limit fr (postfix t) [] budget →
    run R limit fr t budget ≡ Got (slice_index vs 0) left
steps-got R limit fr t budget vs left e = got-one (run R limit fr t budget) vs left (sym (e ∙ steps-whole R limit fr t budget))

-- a step that has no value, after others
pub steps-err : (R : Runs) (limit : ℕ) (fr : List ℕ) (t : Tm) (budget : ℕ) (s : Step) (more : List Step) (vs : List ℕ) (left : ℕ) (e : ValueFault) →
    run_steps R limit fr (s ∷ more) vs left ≡ run_steps R limit fr (postfix t) [] budget → Answers (run_step R limit fr s vs left) (Err e) → Answers (run R limit fr t budget) (Err e)
steps-err R limit fr t budget s more vs left e is h =
    one-err (run R limit fr t budget) e
    (subst (λ o. Answers o (Err e)) (is ∙ steps-whole R limit fr t budget) (then-err (run_step R limit fr s vs left) (run_steps R limit fr more) e h))

-- a successor over the limit
pub add_one-err : (R : Runs) (limit : ℕ) (fr vs : List ℕ) (left : ℕ) (s : Step) (v at n : ℕ) (e : ValueFault) → s ≡ AddOne → v ≡ slice_index vs at → at ≡ n - 1 → n ≡ length vs →
    Answers (within limit (v + 1) left) (Err e) → Answers (run_step R limit fr s vs left) (Err e)
add_one-err R limit fr vs left s v at n e is top place size h =
    let k : at ≡ length vs - 1 = omega (arith, place, size) in
    let x : v ≡ slice_index vs (length vs - 1) = top ∙ ap (slice_index vs) k in
    subst (λ s. Answers (run_step R limit fr s vs left) (Err e)) (sym is)
    (then-err (within limit (slice_index vs (length vs - 1) + 1) left) (λ v left. Got (take (length vs - 1) vs ++ v ∷ []) left) e
    (subst (λ v. Answers (within limit (v + 1) left) (Err e)) x h))

pub match-err : {A B : Type 0} (P : A → Type 0) (o : Outcome B) (r : Result A ValueFault) (e : ValueFault) → IsErr r × IsErrAnd r (λ x. x ≡ e) → Answers o (Err e) →
    MatchResult r P (λ e. Answers o (Err e))
match-err P o (Ok v) e h a = absurd (false≢true h.0)
match-err P o (Err x) e h a = subst (λ x. Answers o (Err x)) (sym h.1) a
