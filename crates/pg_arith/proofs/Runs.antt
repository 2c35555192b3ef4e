-- How runs go: of one function over those before it, of a recursion a step at a time, of arguments one by one.
use Rattle.std.proofs.Common.{◌≡◌, ℕ, zero, suc, ◌+◌, ◌-◌, ◌<◌, ◌≤◌, List, [], ◌∷◌, ◌++◌, length, take, cond, ⊎_elim, refl, arith, ap, sym, ◌∙◌, subst}
use Rattle.std.specs.Prelude.{Some, None, Result, Ok, Err, IfOk, IsErr, IsErrAnd, slice_get, ◌==◌}
use Rattle.std.proofs.lemmas.Bool.{eq-eqb, ne_eqb, cases_order, false≢true}
use Rattle.pg_logic.specs.Tree.{Tm}
use Rattle.pg_logic.specs.Signature.{Function}
use Rattle.pg_logic.specs.Declarations.{function_of}
use Rattle.pg_logic.specs.Valuing.{Outcome, Got, Over, Spent, then_run, use_one, Runs, run, run_recursed, run_applied, runs_from, runs_of}
use Rattle.pg_arith.specs.declared.values.ValueFault.{ValueFault}
use Rattle.pg_arith.specs.declared.values.ValueFault.TheVariants.{OverLimit, OverBudget, OutOfMemory}
use Rattle.pg_logic.specs.Value.{value, functions_of}
use Rattle.pg_logic.proofs.Valuing.{Is, run-value}
use Rattle.pg_arith.specs.declared.signature.Function as declared
use Rattle.pg_arith.specs.View.{function, plain_functions}
use Rattle.pg_arith.specs.Outcomes.{Answers, Leaves, IsUndeclared, IsDeclaredAt}

-- later declarations change nothing
runs_from-below : (fs : List Function) (R : Runs) (limit k i : ℕ) (xs : List ℕ) (left : ℕ) → i < k → runs_from R limit k fs i xs left ≡ R i xs left
runs_from-below [] R limit k i xs left lt = refl
runs_from-below (f ∷ fs) R limit k i xs left lt =
    let ne : i ≡ k → ⊥ = λ e. omega arith in
    runs_from-below fs (λ j xs left. cond (j == k) (run_applied R limit f xs left) (R j xs left)) limit (k + 1) i xs left (omega arith)
    ∙ ap (λ b. cond b (run_applied R limit f xs left) (R i xs left)) (ne_eqb i k ne)

runs_from-above : (fs : List Function) (R : Runs) (limit k i : ℕ) (xs : List ℕ) (left : ℕ) → k + length fs ≤ i → runs_from R limit k fs i xs left ≡ R i xs left
runs_from-above [] R limit k i xs left le = refl
runs_from-above (f ∷ fs) R limit k i xs left le =
    let ne : i ≡ k → ⊥ = λ e. omega arith in
    runs_from-above fs (λ j xs left. cond (j == k) (run_applied R limit f xs left) (R j xs left)) limit (k + 1) i xs left (omega arith)
    ∙ ap (λ b. cond b (run_applied R limit f xs left) (R i xs left)) (ne_eqb i k ne)

runs_from-at : (fs : List Function) (R : Runs) (limit k j : ℕ) (f : Function) (xs : List ℕ) (left : ℕ) → slice_get fs j ≡ Some f →
    runs_from R limit k fs (k + j) xs left ≡ run_applied (runs_from R limit k (take j fs)) limit f xs left
runs_from-at [] R limit k j f xs left e = absurd (cc)
runs_from-at (g ∷ fs) R limit k zero f xs left e =
    let is : g ≡ f = cc in
    let at : k + 0 ≡ k = omega arith in
    let S : Runs = λ j xs left. cond (j == k) (run_applied R limit g xs left) (R j xs left) in
    ap (λ i. runs_from S limit (k + 1) fs i xs left) at
    ∙ runs_from-below fs S limit (k + 1) k xs left (omega arith)
    ∙ ap (λ b. cond b (run_applied R limit g xs left) (R k xs left)) (eq-eqb k k refl)
    ∙ ap (λ g. run_applied R limit g xs left) is
runs_from-at (g ∷ fs) R limit k (suc j) f xs left e =
    let at : k + suc j ≡ k + 1 + j = omega arith in
    let S : Runs = λ j xs left. cond (j == k) (run_applied R limit g xs left) (R j xs left) in
    ap (λ i. runs_from S limit (k + 1) fs i xs left) at ∙ runs_from-at fs S limit (k + 1) j f xs left e

-- a declared function runs over those before it
pub runs-declared : (fs : List Function) (limit k : ℕ) (f : Function) (xs : List ℕ) (left : ℕ) → slice_get fs k ≡ Some f → runs_of limit fs k xs left ≡ run_applied (runs_of limit (take k fs)) limit f xs left
unfolding runs_of
runs-declared fs limit k f xs left e =
    let R : Runs = λ j xs left. Got 0 left in
    let at : k ≡ 0 + k = omega arith in
    ap (λ i. runs_from R limit 0 fs i xs left) at ∙ runs_from-at fs R limit 0 k f xs left e

slice_get-past : {A : Type 0} → (xs : List A) (i : ℕ) → slice_get xs i ≡ None → length xs ≤ i
slice_get-past [] i e = omega arith
slice_get-past (x ∷ xs) zero e = absurd (cc)
slice_get-past (x ∷ xs) (suc i) e = omega (arith, slice_get-past xs i e)

-- a number that is not declared has the value 0
pub runs-undeclared : (fs : List Function) (limit k : ℕ) (xs : List ℕ) (left : ℕ) → slice_get fs k ≡ None → runs_of limit fs k xs left ≡ Got 0 left
unfolding runs_of
runs-undeclared fs limit k xs left e =
    let past = slice_get-past fs k e in
    runs_from-above fs (λ j xs left. Got 0 left) limit 0 k xs left (omega (arith, past))

-- why a part has no value, the whole has none
pub then-err : {A B : Type 0} (o : Outcome A) (go : A → ℕ → Outcome B) (e : ValueFault) → Answers o (Err e) → Answers (then_run o go) (Err e)
then-err (Got v left) go (OverLimit r) h = absurd (cc)
then-err (Got v left) go OverBudget h = absurd (cc)
then-err (Got v left) go OutOfMemory h = tt
then-err (Over v) go (OverLimit r) h = let is : v ≡ r = cc in ap (λ v. Err (OverLimit v)) is
then-err (Over v) go OverBudget h = absurd (cc)
then-err (Over v) go OutOfMemory h = tt
then-err Spent go (OverLimit r) h = absurd (cc)
then-err Spent go OverBudget h = refl
then-err Spent go OutOfMemory h = tt

-- a recursion has no value past the first number at which it has none
pub recursed-err : (R : Runs) (limit : ℕ) (base step : Tm) (xs : List ℕ) (m n left : ℕ) (e : ValueFault) → m ≤ n →
    Answers (run_recursed R limit base step xs m left) (Err e) → Answers (run_recursed R limit base step xs n left) (Err e)
recursed-err R limit base step xs m zero left e le h = let is : m ≡ 0 = omega arith in subst (λ m. Answers (run_recursed R limit base step xs m left) (Err e)) is h
recursed-err R limit base step xs m (suc n) left e le h =
    ⊎_elim
    (λ is. subst (λ m. Answers (run_recursed R limit base step xs m left) (Err e)) is h)
    (⊎_elim
    (λ (lt : m < suc n). then-err (run_recursed R limit base step xs n left) (λ v left. use_one left (run R limit (xs ++ n ∷ v ∷ []) step)) e
    (recursed-err R limit base step xs m n left e (omega arith) h))
    (λ (gt : suc n < m). absurd (omega arith)))
    (cases_order m (suc n))

length-before : {A : Type 0} → (xs : List A) (k : ℕ) (x : A) → slice_get xs k ≡ Some x → length (take k xs) < length xs
length-before [] k x e = absurd (cc)
length-before (y ∷ xs) zero x e = omega arith
length-before (y ∷ xs) (suc k) x e = omega (arith, length-before xs k x e)

pub plain-before : (fs : List declared.Function) (k : ℕ) → plain_functions (take k fs) ≡ take k (plain_functions fs)
plain-before fs zero = refl
plain-before [] (suc k) = refl
plain-before (f ∷ fs) (suc k) = ap (λ l. function_of (function f) ∷ l) (plain-before fs k)

pub plain-at : (fs : List declared.Function) (k : ℕ) (f : declared.Function) → slice_get fs k ≡ Some f → slice_get (plain_functions fs) k ≡ Some (function_of (function f))
plain-at [] k f e = absurd (cc)
plain-at (g ∷ fs) zero f e = let is : g ≡ f = cc in ap (λ f. Some (function_of (function f))) is
plain-at (g ∷ fs) (suc k) f e = plain-at fs k f e

pub plain-none : (fs : List declared.Function) (k : ℕ) → slice_get fs k ≡ None → slice_get (plain_functions fs) k ≡ None
plain-none [] k e = refl
plain-none (g ∷ fs) zero e = absurd (cc)
plain-none (g ∷ fs) (suc k) e = plain-none fs k e

pub declared-at : (fs : List declared.Function) (k : ℕ) (f : declared.Function) → slice_get fs k ≡ Some f →
    IsDeclaredAt (plain_functions fs) k (plain_functions (take k fs)) (function_of (function f))
declared-at fs k f e = subst (λ before. IsDeclaredAt (plain_functions fs) k before (function_of (function f))) (sym (plain-before fs k)) (record {
  runs = λ limit xs left. runs-declared (plain_functions fs) limit k (function_of (function f)) xs left (plain-at fs k f e);
  fewer = length-before (plain_functions fs) k (function_of (function f)) (plain-at fs k f e);
})

pub undeclared-at : (fs : List declared.Function) (k : ℕ) → slice_get fs k ≡ None → IsUndeclared (plain_functions fs) k
undeclared-at fs k e = λ limit xs left. runs-undeclared (plain_functions fs) limit k xs left (plain-none fs k e)

-- a value that a run got is the term's
pub got-value : (fs : List Function) (limit : ℕ) (t : Tm) (budget : ℕ) (r : Result ℕ ValueFault) (left : ℕ) → Leaves (run (runs_of limit fs) limit [] t budget) r left →
    IfOk r (λ v. v ≡ value (functions_of fs) [] [] t)
got-value fs limit t budget (Ok v) left h = subst (λ o. Is o (value (functions_of fs) [] [] t)) h (run-value fs limit t budget)
got-value fs limit t budget (Err e) left h = tt

-- an error handed on
pub leaves-err : (o : Outcome ℕ) (r : Result ℕ ValueFault) (left : ℕ) (e : ValueFault) → IsErr r × IsErrAnd r (λ x. x ≡ e) → Answers o (Err e) → Leaves o r left
leaves-err o (Ok v) left e h a = absurd (false≢true h.0)
leaves-err o (Err x) left e h a = subst (λ x. Answers o (Err x)) (sym h.1) a

-- a recursion whose base has no value, and one that stops at a step
pub recursion-base-err : (R : Runs) (limit : ℕ) (base step : Tm) (xs front : List ℕ) (last arity n left : ℕ) (e : ValueFault) → front ≡ take last xs → last ≡ arity - 1 →
    Answers (use_one left (run R limit front base)) (Err e) → Answers (run_recursed R limit base step (take (arity - 1) xs) n left) (Err e)
recursion-base-err R limit base step xs front last arity n left e is long h =
    subst (λ front. Answers (run_recursed R limit base step front n left) (Err e)) (is ∙ ap (λ j. take j xs) long)
    (recursed-err R limit base step front 0 n left e (omega arith) h)

pub recursion-step-err : (R : Runs) (limit : ℕ) (base step : Tm) (xs front : List ℕ) (last arity m n v budget left : ℕ) (e : ValueFault) → front ≡ take last xs → last ≡ arity - 1 → m < n →
    run_recursed R limit base step front m budget ≡ Got v left → Answers (use_one left (run R limit (front ++ m ∷ v ∷ []) step)) (Err e) →
    Answers (run_recursed R limit base step (take (arity - 1) xs) n budget) (Err e)
recursion-step-err R limit base step xs front last arity m n v budget left e is long lt got h =
    let here : Answers (run_recursed R limit base step front (suc m) budget) (Err e) =
    subst (λ o. Answers (then_run o (λ v left. use_one left (run R limit (front ++ m ∷ v ∷ []) step))) (Err e)) (sym got) h in
    subst (λ front. Answers (run_recursed R limit base step front n budget) (Err e)) (is ∙ ap (λ j. take j xs) long)
    (recursed-err R limit base step front (suc m) n budget e (omega arith) here)
