-- A script can be run.
use Rattle.std.proofs.Common.{◌≡◌, ◌<◌, ◌≤◌, ◌-◌, ◌^◌, ℕ, min, List, [], ◌∷◌, Some, sym, ap, subst, ◌∙◌, arith, length}
use Rattle.std.specs.Prelude.{slice_get, option_map, All}
use Rattle.std.specs.List.{HoldsAt, AllWithin}
use Rattle.std.proofs.lemmas.List.{length-map}
use Rattle.std.proofs.lemmas.List.Elements.{All-weaker}
use Rattle.std.proofs.lemmas.Option.{slice_get-map, get_or_from_slice_get}
use Rattle.pg_logic.specs.Tree.{Fm}
use Rattle.pg_logic.specs.Declarations.{signature_of, AreDeclared}
use Rattle.pg_terms.specs.declared.formula.Formula.{Formula}
use Rattle.pg_terms.specs.View.{formula, formulas}
use Rattle.pg_syntax.specs.declared.statement.Binder.{Binder}
use Rattle.pg_syntax.specs.declared.statement.Binder.TheVariants as binder
use Rattle.pg_syntax.specs.declared.statement.Statement.{Statement}
use Rattle.pg_syntax.specs.Statements.{AreFitting, total}
use Rattle.pg_moves.specs.First.{first_vars}
use Rattle.pg_moves.specs.Lookup.{Lookup}
use Rattle.pg_runs.specs.State.{IsUsable}
use Rattle.pg_attempt.specs.Attempts.{CanAttempt}
use Rattle.pg_plays.specs.Usable.{IsUsableTheorem}

-- what holds of the formula that is read, holds at its number
pub held : (P : Fm → Type 0) (xs : List Formula) (id : ℕ) (a : Formula) → slice_get xs id ≡ Some a → P (formula a) → HoldsAt P (formulas xs) id
held P xs id a is p d = subst P (sym (get_or_from_slice_get (formulas xs) id (formula a) d (slice_get-map formula xs id ∙ ap (option_map formula) is))) p

-- what holds at each number below the length, holds of all
pub of_each : (P : Fm → Type 0) (xs : List Formula) (n : ℕ) → n ≡ length xs → AllWithin P (formulas xs) 0 n → All P (formulas xs)
of_each P xs n e h k d lt = h k d (omega arith) (omega (arith, e, lt, length-map xs formula))

-- a look-up that can be used
pub usable : (l : Lookup) → AreDeclared l.declared → All (IsUsableTheorem (signature_of l.declared)) l.theorems → length l.names < 2 ^ 32 → IsUsable l
usable l declared theorems names = let s = signature_of l.declared in record {
  sound = record {
    declared = declared.declared;
    theorems = All-weaker (IsUsableTheorem s) _ (λ a u. u.fits) l.theorems theorems;
  };
  names = names;
  theorems = All-weaker (IsUsableTheorem s) _ (λ a u. u.nodes) l.theorems theorems;
}

-- there are no more variables than binders
few : (bs : List Binder) → length (first_vars bs) ≤ length bs
few [] = omega arith
few (binder.Var x ∷ bs) = let h = few bs in omega (arith, h)
few (binder.Hyp h a ∷ bs) = let m = few bs in omega (arith, m)

-- a statement that can be tried, by its binders and its total
pub can : (l : Lookup) (st : Statement) (bs : List Binder) (n : ℕ) → bs ≡ st.binders.items → n ≡ min (total bs (formula st.target)) (2 ^ 64 - 1) →
    IsUsable l → AreFitting (signature_of l.declared) 0 bs (formula st.target) → length bs ≤ 1000000 → n ≤ 100000000 → CanAttempt l st
can l st bs n same is u f few_binders few_nodes =
    let h = few st.binders.items in
    record {
      usable = u;
      fits = subst (λ b. AreFitting (signature_of l.declared) 0 b (formula st.target)) same f;
      nodes = omega (arith, ap (λ b. total b (formula st.target)) same, is, few_nodes);
      vars = omega (arith, ap (λ b. length b) same, few_binders, h);
    }
