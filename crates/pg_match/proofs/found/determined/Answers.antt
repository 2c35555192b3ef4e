use Rattle.std.proofs.Common.{◌≡◌, ◌∙◌, ◌+◌, ◌<◌, ℕ, List, length, Option, Some, Ok, Err, ap, sym, subst, arith}
use Rattle.std.specs.Prelude.{slice_get}
use Rattle.pg_logic.specs.Declarations.{Name}
use Rattle.pg_terms.specs.declared.term.Term.{Term}
use Rattle.pg_terms.specs.View.{terms}
use Rattle.pg_moves.specs.Causes as causes
use Rattle.pg_moves.specs.Stripped.{fixed}
use Rattle.pg_match.specs.View.{values}
use Rattle.pg_match.proofs.Fixing.{fixed_on, fixed_not, fixed_last}
use Rattle.pg_match.proofs.found.determined.Goals as goal

-- the number of the first binder whose value isn't fixed
abbrev Stops : List Name → List (Option Term) → ℕ → Type 0
Stops names items i = (i < length names) × ((x : Name) → slice_get names i ≡ Some x → fixed names (values items) ≡ Err (causes.Undetermined x))

pub returns-in-None : goal.returns-in-None
returns-in-None c = λ names long.
    let items = c.as_slice-value-items.result.now in
    let is = c.as_slice-value-items.ensures in
    let q = fixed_not items c.loop-value.value-index c.loop-value.terms c.value-item.result c.loop-value.invariant.so_far c.loop-value-test.true c.value-item.is c.in-None.is names (long ∙ ap length (sym is)) in
    subst (λ (l : List (Option Term)). Stops names l c.loop-value.binder) is (subst (Stops names items) (sym c.loop-value.invariant.count) q)

pub loop-value-preserved : goal.loop-value-preserved
loop-value-preserved c = record {
  count = ap (λ (k : ℕ). k + 1) c.loop-value.invariant.count;
  so_far =
      fixed_on c.as_slice-value-items.result.now c.loop-value.value-index c.loop-value.terms c.push.new.self c.value-item.result c.in_ok-copied-in-Some.field-0 c.loop-value.invariant.so_far
      c.loop-value-test.true c.value-item.is (c.in-Some.is ∙ ap Some (sym c.in_ok-copied-in-Some.ensures)) c.in_ok-push-in-Some.ensures.ok;
}

pub returns : goal.returns
returns c = λ names long.
    let items = c.as_slice-value-items.result.now in
    let is = c.as_slice-value-items.ensures in
    let end : length items ≡ c.loop-value.value-index = omega (arith, c.loop-value-test.false, c.loop-value.auto.value-index-end) in
    subst (λ (l : List (Option Term)). fixed names (values l) ≡ Ok (terms c.loop-value.terms)) is
    (fixed_last items c.loop-value.value-index c.loop-value.terms c.loop-value.invariant.so_far end names (long ∙ ap length (sym is)))
