use Rattle.std.proofs.Common.{◌≡◌, [], ap, sym, ◌∙◌, subst}
use Rattle.std.specs.Prelude.{Option, Ok}
use Rattle.pg_kernel.specs.View.{proof}
use Rattle.pg_logic.specs.Tree.{Fm, imp}
use Rattle.pg_terms.specs.declared.formula.Formula.{Formula}
use Rattle.pg_terms.specs.declared.term.Term.{Term}
use Rattle.std.proofs.Common.{List}
use Rattle.pg_terms.specs.View.{terms, formula}
use Rattle.pg_moves.specs.Instances.{AreTight, filled_formula}
use Rattle.pg_moves.specs.Measures.{first_over, formula_measures}
use Rattle.pg_moves.specs.Stripped.{unbound}
use Rattle.pg_reduction.specs.declared.cause.Cause.{Cause}
use Rattle.pg_reduction.specs.Limits.{Tells}
use Rattle.pg_reduction.specs.Named.{found_of}
use Rattle.pg_rewrites.specs.Applying.{forward_terms}
use Rattle.pg_rewrites.specs.Taking.{taken_at}
use Rattle.pg_rewrites.specs.View.{claim}
use Rattle.pg_rewrites.proofs.Doing.{large-right, small-right, forwards}
use Rattle.pg_rewrites.proofs.Values.{forward-tight}
use Rattle.pg_rewrites.proofs.applying.forwarded.Goals as goal

-- the terms, as they are given
abbrev Terms : Formula → Formula → List Term → Type 0
Terms a b ts = forward_terms (unbound [] (formula a)) (unbound [] (formula a)).rest (formula b) ≡ Ok (terms ts)

there : (a a' b b' : Formula) (ts : List Term) → a' ≡ a → b' ≡ b → Terms a' b' ts → Terms a b ts
there a a' b b' ts ea eb t = subst (λ b. Terms a b ts) eb (subst (λ a. Terms a b' ts) ea t)

-- the limit that the right side passes
abbrev Rights : Formula → List Term → Option Cause → Type 0
Rights a ts o = (u v : Fm) → (unbound [] (formula a)).rest ≡ imp u v → Tells (first_over (formula_measures (filled_formula (terms ts) v))) o

right : (a a' : Formula) (ts ts' : List Term) (o : Option Cause) → a' ≡ a → ts' ≡ ts → Rights a' ts' o → Rights a ts o
right a a' ts ts' o ea et t = subst (λ ts. Rights a ts o) et (subst (λ a. Rights a ts' o) ea t)

pub large_right-requires-clause-tight : goal.large_right-requires-clause-tight
large_right-requires-clause-tight c =
    let a = c.get.result.now in
    subst (λ ts. AreTight (terms ts)) (sym c.as_slice.ensures) (forward-tight (unbound [] (formula a)) (unbound [] (formula a)).rest (formula c.get-2.result.now) (terms c.in-Ok.terms) c.in-Ok.ensures)

pub returns-in-Some : goal.returns-in-Some
returns-in-Some c =
    let a = c.args.given.formula in
    let b = c.args.f.now.hyp.now.formula in
    large-right (unbound [] (formula a)) (formula b) (terms c.in-Ok.terms) (there a c.get.result.now b c.get-2.result.now c.in-Ok.terms c.get.ensures c.get-2.ensures c.in-Ok.ensures) c.in_ok-limit.field-0 c.in-Some.limit c.in-Some.is
    (right a c.get-3.result.now c.in-Ok.terms c.as_slice.result.now c.in_ok-limit.field-0 c.get-3.ensures c.as_slice.ensures c.in_ok-limit.ensures)

pub returns-in-Ok-detached : goal.returns-in-Ok-detached
returns-in-Ok-detached c =
    let x = c.args.given in
    let a = x.formula in
    let b = c.args.f.now.hyp.now.formula in
    let k = there a c.get.result.now b c.get-2.result.now c.in-Ok.terms c.get.ensures c.get-2.ensures c.in-Ok.ensures in
    let is : claim c.in_ok-given.given ≡ taken_at (terms c.in-Ok.terms) (formula a) (proof x.proof) = c.in_ok-given.ensures ∙ ap (λ ts. taken_at (terms ts) (formula a) (proof x.proof)) c.as_slice-2.ensures in (
      forwards (found_of c.args.f.now) (formula a) (proof x.proof) (terms c.in-Ok.terms) (claim c.in_ok-given.given) (claim c.in-Ok-detached.next) k is c.in-Ok-detached.ensures,
      small-right (unbound [] (formula a)) (formula b) (terms c.in-Ok.terms) k c.in_ok-limit.field-0 c.in_default.is
          (right a c.get-3.result.now c.in-Ok.terms c.as_slice.result.now c.in_ok-limit.field-0 c.get-3.ensures c.as_slice.ensures c.in_ok-limit.ensures),
    )
