use Rattle.std.proofs.Common.{◌≡◌, Bool, [], List, ap, sym, ◌∙◌, subst}
use Rattle.std.specs.Prelude.{Option, Ok}
use Rattle.pg_kernel.specs.View.{proof}
use Rattle.pg_terms.specs.declared.formula.Formula.{Formula}
use Rattle.pg_terms.specs.declared.term.Term.{Term}
use Rattle.pg_terms.specs.View.{terms, formula}
use Rattle.pg_moves.specs.Instances.{AreTight}
use Rattle.pg_moves.specs.Rewriting.{Sides, sides}
use Rattle.pg_moves.specs.Stripped.{unbound}
use Rattle.pg_reduction.specs.declared.cause.Cause.{Cause}
use Rattle.pg_reduction.specs.Limits.{Tells, large_nodes}
use Rattle.pg_rewrites.specs.Rewriting.{exchanged_at, rule_terms}
use Rattle.pg_rewrites.specs.Taking.{taken_at}
use Rattle.pg_rewrites.specs.View.{claim, equation_of}
use Rattle.pg_rewrites.proofs.Doing.{large-rule, small-rule, equates}
use Rattle.pg_rewrites.proofs.Values.{rule-tight}
use Rattle.pg_rewrites.proofs.rewriting.rule_equation.Goals as goal

-- the terms, as they are given
abbrev Terms : Bool → Formula → Formula → List Term → Type 0
Terms back b a ts = rule_terms back (unbound [] (formula a)) (formula b) ≡ Ok (terms ts)

-- the limit that the formula passes
abbrev Exchanges : Bool → Formula → Formula → List Term → Option Cause → Type 0
Exchanges back b a ts o = (z : Sides) → sides back (unbound [] (formula a)).rest ≡ Ok z → Tells (large_nodes (exchanged_at (terms ts) (formula b) z)) o

exchanges : (back : Bool) (b a a' : Formula) (ts ts' : List Term) (o : Option Cause) → a' ≡ a → ts' ≡ ts → Exchanges back b a' ts' o → Exchanges back b a ts o
exchanges back b a a' ts ts' o ea et t = subst (λ ts. Exchanges back b a ts o) et (subst (λ a. Exchanges back b a ts' o) ea t)

pub large_rule-requires-clause-tight : goal.large_rule-requires-clause-tight
large_rule-requires-clause-tight c =
    subst (λ ts. AreTight (terms ts)) (sym c.as_slice-by.ensures) (rule-tight c.args.back (unbound [] (formula c.get.result.now)) (formula c.args.subject.now) (terms c.in-Ok.terms) c.in-Ok.ensures)

pub returns-in-Some : goal.returns-in-Some
returns-in-Some c =
    let a = c.args.given.formula in
    let b = c.args.subject.now in
    let k = subst (λ a. Terms c.args.back b a c.in-Ok.terms) c.get.ensures c.in-Ok.ensures in
    large-rule c.args.back (unbound [] (formula a)) (formula b) (terms c.in-Ok.terms) k c.in_ok-limit.field-0 c.in-Some.limit c.in-Some.is
    (exchanges c.args.back b a c.get-2.result.now c.in-Ok.terms c.as_slice-by.result.now c.in_ok-limit.field-0 c.get-2.ensures c.as_slice-by.ensures c.in_ok-limit.ensures)

pub returns-in-Ok-equated : goal.returns-in-Ok-equated
returns-in-Ok-equated c =
    let x = c.args.given in
    let a = x.formula in
    let b = c.args.subject.now in
    let k = subst (λ a. Terms c.args.back b a c.in-Ok.terms) c.get.ensures c.in-Ok.ensures in
    let is : claim c.in_ok-given.given ≡ taken_at (terms c.in-Ok.terms) (formula a) (proof x.proof) = c.in_ok-given.ensures ∙ ap (λ ts. taken_at (terms ts) (formula a) (proof x.proof)) c.as_slice.ensures in (
      equates c.args.back (formula a) (proof x.proof) (formula b) (terms c.in-Ok.terms) (claim c.in_ok-given.given) (Ok (equation_of c.in-Ok-equated.e)) k is c.in-Ok-equated.ensures,
      small-rule c.args.back (unbound [] (formula a)) (formula b) (terms c.in-Ok.terms) k c.in_ok-limit.field-0 c.in_default.is
          (exchanges c.args.back b a c.get-2.result.now c.in-Ok.terms c.as_slice-by.result.now c.in_ok-limit.field-0 c.get-2.ensures c.as_slice-by.ensures c.in_ok-limit.ensures),
    )
