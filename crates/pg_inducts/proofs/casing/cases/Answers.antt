use Rattle.std.proofs.Common.{length, map, sym, subst}
use Rattle.std.specs.Prelude.{All}
use Rattle.std.proofs.lemmas.List.{length-map}
use Rattle.pg_base.specs.Tokens.{word}
use Rattle.pg_script.specs.View.{words}
use Rattle.pg_terms.specs.View.{formula}
use Rattle.pg_arith.specs.View.{signature}
use Rattle.pg_goal.specs.View.{goal_of, lookup_of, var_of}
use Rattle.pg_reduction.specs.Limits.{hyp_formula}
use Rattle.pg_inducts.specs.Carrying.{CanStep}
use Rattle.pg_inducts.proofs.Does.{does-cases}
use Rattle.pg_inducts.proofs.Doubled.{can-step, all-can-step, single, all-single}
use Rattle.pg_inducts.proofs.Held.{closable, all-closable}
use Rattle.pg_inducts.proofs.casing.cases.Goals as goal

pub cases_of-requires-clause-hyps : goal.cases_of-requires-clause-hyps
cases_of-requires-clause-hyps c =
    all-closable (signature c.args.lookup.now.sig.now) (length (goal_of c.args.goal.now).vars) c.args.goal.now.hyps c.requires.ready.fits.0
    (all-single (map hyp_formula c.args.goal.now.hyps) c.requires.hyps)

pub cases_of-requires-clause-target : goal.cases_of-requires-clause-target
cases_of-requires-clause-target c =
    let a = formula c.args.goal.now.target in
    closable (signature c.args.lookup.now.sig.now) (length (goal_of c.args.goal.now).vars) a c.requires.ready.fits.1 (single a c.requires.target)

pub cases_of-requires-clause-step_hyps : goal.cases_of-requires-clause-step_hyps
cases_of-requires-clause-step_hyps c =
    subst (λ n. All (CanStep c.in-Some.k n) (map hyp_formula c.args.goal.now.hyps)) (length-map c.args.goal.now.vars var_of)
    (all-can-step (signature c.args.lookup.now.sig.now) (length (goal_of c.args.goal.now).vars) c.in-Some.k c.args.goal.now.hyps c.requires.ready.fits.0 c.requires.hyps)

pub cases_of-requires-clause-step_target : goal.cases_of-requires-clause-step_target
cases_of-requires-clause-step_target c =
    let a = formula c.args.goal.now.target in
    subst (λ n. CanStep c.in-Some.k n a) (length-map c.args.goal.now.vars var_of)
    (can-step (signature c.args.lookup.now.sig.now) (length (goal_of c.args.goal.now).vars) c.in-Some.k a c.requires.ready.fits.1 c.requires.target)

pub returns-in-Some : goal.returns-in-Some
returns-in-Some c =
    does-cases (lookup_of c.args.lookup.now) (goal_of c.args.goal.now) c.requires.ready (word c.args.name.now) c.in-Some.k (words c.args.names.now) (sym c.in-Some.ensures) c.cases_of.result c.cases_of.ensures
