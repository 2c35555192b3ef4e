use Rattle.std.proofs.Common.{length, sym}
use Rattle.pg_base.specs.Tokens.{word}
use Rattle.pg_script.specs.View.{words}
use Rattle.pg_terms.specs.View.{formula}
use Rattle.pg_arith.specs.View.{signature}
use Rattle.pg_goal.specs.View.{goal_of, lookup_of}
use Rattle.pg_reduction.specs.Named.{found_of}
use Rattle.pg_inducts.proofs.Does.{does-induction, shapeless-induction, unnamed-induction}
use Rattle.pg_inducts.proofs.Held.{closable, all-closable}
use Rattle.pg_inducts.proofs.inducting.induction.Goals as goal

pub induction_of-requires-clause-hyps : goal.induction_of-requires-clause-hyps
induction_of-requires-clause-hyps c =
    all-closable (signature c.args.lookup.now.sig.now) (length (goal_of c.args.goal.now).vars) c.args.goal.now.hyps c.requires.ready.fits.0 c.requires.hyps

pub induction_of-requires-clause-target : goal.induction_of-requires-clause-target
induction_of-requires-clause-target c =
    closable (signature c.args.lookup.now.sig.now) (length (goal_of c.args.goal.now).vars) (formula c.args.goal.now.target) c.requires.ready.fits.1 c.requires.target

pub returns-in-Some : goal.returns-in-Some
returns-in-Some c =
    does-induction (lookup_of c.args.lookup.now) (goal_of c.args.goal.now) c.requires.ready (word c.args.name.now) c.in-Some.k (words c.args.names.now) (sym c.in-Some.ensures) c.induction_of.result c.induction_of.ensures

pub returns-in-Some-hypothesis_of : goal.returns-in-Some-hypothesis_of
returns-in-Some-hypothesis_of c =
    shapeless-induction (lookup_of c.args.lookup.now) (goal_of c.args.goal.now) (word c.args.name.now) (words c.args.names.now) (found_of c.in-Some-hypothesis_of.field-0) (sym c.in-None.ensures) (sym c.in-Some-hypothesis_of.ensures)

pub returns-in-None-hypothesis_of : goal.returns-in-None-hypothesis_of
returns-in-None-hypothesis_of c =
    unnamed-induction (lookup_of c.args.lookup.now) (goal_of c.args.goal.now) (word c.args.name.now) (words c.args.names.now) (sym c.in-None.ensures) (sym c.in-None-hypothesis_of.ensures)
