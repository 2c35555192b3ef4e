use Rattle.std.proofs.Common.{length, sym}
use Rattle.pg_base.specs.Tokens.{word}
use Rattle.pg_terms.specs.View.{formula}
use Rattle.pg_arith.specs.View.{signature}
use Rattle.pg_goal.specs.View.{goal_of, lookup_of}
use Rattle.pg_reduction.specs.Named.{found_of}
use Rattle.pg_inducts.proofs.Does.{does-revert_hyp, does-revert_var, unnamed-revert}
use Rattle.pg_inducts.proofs.Held.{closable, all-closable}
use Rattle.pg_inducts.proofs.reverting.revert.Goals as goal

pub reverted_variable-requires-clause-hyps : goal.reverted_variable-requires-clause-hyps
reverted_variable-requires-clause-hyps c =
    all-closable (signature c.args.lookup.now.sig.now) (length (goal_of c.args.goal.now).vars) c.args.goal.now.hyps c.requires.ready.fits.0 c.requires.hyps

pub reverted_variable-requires-clause-target : goal.reverted_variable-requires-clause-target
reverted_variable-requires-clause-target c =
    closable (signature c.args.lookup.now.sig.now) (length (goal_of c.args.goal.now).vars) (formula c.args.goal.now.target) c.requires.ready.fits.1 c.requires.target

pub returns-in-Some : goal.returns-in-Some
returns-in-Some c =
    does-revert_hyp (lookup_of c.args.lookup.now) (goal_of c.args.goal.now) c.requires.ready (word c.args.name.now) (found_of c.in-Some.f) (sym c.in-Some.ensures) c.reverted_hypothesis.result c.reverted_hypothesis.ensures

pub returns-in-Some-variable_named : goal.returns-in-Some-variable_named
returns-in-Some-variable_named c =
    does-revert_var (lookup_of c.args.lookup.now) (goal_of c.args.goal.now) c.requires.ready (word c.args.name.now) c.in-Some-variable_named.k (sym c.in-None.ensures) (sym c.in-Some-variable_named.ensures) c.reverted_variable.result c.reverted_variable.ensures

pub returns-in-None-variable_named : goal.returns-in-None-variable_named
returns-in-None-variable_named c = unnamed-revert (lookup_of c.args.lookup.now) (goal_of c.args.goal.now) (word c.args.name.now) (sym c.in-None.ensures) (sym c.in-None-variable_named.ensures)
