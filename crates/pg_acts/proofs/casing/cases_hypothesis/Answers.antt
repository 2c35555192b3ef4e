use Rattle.std.proofs.Common.{sym}
use Rattle.pg_base.specs.Tokens.{word}
use Rattle.pg_script.specs.View.{words}
use Rattle.pg_goal.specs.View.{goal_of, lookup_of}
use Rattle.pg_reduction.specs.Named.{found_of}
use Rattle.pg_acts.proofs.Does.{does-cases, unnamed-cases}
use Rattle.pg_acts.proofs.casing.cases_hypothesis.Goals as goal

pub returns-in-Some : goal.returns-in-Some
returns-in-Some c =
    does-cases (lookup_of c.args.lookup.now) (goal_of c.args.goal.now) c.requires.ready (word c.args.name.now) (words c.args.names.now) (found_of c.in-Some.f) c.requires.variable (sym c.in-Some.ensures) c.cases_of.result c.cases_of.ensures

pub returns-in-None : goal.returns-in-None
returns-in-None c = unnamed-cases (lookup_of c.args.lookup.now) (goal_of c.args.goal.now) (word c.args.name.now) (words c.args.names.now) c.requires.variable (sym c.in-None.ensures)
