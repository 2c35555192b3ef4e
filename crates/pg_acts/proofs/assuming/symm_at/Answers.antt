use Rattle.std.proofs.Common.{sym}
use Rattle.pg_base.specs.Tokens.{word}
use Rattle.pg_goal.specs.View.{goal_of, lookup_of}
use Rattle.pg_reduction.specs.Named.{found_of}
use Rattle.pg_acts.proofs.Does.{does-symm_at, unnamed-symm_at}
use Rattle.pg_acts.proofs.assuming.symm_at.Goals as goal

pub returns-in-Some : goal.returns-in-Some
returns-in-Some c =
    does-symm_at (lookup_of c.args.lookup.now) (goal_of c.args.goal.now) c.requires.ready (word c.args.name.now) (found_of c.in-Some.f) (sym c.in-Some.ensures) c.symmetric_at.result c.symmetric_at.ensures

pub returns-in-None : goal.returns-in-None
returns-in-None c = unnamed-symm_at (lookup_of c.args.lookup.now) (goal_of c.args.goal.now) (word c.args.name.now) (sym c.in-None.ensures)
