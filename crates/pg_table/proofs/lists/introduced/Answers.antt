use Rattle.std.proofs.Common.{subst}
use Rattle.pg_base.specs.Tokens.{word}
use Rattle.pg_script.specs.View.{words}
use Rattle.pg_moves.specs.Acts.{Intro}
use Rattle.pg_goal.specs.View.{goal_of, lookup_of}
use Rattle.pg_reduction.specs.Doing.{Does}
use Rattle.pg_runs.specs.Written.{IsNamed}
use Rattle.pg_table.proofs.Acts.{here, nowhere, seen, holds-there, picked}
use Rattle.pg_table.proofs.lists.introduced.Goals as goal

pub intro-requires-clause-name : goal.intro-requires-clause-name
intro-requires-clause-name c =
    let xs = c.args.names.now in
    let x = c.in-Some.name in
    holds-there IsNamed (words xs) c.args.part (word x.now) c.requires.names (seen word xs c.args.part x.now (here xs c.args.part c.at.result x c.at.ensures c.in-Some.is))

pub unreachable-requires : goal.unreachable-requires
unreachable-requires c = nowhere c.args.names.now c.args.part c.at.result c.at.ensures c.in-None.is c.requires.part

pub returns : goal.returns
returns c a e =
    let xs = c.args.names.now in
    let x = c.in-Some.name in
    subst (λ a. Does (lookup_of c.args.lookup.now) (goal_of c.args.goal.now) a c.intro.result)
    (picked Intro (words xs) c.args.part (word x.now) a (seen word xs c.args.part x.now (here xs c.args.part c.at.result x c.at.ensures c.in-Some.is)) e) c.intro.ensures
