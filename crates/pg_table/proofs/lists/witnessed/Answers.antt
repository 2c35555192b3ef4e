use Rattle.std.proofs.Common.{map, subst}
use Rattle.std.specs.Prelude.{All}
use Rattle.pg_base.specs.Spans.{IsTokenText}
use Rattle.pg_base.specs.Tokens.{Word}
use Rattle.pg_script.specs.Data.{Part}
use Rattle.pg_script.specs.View.{part}
use Rattle.pg_moves.specs.Acts.{Witness}
use Rattle.pg_goal.specs.View.{goal_of, lookup_of}
use Rattle.pg_reduction.specs.Doing.{DoesWithin}
use Rattle.pg_table.proofs.Acts.{here, nowhere, seen, holds-there, picked}
use Rattle.pg_table.proofs.lists.witnessed.Goals as goal

pub witness-requires-clause-texts : goal.witness-requires-clause-texts
witness-requires-clause-texts c =
    let xs = c.args.terms.now in
    let x = c.in-Some.term in
    holds-there (λ (p : Part). All (λ (w : Word). IsTokenText w.kind w.text) p.tokens) (map part xs) c.args.part (part x.now) c.requires.texts
    (seen part xs c.args.part x.now (here xs c.args.part c.at.result x c.at.ensures c.in-Some.is))

pub unreachable-requires : goal.unreachable-requires
unreachable-requires c = nowhere c.args.terms.now c.args.part c.at.result c.at.ensures c.in-None.is c.requires.part

pub returns : goal.returns
returns c a e =
    let xs = c.args.terms.now in
    let x = c.in-Some.term in
    subst (λ a. DoesWithin (lookup_of c.args.lookup.now) (goal_of c.args.goal.now) a c.witness.result)
    (picked Witness (map part xs) c.args.part (part x.now) a (seen part xs c.args.part x.now (here xs c.args.part c.at.result x c.at.ensures c.in-Some.is)) e) c.witness.ensures
