use Rattle.std.proofs.Common.{map, subst}
use Rattle.std.specs.Prelude.{option_map}
use Rattle.pg_script.specs.Data.{Rule}
use Rattle.pg_script.specs.View.{rule}
use Rattle.pg_moves.specs.Acts.{rewrite_act}
use Rattle.pg_goal.specs.View.{goal_of, lookup_of}
use Rattle.pg_reduction.specs.Doing.{DoesWithin}
use Rattle.pg_runs.specs.Written.{HaveTexts}
use Rattle.pg_table.specs.Lent.{lent_word}
use Rattle.pg_table.proofs.Acts.{here, nowhere, seen, holds-there, picked}
use Rattle.pg_table.proofs.lists.rewritten.Goals as goal

pub rewritten_by-requires-clause-texts : goal.rewritten_by-requires-clause-texts
rewritten_by-requires-clause-texts c =
    let xs = c.args.rules.now in
    let x = c.in-Some.rule in
    holds-there (λ (r : Rule). HaveTexts r.expr) (map rule xs) c.args.part (rule x.now) c.requires.texts (seen rule xs c.args.part x.now (here xs c.args.part c.at.result x c.at.ensures c.in-Some.is))

pub unreachable-requires : goal.unreachable-requires
unreachable-requires c = nowhere c.args.rules.now c.args.part c.at.result c.at.ensures c.in-None.is c.requires.part

pub returns : goal.returns
returns c a e =
    let xs = c.args.rules.now in
    let x = c.in-Some.rule in
    subst (λ a. DoesWithin (lookup_of c.args.lookup.now) (goal_of c.args.goal.now) a c.rewritten_by.result)
    (picked (rewrite_act (option_map lent_word c.args.place)) (map rule xs) c.args.part (rule x.now) a (seen rule xs c.args.part x.now (here xs c.args.part c.at.result x c.at.ensures c.in-Some.is)) e)
    c.rewritten_by.ensures
