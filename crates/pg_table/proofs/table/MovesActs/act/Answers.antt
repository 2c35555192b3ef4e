use Rattle.std.proofs.Common.{◌≡◌, Some, sym, refl, subst}
use Rattle.std.specs.Prelude.{slice_get}
use Rattle.pg_script.specs.View.{part, shape}
use Rattle.pg_goal.specs.View.{goal_of, lookup_of}
use Rattle.pg_moves.specs.Acts.{Unknown, acts_of}
use Rattle.pg_moves.specs.Steps.{new_goals}
use Rattle.pg_reduction.specs.Doing.{StopsWithin}
use Rattle.pg_reduction.specs.declared.cause.Cause.TheVariants.{WrongShape}
use Rattle.pg_runs.specs.Written.{IsShapely}
use Rattle.pg_table.proofs.Acts.{only, unknown}
use Rattle.pg_table.proofs.Small.{texts}
use Rattle.pg_table.proofs.table.MovesActs.act.Goals as goal

pub by_cases-requires-clause-texts : goal.by_cases-requires-clause-texts
by_cases-requires-clause-texts c = texts (part c.in-ByCases.formula) (subst (λ f. IsShapely (shape f)) c.in-ByCases.is c.requires.written.tokens).1

pub returns-in-Unknown : goal.returns-in-Unknown
returns-in-Unknown c a e =
    let l = lookup_of c.args.lookup.now in
    let g = goal_of c.args.goal.now in
    let here = only Unknown a c.args.part (subst (λ f. slice_get (acts_of c.args.step.now.head.now (shape f)) c.args.part ≡ Some a) c.in-Unknown.is e) in
    subst (λ a. StopsWithin (new_goals l g a) WrongShape) here (subst (λ t. StopsWithin t WrongShape) (sym (unknown l g)) refl)
