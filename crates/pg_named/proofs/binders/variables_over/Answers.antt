use Rattle.std.proofs.Common.{refl, Ok}
use Rattle.pg_faults.specs.View.{fault}
use Rattle.pg_gametext.specs.Faults.{Variables, variable_limit}
use Rattle.pg_gametext.specs.Checks.{variable_words}
use Rattle.pg_named.proofs.Room.{turn, over_here, none_over, variables_count}
use Rattle.pg_named.proofs.binders.variables_over.Goals as goal

pub returns-in-Err : goal.returns-in-Err
returns-in-Err c =
    over_here variable_words Variables variable_limit c.loop-binder.room c.args.binders.now c.loop-binder.binder-index _ (fault c.in-Err.fault) variables_count c.loop-binder-test.true c.loop-binder.invariant c.in-Err.ensures

pub loop-binder-preserved : goal.loop-binder-preserved
loop-binder-preserved c =
    turn variable_words Variables variable_limit c.loop-binder.room c.args.binders.now c.loop-binder.binder-index _ (Ok c.in-Ok.less) _ variables_count c.loop-binder-test.true c.loop-binder.invariant c.in-Ok.ensures

pub returns : goal.returns
returns c = none_over variable_words Variables variable_limit c.loop-binder.room c.args.binders.now c.loop-binder.binder-index refl c.loop-binder-test.false c.loop-binder.invariant
