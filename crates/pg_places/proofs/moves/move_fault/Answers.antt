use Rattle.std.proofs.Common.{◌∙◌, ◌<◌, length, take, ap, arith}
use Rattle.pg_gametext.specs.Checks.{move_faults}
use Rattle.pg_gametext.specs.Faults.{Fault, least}
use Rattle.pg_faults.specs.View.{found, sooner}
use Rattle.pg_script.specs.View.{words}
use Rattle.std.specs.Prelude.{Option}
use Rattle.pg_places.proofs.Named.{least-more}
use Rattle.pg_places.proofs.moves.move_fault.Goals as goal

pub loop-name-preserved : goal.loop-name-preserved
loop-name-preserved c =
    let names = c.args.names.now in
    let i = c.loop-name.name-index in
    let within : i < length names = omega arith in
    c.sooner-first.ensures.first
    ∙ ap (λ (f : Option Fault). sooner f (found c.name_fault.result)) c.loop-name.invariant
    ∙ ap (λ (f : Option Fault). sooner (least (move_faults (words (take i names)))) f) c.name_fault.ensures
    ∙ least-more c.sooner-first.ensures.joins names i _ within
