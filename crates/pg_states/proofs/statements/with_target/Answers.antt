use Rattle.std.proofs.Common.{◌∙◌, ap, subst, Some}
use Rattle.pg_arith.specs.View.{declarations}
use Rattle.pg_faults.specs.View.{found, fault, sooner}
use Rattle.pg_faults.specs.declared.fault.Fault.{Fault}
use Rattle.pg_forms.specs.View.{part}
use Rattle.pg_gametext.specs.Faults.{answer_faults}
use Rattle.pg_gametext.specs.Reading.{formula_of_part}
use Rattle.pg_states.specs.Statements.{Tells}
use Rattle.pg_states.proofs.Drafting.{fault_of}
use Rattle.pg_states.proofs.Ending.{scope_is, told, target_broken}
use Rattle.pg_states.proofs.statements.with_target.Goals as goal

pub returns-in-Ok : goal.returns-in-Ok
returns-in-Ok c h g =
    let d = declarations c.args.sig.now in
    c.whole.ensures h (formula_of_part h.vars d (part c.args.span)) g (scope_is h c.args.draft d (part c.args.span) g ∙ c.in-Ok.ensures)

pub returns-in-Err-Fault : goal.returns-in-Err-Fault
returns-in-Err-Fault c h g =
    let d = declarations c.args.sig.now in
    let a = formula_of_part h.vars d (part c.args.span) in
    told c.args.at h (Some a) (sooner (found c.args.draft.first) (Some (fault c.in-Err-Fault.fault))) c.broken.result
    (subst (λ (f : Fault). Tells (sooner (found c.args.draft.first) (Some (fault f))) c.broken.result) c.in-Err-Fault.fault-is c.broken.ensures)
    (target_broken c.args.at h c.args.draft a (fault c.in-Err-Fault.fault) g
    (ap answer_faults (scope_is h c.args.draft d (part c.args.span) g)
    ∙ fault_of _ c.in-Err-Fault.field-0 c.in-Err-Fault.fault c.in-Err-Fault.field-0-is c.in-Err-Fault.ensures))
