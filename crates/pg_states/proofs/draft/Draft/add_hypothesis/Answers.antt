use Rattle.std.proofs.Common.{◌∙◌, ap, map, Some}
use Rattle.pg_arith.specs.View.{declarations}
use Rattle.pg_faults.specs.View.{fault, found, sooner}
use Rattle.pg_faults.specs.declared.fault.Fault.{Fault}
use Rattle.pg_forms.specs.View.{part}
use Rattle.pg_gametext.specs.Reading.{binder}
use Rattle.pg_states.proofs.Drafting.{hypothesis_broken, fault_of}
use Rattle.pg_states.proofs.draft.Draft.add_hypothesis.Goals as goal

pub returns-in-Err-Fault-clause-known : goal.returns-in-Err-Fault-clause-known
returns-in-Err-Fault-clause-known c alive rest =
    hypothesis_broken c.sooner-self.ensures.joins (map binder c.args.self.now.binders.items) (found c.args.self.now.first) (found c.sooner-self.result) c.args.token.now.text.now
    c.args.self.now.names.vars.items (declarations c.args.sig.now) (part c.args.span) (fault c.in-Err-Fault.fault) rest alive
    (fault_of _ c.in-Err-Fault.field-0 c.in-Err-Fault.fault c.in-Err-Fault.field-0-is c.in-Err-Fault.ensures)
    (c.sooner-self.ensures.first ∙ ap (λ (g : Fault). sooner (found c.args.self.now.first) (Some (fault g))) c.in-Err-Fault.fault-is)
