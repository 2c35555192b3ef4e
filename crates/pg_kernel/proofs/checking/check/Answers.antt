use Rattle.std.proofs.Common.{◌≡◌}
use Rattle.pg_logic.specs.Kernel.{fault_of}
use Rattle.pg_terms.specs.View.{formula, formulas}
use Rattle.pg_arith.specs.View.{signature}
use Rattle.pg_kernel.specs.Checks.{verdict_of}
use Rattle.pg_kernel.specs.View.{proof}
use Rattle.pg_kernel.proofs.Accepted.{accepted-derives, derived-entails}
use Rattle.pg_kernel.proofs.Given.{if_ok, fault_none}
use Rattle.pg_kernel.proofs.checking.check.Goals as goal

pub returns-clause-derives : goal.returns-clause-derives
returns-clause-derives c =
    let s = signature c.args.sig.now in
    let th = formulas c.args.theorems.now in
    let h = formulas c.args.hyps.now in
    let p = proof c.args.p.now in
    let a = formula c.args.goal.now in
    if_ok c.checked.result (λ v. v ≡ verdict_of (fault_of s th p c.args.vars h a 0)) _
    (λ v e acc. accepted-derives s th p c.args.vars h a (fault_none (fault_of s th p c.args.vars h a 0) v e acc))
    c.checked.ensures

pub returns-clause-sound : goal.returns-clause-sound
returns-clause-sound c =
    let s = signature c.args.sig.now in
    let th = formulas c.args.theorems.now in
    let h = formulas c.args.hyps.now in
    let p = proof c.args.p.now in
    let a = formula c.args.goal.now in
    if_ok c.checked.result (λ v. v ≡ verdict_of (fault_of s th p c.args.vars h a 0)) _
    (λ v e acc known.
    derived-entails s th p c.args.vars h a c.declared_law.ensures.declared known c.requires.hyps c.requires.goal
    (accepted-derives s th p c.args.vars h a (fault_none (fault_of s th p c.args.vars h a 0) v e acc)))
    c.checked.ensures
