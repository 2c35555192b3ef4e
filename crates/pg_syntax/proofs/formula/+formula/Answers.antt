use Rattle.std.proofs.Common.{rules, ap, ◌∙◌, if◌then◌else◌}
use Rattle.pg_meaning.specs.Faults as meaning
use Rattle.pg_terms.specs.View.{formula as formula_in}
use Rattle.pg_shape.specs.View.{shape as shape_in, op as sign, quantifier, binders as binders_in}
use Rattle.pg_syntax.proofs.Views.{shape-Quant, shape-Binary}
use Rattle.pg_syntax.proofs.Joins.{join_means, quant_fault, quant_means}
use Rattle.pg_syntax.proofs.formula.+formula.Goals as goal

pub returns-in_err-a-in-Quant-clause-is : goal.returns-in_err-a-in-Quant-clause-is
returns-in_err-a-in-Quant-clause-is n c =
    let same = quant_fault c.args.names.now c.args.sig.now c.args.binders.now c.push_names.new.binders (meaning.beginning (shape_in c.args.whole.now)) c.in-Quant.field-0 (quantifier c.in-Quant.q) (binders_in c.in-Quant.bound_here)
    (shape_in c.in-Quant.s) (shape_in c.args.shape.now) (shape_in c.get-in-Quant.result.now) (shape_in c.get-in-Quant-2.result.now)
    (ap shape_in c.in-Quant.is ∙ shape-Quant c.in-Quant.field-0 c.in-Quant.q c.in-Quant.bound_here c.in-Quant.s) (ap shape_in c.get-in-Quant.ensures) (ap shape_in c.get-in-Quant-2.ensures) c.in_ok-push_names-in-Quant.ensures in
    rw same (search rules)

pub returns-then-is_connective-clause-is : goal.returns-then-is_connective-clause-is
returns-then-is_connective-clause-is n c =
    let both = join_means c.args.names.now c.args.sig.now c.args.binders.now c.formula-then-is_connective.new.binders (meaning.beginning (shape_in c.args.whole.now)) c.in-Binary.at (sign c.in-Binary.op)
    (shape_in c.in-Binary.l) (shape_in c.in-Binary.r) (shape_in c.args.shape.now)
    (shape_in c.get-then-is_connective.result.now) (shape_in c.get-then-is_connective-2.result.now) (shape_in c.get-then-is_connective-3.result.now) (shape_in c.get-then-is_connective-4.result.now)
    (formula_in c.in_ok-a-in-Binary.a) (formula_in c.in_ok-b-in-Binary.b)
    (ap shape_in c.in-Binary.is ∙ shape-Binary c.in-Binary.at c.in-Binary.op c.in-Binary.l c.in-Binary.r)
    (ap shape_in c.get-then-is_connective.ensures) (ap shape_in c.get-then-is_connective-2.ensures) (ap shape_in c.get-then-is_connective-3.ensures) (ap shape_in c.get-then-is_connective-4.ensures)
    c.in_ok-a-in-Binary.ensures.left (c.is_connective.ensures ∙ ap (λ b. if b then meaning.FormulaSort else meaning.TermSort) c.if-is_connective.true)
    c.in_ok-a-in-Binary.ensures.is c.in_ok-b-in-Binary.ensures.is in
    (both.0, c.in_ok-connected-in-Binary.ensures ∙ both.1)

pub returns-in_ok-bound-in-Quant-clause-is : goal.returns-in_ok-bound-in-Quant-clause-is
returns-in_ok-bound-in-Quant-clause-is n c =
    quant_means c.args.names.now c.args.sig.now c.args.binders.now c.push_names.new.binders c.formula-in-Quant.new.binders c.len-outer.result (meaning.beginning (shape_in c.args.whole.now)) c.in-Quant.field-0 (quantifier c.in-Quant.q)
    (binders_in c.in-Quant.bound_here) (shape_in c.in-Quant.s) (shape_in c.args.shape.now) (shape_in c.get-in-Quant.result.now) (shape_in c.get-in-Quant-2.result.now)
    (formula_in c.in_ok-a-in-Quant.a) (formula_in c.in_ok-bound-in-Quant.field-0)
    (ap shape_in c.in-Quant.is ∙ shape-Quant c.in-Quant.field-0 c.in-Quant.q c.in-Quant.bound_here c.in-Quant.s) (ap shape_in c.get-in-Quant.ensures) (ap shape_in c.get-in-Quant-2.ensures)
    c.in_ok-push_names-in-Quant.ensures c.in_ok-a-in-Quant.ensures.left c.len-outer.ensures c.in_ok-a-in-Quant.ensures.is c.in_ok-bound-in-Quant.ensures.is
