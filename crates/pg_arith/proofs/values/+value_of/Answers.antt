use Rattle.std.proofs.Common.{rules, sym, suc, drop, get_or, length, subst, ◌-◌, ◌<◌, ◌≡◌, ◌++◌, ◌∷◌, [], ◌∙◌, ap}
use Rattle.std.specs.Prelude.{Err, slice_index, vec_len}
use Rattle.pg_logic.specs.Valuing.{Got, use_one, run, runs_of}
use Rattle.pg_terms.specs.View.{term}
use Rattle.pg_arith.specs.Outcomes.{Answers}
use Rattle.pg_arith.specs.View.{plain_functions}
use Rattle.std.proofs.Math.ListN.{drop_of_length-le}
use Rattle.std.proofs.Math.Seq.{drop-cons}
use Rattle.pg_arith.specs.Postfix.{run_step, run_steps}
use Rattle.pg_arith.specs.declared.postfix.Step.TheVariants.{Variable}
use Rattle.pg_arith.proofs.Steps.{steps-got, steps-err, add_one-err, match-err}
use Rattle.pg_arith.proofs.Runs.{leaves-err, recursion-base-err, recursion-step-err}
use Rattle.pg_arith.proofs.values.+value_of.Goals as goal

pub recursion-returns-in_err-v-clause-exact : goal.recursion-returns-in_err-v-clause-exact
recursion-returns-in_err-v-clause-exact t c =
    let limit = c.args.limit in
    let R = runs_of limit (plain_functions c.args.functions.now) in
    let front = c.front_of-front.result.now in
    let e = c.in_err-v.field-0.0 in
    let stopped = subst (λ base. Answers (use_one c.args.left.now (run R limit front (term base))) (Err e)) c.get.ensures c.in_err-v.ensures.exact in
    leaves-err _ c.from_residual.result _ e c.from_residual.ensures
    (recursion-base-err R limit (term c.args.r.now.base) (term c.args.r.now.step) c.args.arguments.now front c.saturating_sub-last.result c.args.r.now.arity
    (slice_index c.args.arguments.now (c.args.r.now.arity - 1)) c.args.left.now e
    c.front_of-front.ensures c.saturating_sub-last.ensures stopped)

pub recursion-returns-in_err-v-2-clause-exact : goal.recursion-returns-in_err-v-2-clause-exact
recursion-returns-in_err-v-2-clause-exact t c =
    let limit = c.args.limit in
    let R = runs_of limit (plain_functions c.args.functions.now) in
    let front = c.front_of-front.result.now in
    let e = c.in_err-v-2.field-0.0 in
    let m = c.loop-m.m in
    let began = subst (λ base. use_one c.args.left.now (run R limit front (term base)) ≡ Got c.in_ok-v.v c.right_side.new.left) c.get.ensures c.in_ok-v.ensures.exact in
    let stopped = subst (λ step. Answers (use_one c.loop-m.left (run R limit (front ++ m ∷ c.loop-m.v ∷ []) (term step))) (Err e)) c.get-in-loop-m.ensures c.in_err-v-2.ensures.exact in
    let below = subst (λ n. m < n) (c.number_at-end.ensures.value ∙ ap (slice_index c.args.arguments.now) c.saturating_sub-last.ensures) c.loop-m-test.true in
    leaves-err _ c.from_residual-in_err-v-2.result _ e c.from_residual-in_err-v-2.ensures
    (recursion-step-err R limit (term c.args.r.now.base) (term c.args.r.now.step) c.args.arguments.now front c.saturating_sub-last.result c.args.r.now.arity m
    (slice_index c.args.arguments.now (c.args.r.now.arity - 1)) c.loop-m.v c.args.left.now c.loop-m.left e
    c.front_of-front.ensures c.saturating_sub-last.ensures below (c.loop-m.invariant.ran c.args.left.now began) stopped)

pub value_by-returns-clause-exact : goal.value_by-returns-clause-exact
value_by-returns-clause-exact t c = λ t' e.
    let limit = c.args.limit in
    let R = runs_of limit (plain_functions c.args.functions.now) in
    let left = c.loop-step.left in
    let vs = c.loop-step.values.items in
    let over = drop_of_length-le c.args.steps.now c.loop-step-test.false in
    let ended = subst (λ l. run_steps R limit c.args.free.now l vs left ≡ run_steps R limit c.args.free.now c.args.steps.now [] c.args.left.now) over c.loop-step.invariant.rest in
    let whole = subst (λ l. Got vs left ≡ run_steps R limit c.args.free.now l [] c.args.left.now) e ended in
    let top = sym (c.number_at.ensures.value ∙ ap (λ l. slice_index l 0) c.as_slice.ensures.value) in
    subst (λ v. run R limit c.args.free.now t' c.args.left.now ≡ Got v left) top (steps-got R limit c.args.free.now t' c.args.left.now vs left whole)

pub value_by-returns-in_err-take_step-clause-exact : goal.value_by-returns-in_err-take_step-clause-exact
value_by-returns-in_err-take_step-clause-exact t c = λ t' e.
    let limit = c.args.limit in
    let R = runs_of limit (plain_functions c.args.functions.now) in
    let left = c.loop-step.left in
    let vs = c.loop-step.values.items in
    let at = c.loop-step.step-index in
    let steps = c.args.steps.now in
    let free = c.args.free.now in
    let fault = c.in_err-take_step.field-0.0 in
    let front = drop-cons steps at (Variable 0) c.loop-step-test.true in
    let rest = subst (λ l. run_steps R limit free l vs left ≡ run_steps R limit free steps [] c.args.left.now) front c.loop-step.invariant.rest in
    let whole = subst (λ l. run_steps R limit free (get_or steps at (Variable 0) ∷ drop (suc at) steps) vs left ≡ run_steps R limit free l [] c.args.left.now) e rest in
    leaves-err _ c.from_residual.result _ fault c.from_residual.ensures
    (steps-err R limit free t' c.args.left.now (get_or steps at (Variable 0)) (drop (suc at) steps) vs left fault whole c.in_err-take_step.ensures.exact)

pub take_step-returns-in_err-v-in-AddOne-clause-exact : goal.take_step-returns-in_err-v-in-AddOne-clause-exact
take_step-returns-in_err-v-in-AddOne-clause-exact t c =
    let R = runs_of c.args.limit (plain_functions c.args.functions.now) in
    let vs = c.args.values.now.items in
    let left = c.args.left.now in
    let fault = c.in_err-v-in-AddOne.field-0.0 in
    let top = c.number_at-in-AddOne.ensures.value ∙ ap (λ l. slice_index l c.saturating_sub-at.result) c.as_slice.ensures.value in
    let size : vec_len c.args.values.now ≡ length vs = search rules in
    match-err (λ _. run_step R c.args.limit c.args.free.now c.args.step vs left ≡ Got vs left) (run_step R c.args.limit c.args.free.now c.args.step vs left) c.from_residual.result fault c.from_residual.ensures
    (add_one-err R c.args.limit c.args.free.now vs left c.args.step c.number_at-in-AddOne.result c.saturating_sub-at.result c.len.result fault c.in-AddOne.is top c.saturating_sub-at.ensures
    (c.len.ensures ∙ size) (c.in_err-v-in-AddOne.ensures.exact left))
