use Rattle.std.proofs.Common.{◌≡◌, ◌-◌, ◌^◌, ap, sym, ◌∙◌}
use Rattle.std.specs.Prelude.{min}
use Rattle.pg_logic.specs.Tree.{nodes, nodes_of, opened_formula}
use Rattle.pg_terms.specs.View.{term, formula}
use Rattle.pg_goal.specs.View.{goal_of}
use Rattle.pg_reduction.proofs.Passed.{count-told, count-large, count-small, limit-target}
use Rattle.pg_acts.proofs.closing.at_witness.Goals as goal

pub with_witness-requires : goal.with_witness-requires
with_witness-requires c =
    let t = term c.args.t in
    let a = opened_formula t (formula c.args.body.now) in
    let n = c.opened_size-size.ensures t (c.size.ensures ∙ ap (λ t. min (nodes (term t)) (2 ^ 64 - 1)) c.get.ensures) in
    record { few = count-small a c.large_nodes.result c.in-None.is (count-told a c.opened_size-size.result c.large_nodes.result n c.large_nodes.ensures) }

pub returns-in_ok-target_limit-in-Some : goal.returns-in_ok-target_limit-in-Some
returns-in_ok-target_limit-in-Some c =
    let t = term c.args.t in
    let a = opened_formula t (formula c.args.body.now) in
    let n = c.opened_size-size.ensures t (c.size.ensures ∙ ap (λ t. min (nodes (term t)) (2 ^ 64 - 1)) c.get.ensures) in
    let limit = c.in-Some.limit in
    limit-target (goal_of c.args.goal.now) a limit c.in_ok-target_limit-in-Some.field-0
    (count-large a c.large_nodes.result limit c.in-Some.is (count-told a c.opened_size-size.result c.large_nodes.result n c.large_nodes.ensures))
    c.in_ok-target_limit-in-Some.ensures
