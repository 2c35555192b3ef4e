use Rattle.std.proofs.Common.{◌≡◌, ◌-◌, ◌^◌, ap, ◌∙◌}
use Rattle.std.specs.Prelude.{min}
use Rattle.pg_logic.specs.Tree.{nodes_of}
use Rattle.pg_terms.specs.View.{term, terms, formula}
use Rattle.pg_match.specs.Sizes.{AreSizes}
use Rattle.pg_moves.specs.Instances.{filled}
use Rattle.pg_moves.specs.Replaced.{replaced_formula}
use Rattle.pg_reduction.proofs.Passed.{count-told}
use Rattle.pg_rewrites.proofs.rewriting.large_exchange.Goals as goal

pub returns : goal.returns
returns c =
    let ts = terms c.args.by.now in
    let new = filled ts (term c.args.new.now) in
    let subject = formula c.args.subject.now in
    let are : AreSizes ts c.as_slice.result.now = record { tight = c.requires; are = c.as_slice.ensures ∙ c.in_ok-values.ensures } in
    let old : term c.get.result.now ≡ filled ts (term c.args.old.now) = ap term c.get.ensures ∙ c.in_ok-old.ensures in
    count-told (replaced_formula (filled ts (term c.args.old.now)) new subject) c.replaced_size.result c.large_nodes.result
    (c.replaced_size.ensures new (c.term_instance_size-size.ensures.nodes ts are) ∙ ap (λ o. min (nodes_of (replaced_formula o new subject)) (2 ^ 64 - 1)) old) c.large_nodes.ensures
