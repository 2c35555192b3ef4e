use Rattle.std.proofs.Common.{◌≤◌, [], map, refl, ap, sym, ◌∙◌, subst}
use Rattle.std.specs.Prelude.{All, Ok, option_map}
use Rattle.pg_logic.specs.Tree.{nodes_of}
use Rattle.pg_terms.specs.View.{terms, formula}
use Rattle.pg_match.specs.Sizes.{AreSizes, size_of}
use Rattle.pg_moves.specs.Goals.{aimed}
use Rattle.pg_goal.specs.View.{goal_of}
use Rattle.pg_reduction.specs.Doing.{StopsWithin}
use Rattle.pg_reduction.specs.Limits.{Tells}
use Rattle.pg_reduction.specs.View.{cause_of}
use Rattle.pg_rewrites.specs.Applying.{antecedents}
use Rattle.pg_reduction.proofs.Passed.{passed}
use Rattle.pg_rewrites.proofs.Limits.{few-all, limit-targets}
use Rattle.pg_rewrites.proofs.applying.applied.Goals as goal

pub taken_off-requires : goal.taken_off-requires
taken_off-requires c =
    let f = c.args.fit.now in
    let are : AreSizes (terms f.terms) c.as_slice.result.now = record { tight = c.requires.tight; are = c.as_slice.ensures ∙ c.in_ok-counted.ensures ∙ ap (λ ts. map size_of (terms ts)) c.as_slice-by.ensures } in
    let t = c.large_antecedent.ensures [] (terms f.terms) refl are in
    let few = few-all (antecedents f.steps [] (terms f.terms) (formula c.args.given.formula))
    (ap (option_map cause_of) (sym c.in-None.is) ∙ subst (λ a. Tells (passed (antecedents f.steps [] (terms f.terms) (formula a))) c.large_antecedent.result) c.get-a.ensures t) in
    subst (All (λ a. nodes_of a ≤ 4096)) (sym c.requires.asked) few

pub returns-in_ok-target_limit-in-Some : goal.returns-in_ok-target_limit-in-Some
returns-in_ok-target_limit-in-Some c =
    let f = c.args.fit.now in
    let g = goal_of c.args.goal.now in
    let are : AreSizes (terms f.terms) c.as_slice.result.now = record { tight = c.requires.tight; are = c.as_slice.ensures ∙ c.in_ok-counted.ensures ∙ ap (λ ts. map size_of (terms ts)) c.as_slice-by.ensures } in
    let t = c.large_antecedent.ensures [] (terms f.terms) refl are in
    let first = c.in_ok-target_limit-in-Some.field-0 in
    let large = ap (option_map cause_of) (sym c.in-Some.is) ∙ subst (λ a. Tells (passed (antecedents f.steps [] (terms f.terms) (formula a))) c.large_antecedent.result) c.get-a.ensures t in
    subst (λ cs. StopsWithin (Ok (map (λ a. aimed a g) cs)) first) (sym c.requires.asked)
    (limit-targets g (antecedents f.steps [] (terms f.terms) (formula c.args.given.formula)) c.in-Some.limit first large c.in_ok-target_limit-in-Some.ensures)
