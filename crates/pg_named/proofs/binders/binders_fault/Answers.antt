use Rattle.std.proofs.Common.{◌≡◌, ◌∙◌, ◌++◌, ap, sym, true, map, reverse, subst, arith}
use Rattle.pg_script.specs.View.{words}
use Rattle.pg_forms.specs.View.{binder}
use Rattle.pg_faults.specs.View.{found, sooner}
use Rattle.pg_faults.proofs.Least.{least-law}
use Rattle.pg_gametext.specs.Faults.{least, one_over, Variables, Hypotheses, variable_limit, hypothesis_limit}
use Rattle.pg_gametext.specs.Before.{all_binder_words}
use Rattle.pg_gametext.specs.Checks.{variable_words, hypothesis_words}
use Rattle.pg_named.specs.View.{given}
use Rattle.pg_named.specs.Found.{kept}
use Rattle.pg_named.specs.Bound.{Rises, up_to, place_of}
use Rattle.pg_named.proofs.Differ.{up_to_rises, limited, over_small, small_sooner, IsSmall}
use Rattle.pg_named.proofs.binders.binders_fault.Goals as goal

pub first_clash-requires : goal.first_clash-requires
first_clash-requires c =
    let ws = all_binder_words (map binder c.args.binders.now) in
    let front = ap words c.deref.ensures.value ∙ c.in_ok-front.ensures ∙ ap (λ p. up_to p ws) c.place_of.ensures in
    subst Rises (sym front) (up_to_rises (place_of (found c.sooner-over.result)) ws c.requires)

pub returns : goal.returns
returns c =
    let bs = map binder c.args.binders.now in
    let ws = all_binder_words bs in
    let us = words c.deref.result.now in
    let front = ap words c.deref.ensures.value ∙ c.in_ok-front.ensures ∙ ap (λ p. up_to p ws) c.place_of.ensures in
    let V = one_over Variables variable_limit (variable_words bs) in
    let H = one_over Hypotheses hypothesis_limit (hypothesis_words bs) in
    let over : found c.sooner-over.result ≡ least (V ++ H) =
    c.sooner-over.ensures.first ∙ ap (λ o. sooner o (found c.hypotheses_over.result)) c.variables_over.ensures ∙ ap (sooner (least V)) c.hypotheses_over.ensures ∙ sym (least-law V H)
    in
    let small : IsSmall (least (V ++ H)) =
    subst IsSmall (sym (least-law V H)) (small_sooner (least V) (least H) (over_small Variables variable_limit (variable_words bs) (omega arith)) (over_small Hypotheses hypothesis_limit (hypothesis_words bs) (omega arith)))
    in
    limited (kept true (map given (reverse c.args.table.now))) ws us (V ++ H) _ _ _ c.requires small front over c.first_clash.ensures c.sooner.ensures.first
