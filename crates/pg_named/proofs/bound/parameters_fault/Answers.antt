use Rattle.std.proofs.Common.{◌∙◌, [], ap, sym, true, map, reverse, subst, arith}
use Rattle.pg_script.specs.View.{words}
use Rattle.pg_logic.specs.Declarations.{arity_limit}
use Rattle.pg_faults.specs.View.{found}
use Rattle.pg_gametext.specs.Faults.{least, one_over, Arity}
use Rattle.pg_gametext.specs.Before.{bound_name}
use Rattle.pg_gametext.specs.Checks.{differing_faults}
use Rattle.pg_named.specs.View.{given}
use Rattle.pg_named.specs.Found.{kept}
use Rattle.pg_named.specs.Bound.{Rises, place_of}
use Rattle.pg_named.proofs.Differ.{up_to_rises, limited, over_small}
use Rattle.pg_named.proofs.Room.{err_over, front_is}
use Rattle.pg_named.proofs.bound.parameters_fault.Goals as goal

pub first_clash-requires : goal.first_clash-requires
first_clash-requires c =
    let ws = words c.args.params.now in
    let front = front_is c.deref-2.result.now c.add_up_to.new.kept.items c.new-front.result.items ws _ _ c.deref-2.ensures.value c.in_ok-add_up_to.ensures c.new-front.ensures.items c.place_of.ensures in
    subst Rises (sym front) (up_to_rises (place_of (found c.err-over.result)) ws c.requires)

pub returns : goal.returns
returns c =
    let ws = words c.args.params.now in
    let us = words c.deref-2.result.now in
    let front = front_is c.deref-2.result.now c.add_up_to.new.kept.items c.new-front.result.items ws _ _ c.deref-2.ensures.value c.in_ok-add_up_to.ensures c.new-front.ensures.items c.place_of.ensures in
    let names = c.first_clash.ensures ∙ ap (λ gs. least (differing_faults (kept true (map given (reverse gs))) (map bound_name us))) (c.deref.ensures.value ∙ c.new-declared.ensures.items) in
    let over = err_over Arity arity_limit ws c.words_left.result c.err-over.result c.err-over.ensures.value c.words_left.ensures in
    limited [] ws us (one_over Arity arity_limit ws) _ _ _ c.requires (over_small Arity arity_limit ws (omega arith)) front over names c.sooner.ensures.first
