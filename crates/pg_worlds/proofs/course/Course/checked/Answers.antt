use Rattle.std.proofs.Common.{◌∙◌, ap, map, sym, arith}
use Rattle.std.proofs.lemmas.Bool.{false≢true}
use Rattle.pg_worlds.specs.declared.course.LevelItems.{LevelItems}
use Rattle.pg_worlds.specs.Worlds.{world_of_each}
use Rattle.pg_worlds.proofs.Plans.{plan_from, other_worlds}
use Rattle.pg_worlds.proofs.course.Course.checked.Goals as goal

pub returns-then-not-have_worlds-clause-none : goal.returns-then-not-have_worlds-clause-none
returns-then-not-have_worlds-clause-none c =
    other_worlds c.args.graph c.in_ok-order.order.items c.args.items.items c.in_ok-order.ensures.ok
    (λ same.
    false≢true
    (sym c.if-not-have_worlds.true
    ∙ c.have_worlds.ensures.1
    (ap (map (λ (i : LevelItems). i.world)) c.as_slice-2.ensures.value
    ∙ same
    ∙ ap (world_of_each c.args.graph) (sym c.as_slice.ensures.value)
    ∙ sym c.in_ok-worlds.ensures
    ∙ sym c.as_slice-3.ensures.value)))

pub new-requires : goal.new-requires
new-requires c =
    plan_from c.args.graph c.in_ok-order.order.items c.args.items.items c.order.ensures.graph c.in_ok-order.ensures.ok
    (ap (map (λ (i : LevelItems). i.world)) (sym c.as_slice-2.ensures.value)
    ∙ c.have_worlds.ensures.0 c.if-not-have_worlds.false
    ∙ c.as_slice-3.ensures.value
    ∙ c.in_ok-worlds.ensures
    ∙ ap (world_of_each c.args.graph) c.as_slice.ensures.value)
    (omega (arith, c.len.ensures, c.if-len-gt-MOST_LEVELS.false))
