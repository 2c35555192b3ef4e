use Rattle.std.proofs.Common.{◌≡◌, ◌<◌, ◌∙◌, List, ℕ, set, true, false, sym, ap, subst, arith, length}
use Rattle.std.specs.Prelude.{drop, slice_index}
use Rattle.std.proofs.lemmas.List.{length-set}
use Rattle.std.proofs.lemmas.Result.{IfOk-weaker}
use Rattle.pg_worlds.specs.Flags.{flag, has}
use Rattle.pg_worlds.specs.Worlds.{world_count, IsLoopFrom}
use Rattle.pg_worlds.proofs.Placing.{fewer_down, flags_push}
use Rattle.pg_worlds.proofs.Rounds.{IsWalk, walk_none, walk_more, walk_closes}
use Rattle.pg_worlds.proofs.graph.Graph.loop_from.Goals as goal

pub loop-met-init : goal.loop-met-init
loop-met-init c =
    let P : List ℕ → Type 0 = λ xs.
    IsWalk c.args.self.now (flag c.args.placed.now) c.args.start xs c.args.start × ((k : ℕ) → flag c.no_worlds-met.result k ≡ has xs k) × (length c.no_worlds-met.result ≡ 64) × (c.args.start < world_count c.args.self.now) × (flag c.args.placed.now c.args.start ≡ false) in
    subst P (sym c.in_ok-walk.ensures.items) (walk_none _ _ _, c.no_worlds-met.ensures.down, c.no_worlds-met.ensures.length, c.requires.start, c.requires.left)

pub bounds-met-world : goal.bounds-met-world
bounds-met-world c = omega (arith, c.count.ensures.graph.at_most, c.loop-met.invariant.2, c.loop-met.invariant.3)

pub bounds-met-world-in-loop-met : goal.bounds-met-world-in-loop-met
bounds-met-world-in-loop-met c = omega (arith, c.count.ensures.graph.at_most, c.loop-met.invariant.2, c.loop-met.invariant.3)

pub loop-met-smaller : goal.loop-met-smaller
loop-met-smaller c =
    let l : c.loop-met.world < length c.loop-met.met = omega (arith, c.count.ensures.graph.at_most, c.loop-met.invariant.2, c.loop-met.invariant.3) in
    fewer_down c.loop-met.met c.loop-met.world l c.loop-met-test.true

pub loop-met-preserved : goal.loop-met-preserved
loop-met-preserved c =
    let l : c.loop-met.world < length c.loop-met.met = omega (arith, c.count.ensures.graph.at_most, c.loop-met.invariant.2, c.loop-met.invariant.3) in
    let P : List ℕ → Type 0 = λ xs.
    IsWalk c.args.self.now (flag c.args.placed.now) c.args.start xs c.first_need_left-world.result × ((k : ℕ) → flag (set c.loop-met.met c.loop-met.world true) k ≡ has xs k) × (length (set c.loop-met.met c.loop-met.world true) ≡ 64) × (c.first_need_left-world.result < world_count c.args.self.now) × (flag c.args.placed.now c.first_need_left-world.result ≡ false) in
    let new = sym (c.loop-met.invariant.1 c.loop-met.world) ∙ c.loop-met-test.true in
    subst P (sym c.in_ok-push.ensures.items)
    (walk_more _ _ _ _ _ _ c.loop-met.invariant.0 new c.first_need_left-world.ensures.first, flags_push _ _ _ l c.loop-met.invariant.1, (length-set c.loop-met.met c.loop-met.world true ∙ c.loop-met.invariant.2), c.first_need_left-world.ensures.world, c.first_need_left-world.ensures.left)

pub returns : goal.returns
returns c =
    let e = c.deref.ensures.value in
    IfOk-weaker c.from_first.result _ (λ v. IsLoopFrom c.args.self.now (flag c.args.placed.now) c.args.start v.items)
    (λ v r.
    subst (IsLoopFrom c.args.self.now (flag c.args.placed.now) c.args.start) (sym (r.3 ∙ ap (drop r.0) e))
    (walk_closes c.args.self.now (flag c.args.placed.now) c.args.start c.loop-met.walk.items c.loop-met.world r.0 c.loop-met.invariant.0 (subst (λ (xs : List ℕ). r.0 < length xs) e r.1) (ap (λ xs. slice_index xs r.0) (sym e) ∙ r.2)))
    c.from_first.ensures
