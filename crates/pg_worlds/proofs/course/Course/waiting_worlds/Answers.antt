use Rattle.std.proofs.Common.{◌≡◌, ◌∙◌, ◌+◌, ◌<◌, ◌||◌, ℕ, Bool, List, true, sym, ap, subst, length, set, arith}
use Rattle.std.specs.Prelude.{slice_index}
use Rattle.std.specs.List.{list_any}
use Rattle.std.proofs.lemmas.Bool.{or_left, or_right}
use Rattle.std.proofs.lemmas.List.{get_or_read, length-set}
use Rattle.pg_worlds.specs.Flags.{flag}
use Rattle.pg_worlds.specs.Worlds.{needs_of, world_count}
use Rattle.pg_worlds.specs.Course.{Plan, Needs}
use Rattle.pg_worlds.proofs.Waiting.{IsSeen, seen_none, seen_skip, seen_more, seen_all}
use Rattle.pg_worlds.proofs.course.Course.waiting_worlds.Goals as goal
use Rattle.pg_worlds.proofs.course.Course.waiting_worlds.Goals.{then-has_any_flag, then-has_any_flag-via-then-has_any_flag, then-has_any_flag-via-else-has_any_flag+then-has_any_flag-2, else-has_any_flag+else-has_any_flag-2}

pub loop-at-init : goal.loop-at-init
loop-at-init c =
    (seen_none c.self.inside.graph c.self.inside.order.items (flag c.unwon_worlds-unwon.result) (flag c.no_worlds-waiting.result) c.no_worlds-waiting.ensures.down, c.no_worlds-waiting.ensures.length)

pub bounds-waiting-world : goal.bounds-waiting-world
bounds-waiting-world c =
    let order = c.self.inside.order.items in
    let l : c.loop-at.at < length order = omega arith in
    let world = get_or_read order c.loop-at.at c.index-world.result.now l c.index-world.ensures 0 in
    let below : slice_index order c.loop-at.at < world_count c.self.inside.graph = (c.self.invariant.ordered.first_each_time c.loop-at.at l).0 in
    omega (arith, world, c.self.invariant.graph.at_most)

pub loop-at-preserved : goal.loop-at-preserved
loop-at-preserved c =
    let g = c.self.inside.graph in
    let order = c.self.inside.order.items in
    let unwon : ℕ → Bool = flag c.unwon_worlds-unwon.result in
    let old = c.loop-at.waiting in
    let at : ℕ = c.loop-at.at in
    let w : ℕ = c.index-world.result.now in
    let l : at < length order = omega arith in
    let world : w ≡ slice_index order at = get_or_read order at w l c.index-world.ensures 0 in
    let below : slice_index order at < world_count g = (c.self.invariant.ordered.first_each_time at l).0 in
    let room : w < length old = omega (arith, world, c.self.invariant.graph.at_most, c.loop-at.invariant.1) in
    let P : List Bool → Type 0 = λ flags. IsSeen g order unwon (at + 1) (flag flags) × (length flags ≡ 64) in
    let needs = c.needs-needs.ensures.needs in
    let more : (list_any unwon (needs_of g w) || list_any (flag old) (needs_of g w)) ≡ true → P (set old w true) =
    λ hit. (seen_more g order unwon old at w c.self.invariant.ordered l room world hit c.loop-at.invariant.0, length-set old w true ∙ c.loop-at.invariant.1) in
    elim c.if-has_any_flag.branch [
      | then-has_any_flag v ↦
          subst P (sym v.waiting-is)
          (more (elim v.then-has_any_flag.branch [
            | then-has_any_flag-via-then-has_any_flag u ↦ or_left (list_any unwon (needs_of g w)) _ (ap (list_any unwon) (sym needs) ∙ sym u.if-has_any_flag.ensures)
            | then-has_any_flag-via-else-has_any_flag+then-has_any_flag-2 u ↦ or_right _ (list_any (flag old) (needs_of g w)) (ap (list_any (flag old)) (sym needs) ∙ sym u.if-has_any_flag-2.ensures)
          ]))
      | else-has_any_flag+else-has_any_flag-2 v ↦
          subst P (sym v.waiting-is)
          (seen_skip g order unwon (flag old) at w world (ap (list_any unwon) (sym needs) ∙ sym v.if-has_any_flag.ensures) (ap (list_any (flag old)) (sym needs) ∙ sym v.if-has_any_flag-2.ensures) c.loop-at.invariant.0, c.loop-at.invariant.1)
    ]

pub returns : goal.returns
returns c =
    let g = c.self.inside.graph in
    let order = c.self.inside.order.items in
    let unwon : ℕ → Bool = flag c.unwon_worlds-unwon.result in
    let waiting : ℕ → Bool = flag c.loop-at.waiting in
    let end : c.loop-at.at ≡ length order = omega arith in
    let seen = subst (λ (n : ℕ). IsSeen g order unwon n waiting) end c.loop-at.invariant.0 in
    λ w.
    let all = seen_all g order unwon waiting c.self.invariant.graph c.self.invariant.ordered seen w in (
      (λ e. let r = all.0 e in (r.0, subst (λ (q : Plan). Needs q.worlds w r.0) c.self.view_is r.1, (c.unwon_worlds-unwon.ensures r.0).0 r.2)),
      (λ r. all.1 (r.0, subst (λ (q : Plan). Needs q.worlds w r.0) (sym c.self.view_is) r.1, (c.unwon_worlds-unwon.ensures r.0).1 r.2)),
    )
