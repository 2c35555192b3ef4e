use Rattle.std.proofs.Common.{◌≡◌, ◌-◌, ◌<◌, ◌∙◌, ℕ, sym, ap, subst, arith, true, false, ◌||◌, length}
use Rattle.std.specs.Prelude.{IsTrue, ◌↔◌, slice_index}
use Rattle.pg_worlds.specs.Flags.{flag, has}
use Rattle.pg_worlds.specs.Worlds.{needs_of}
use Rattle.std.proofs.lemmas.List.{get_or_read}
use Rattle.pg_worlds.specs.Course.{Plan, Needs}
use Rattle.pg_worlds.proofs.Reached.{IsSpread, spread_none, spread_skip, spread_more, spread_all}
use Rattle.pg_worlds.proofs.course.Course.needed.Goals as goal

pub loop-at-init : goal.loop-at-init
loop-at-init c =
    (spread_none c.self.inside.graph c.self.inside.order.items c.args.world c.len-at.result (flag c.no_worlds-needed.result) (flag c.add_needs.new.flags) (omega arith) c.no_worlds-needed.ensures.down c.add_needs.ensures, omega (arith, c.no_worlds-needed.ensures.length), omega arith)

pub loop-at-preserved-then-has_flag : goal.loop-at-preserved-then-has_flag
loop-at-preserved-then-has_flag c =
    let g = c.self.inside.graph in
    let order = c.self.inside.order.items in
    let old = flag c.loop-at.needed in
    let at : ℕ = c.loop-at.at - 1 in
    let l : at < length order = omega (arith, c.loop-at.invariant.2) in
    let world = get_or_read order at c.index-behind.result.now l c.index-behind.ensures 0 in
    let here : old (slice_index order at) ≡ true = ap old (sym world) ∙ sym c.has_flag.ensures ∙ c.if-has_flag.true in
    let same = λ (k : ℕ). c.add_needs-then-has_flag.ensures k ∙ ap (λ w. old k || has (needs_of g w) k) world in
    (spread_more g order c.args.world at c.loop-at.at old (flag c.add_needs-then-has_flag.new.flags) (omega arith) c.self.invariant.ordered l here same c.loop-at.invariant.0, omega (arith, c.loop-at.invariant.1), omega arith)

pub loop-at-preserved : goal.loop-at-preserved
loop-at-preserved c =
    let order = c.self.inside.order.items in
    let old = flag c.loop-at.needed in
    let at : ℕ = c.loop-at.at - 1 in
    let l : at < length order = omega (arith, c.loop-at.invariant.2) in
    let world = get_or_read order at c.index-behind.result.now l c.index-behind.ensures 0 in
    let skip : old (slice_index order at) ≡ false = ap old (sym world) ∙ sym c.has_flag.ensures ∙ c.if-has_flag.false in
    (spread_skip c.self.inside.graph order c.args.world at c.loop-at.at old (omega arith) skip c.loop-at.invariant.0, c.loop-at.invariant.1, omega arith)

pub returns-clause-needed : goal.returns-clause-needed
returns-clause-needed c =
    let g = c.self.inside.graph in
    let order = c.self.inside.order.items in
    let needed = flag c.loop-at.needed in
    let end : c.loop-at.at ≡ 0 = omega arith in
    let spread = subst (λ at. IsSpread g order c.args.world at needed) end c.loop-at.invariant.0 in
    subst (λ (p : Plan). (k : ℕ) → IsTrue (needed k) ↔ Needs p.worlds c.args.world k) c.self.view_is
    (spread_all g order c.args.world needed c.self.invariant.graph c.self.invariant.ordered spread)
