use Rattle.std.proofs.Common.{◌+◌, ◌<◌, ℕ, Bool, List, not, inl, inr, sym, subst, length, arith}
use Rattle.std.specs.Prelude.{◌↔◌, IsTrue}
use Rattle.pg_worlds.specs.Flags.{flag}
use Rattle.pg_worlds.specs.Course.{IsOpen, world_of}
use Rattle.pg_worlds.proofs.Flagged.{flag-below}
use Rattle.pg_worlds.proofs.Waiting.{beside, flags_and_one, grow, open_at, unwon_more, unwon_none}
use Rattle.pg_worlds.proofs.course.Course.open_levels.Goals as goal

pub loop-at-init : goal.loop-at-init
loop-at-init c = (
  c.in_ok-flags.ensures.len,
  (λ k h. absurd (omega (arith, h))),
  (λ w. (
    (λ e. inl ((c.waiting_worlds-closed.ensures w).0 e)),
    (λ s. elim s [ inl waits ↦ (c.waiting_worlds-closed.ensures w).1 waits | inr none ↦ absurd (unwon_none c.args.self.now c.args.won.now w none) ]),
  )),
)

pub loop-at-preserved : goal.loop-at-preserved
loop-at-preserved c =
    let p = c.args.self.now in
    let won = c.args.won.now in
    let at : ℕ = c.loop-at.at in
    let closed = c.loop-at.closed in
    let l : at < length p.levels = omega arith in
    let here = subst (λ (w : ℕ). IsTrue (not (flag closed w)) ↔ IsOpen p won at) (sym c.world.ensures.world) (open_at p won at (flag closed (world_of p at)) l (c.loop-at.invariant.2 (world_of p at))) in (
      omega (arith, c.in_ok-push.ensures.len, c.loop-at.invariant.0),
      subst (λ (xs : List Bool). (k : ℕ) → k < at + 1 → IsTrue (flag xs k) ↔ IsOpen p won k) (sym c.in_ok-push.ensures.items)
          (flags_and_one (IsOpen p won) c.loop-at.flags.items (not (flag closed c.world.result)) at (omega (arith, c.loop-at.invariant.0)) c.loop-at.invariant.1 here),
      (λ w. grow _ _ _ _ _ (c.mark_unwon.ensures w) (c.loop-at.invariant.2 w) (beside _ _ _ _ (unwon_more p won at w))),
    )

pub returns : goal.returns
returns c = (
  omega (arith, c.loop-at.invariant.0),
  (λ k. (
    (λ e.
        let l : k < length c.loop-at.flags.items = flag-below c.loop-at.flags.items k e in
        (omega (arith, c.loop-at.invariant.0), (c.loop-at.invariant.1 k (omega (arith, c.loop-at.invariant.0))).0 e)),
    (λ r. (c.loop-at.invariant.1 k (omega (arith, r.0))).1 r.1),
  )),
)
