use Rattle.std.proofs.Common.{◌+◌, ◌<◌, ℕ, List, Bool, length, sym, subst, arith}
use Rattle.std.specs.Prelude.{◌↔◌, IsTrue}
use Rattle.pg_worlds.specs.Flags.{flag}
use Rattle.pg_worlds.specs.Course.{IsBefore}
use Rattle.pg_worlds.proofs.Earlier.{earlier}
use Rattle.pg_worlds.proofs.Flagged.{flag-below}
use Rattle.pg_worlds.proofs.Least.{least_is}
use Rattle.pg_worlds.proofs.Waiting.{flags_and_one}
use Rattle.pg_worlds.proofs.course.Course.least_won.Goals as goal

pub loop-at-preserved : goal.loop-at-preserved
loop-at-preserved c =
    let p = c.args.self.now in
    let level : ℕ = c.args.level.0 in
    let at : ℕ = c.loop-at.at in (
      omega (arith, c.in_ok-push.ensures.len, c.loop-at.invariant.0),
      subst (λ (xs : List Bool). (k : ℕ) → k < at + 1 → IsTrue (flag xs k) ↔ IsBefore p level k) (sym {A = List Bool} c.in_ok-push.ensures.items)
          (flags_and_one (IsBefore p level) c.loop-at.won.items c.is_before.result at (omega (arith, c.loop-at.invariant.0)) c.loop-at.invariant.1 c.is_before.ensures),
    )

pub returns-clause-least : goal.returns-clause-least
returns-clause-least c = (
  omega (arith, c.loop-at.invariant.0),
  (λ k. (
    (λ e. let l : k < length c.loop-at.won.items = flag-below c.loop-at.won.items k e in (c.loop-at.invariant.1 k (omega (arith, c.loop-at.invariant.0))).0 e),
    (λ before. (c.loop-at.invariant.1 k (omega (arith, before.0))).1 before),
  )),
)

pub returns-clause-flags : goal.returns-clause-flags
returns-clause-flags c = least_is c.args.self.now c.needed-needed.ensures.plan c.args.level.0 c.loop-at.won.items (returns-clause-least c)

pub returns-clause-earlier : goal.returns-clause-earlier
returns-clause-earlier c = λ k e.
    let l : k < length c.loop-at.won.items = flag-below c.loop-at.won.items k e in
    earlier c.args.self.now c.needed-needed.ensures.plan c.args.level.0 k c.requires ((c.loop-at.invariant.1 k (omega (arith, c.loop-at.invariant.0))).0 e)
