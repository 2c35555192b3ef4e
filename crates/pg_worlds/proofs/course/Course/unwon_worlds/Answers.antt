use Rattle.std.proofs.Common.{◌≡◌, ◌∙◌, ℕ, sym, subst, length, arith}
use Rattle.std.specs.Prelude.{◌↔◌, IsTrue}
use Rattle.std.proofs.lemmas.Bool.{false≢true}
use Rattle.pg_worlds.specs.Flags.{flag}
use Rattle.pg_worlds.specs.Course.{HasUnwon}
use Rattle.pg_worlds.proofs.Waiting.{grow, unwon_more, unwon_none}
use Rattle.pg_worlds.proofs.course.Course.unwon_worlds.Goals as goal

pub loop-at-init : goal.loop-at-init
loop-at-init c = λ w. ((λ e. absurd (false≢true (sym (c.no_worlds-unwon.ensures.down w) ∙ e))), (λ r. absurd (unwon_none c.args.self.now c.args.won.now w r)))

pub loop-at-preserved : goal.loop-at-preserved
loop-at-preserved c = λ w. grow _ _ _ _ _ (c.mark_unwon.ensures w) (c.loop-at.invariant w) (unwon_more c.args.self.now c.args.won.now c.loop-at.at w)

pub returns : goal.returns
returns c =
    let end : c.loop-at.at ≡ length c.args.self.now.levels = omega arith in
    subst (λ (n : ℕ). (w : ℕ) → IsTrue (flag c.loop-at.unwon w) ↔ HasUnwon c.args.self.now c.args.won.now n w) end c.loop-at.invariant
