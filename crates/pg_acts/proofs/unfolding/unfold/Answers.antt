use Rattle.std.proofs.Common.{◌≡◌, ◌+◌, ◌-◌, [], ◌∷◌, ◌++◌, map, Some, arith, ap, sym, ◌∙◌}
use Rattle.std.specs.Prelude.{option_map}
use Rattle.std.proofs.lemmas.List.{map-append}
use Rattle.pg_logic.specs.Kernel.{unfolded}
use Rattle.pg_moves.specs.Frames.{way}
use Rattle.pg_terms.specs.View.{formula}
use Rattle.pg_arith.specs.View.{signature}
use Rattle.pg_acts.proofs.Unfolds.{within-step, way-on}
use Rattle.pg_acts.proofs.unfolding.unfold.Goals as goal

pub loop-left-preserved : goal.loop-left-preserved
loop-left-preserved c =
    let s = signature c.args.sig.now in
    let left = c.loop-left.left in
    let a = formula c.loop-left.form in
    let b = formula c.in-Some.next in
    let q : left ≡ (left - 1) + 1 = omega (arith, c.loop-left-test.true) in
    let e : Some b ≡ unfolded s a = sym (ap (option_map formula) c.in-Some.is) ∙ c.in_ok-body.ensures ∙ ap (λ a. unfolded s (formula a)) c.get.ensures in
    record {
      form = sym (within-step s left (left - 1) a b q e) ∙ c.loop-left.invariant.form;
      way =
          ap (λ w. map formula w ++ way (left - 1) s b) c.in_ok-push-in-Some.ensures.ok
          ∙ ap (λ l. l ++ way (left - 1) s b) (map-append formula c.loop-left.way (c.loop-left.form ∷ []))
          ∙ way-on s left (left - 1) a b (map formula c.loop-left.way) _ q e c.loop-left.invariant.way;
    }
