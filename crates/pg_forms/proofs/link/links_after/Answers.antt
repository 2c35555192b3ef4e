use Rattle.std.proofs.Common.{◌∙◌, ap, sym, refl}
use Rattle.pg_base.specs.Tokens.{word}
use Rattle.pg_script.specs.View.{words}
use Rattle.pg_forms.specs.Taken.{first_taken}
use Rattle.pg_forms.proofs.Chains.{links_turn}
use Rattle.pg_forms.proofs.link.links_after.Goals as goal

pub loop-before-preserved : goal.loop-before-preserved
loop-before-preserved c =
    links_turn c.loop-before.some c.args.end (word c.loop-before.before) (words c.loop-before.left.tokens.now) c.in-Ok.after c.in-Ok.rest
    c.loop-before.value.items c.push.new.self.items _ _ c.loop-before.invariant
    (sym c.is_last.ensures ∙ c.loop-before-test.true) (c.next_world.ensures.taken ∙ ap first_taken c.in-Ok.is) c.in_ok-push-in-Ok.ensures.items refl
