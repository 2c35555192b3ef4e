use Rattle.std.proofs.Common.{◌∙◌, ap, sym as flip, Some}
use Rattle.pg_logic.specs.Axioms.{axioms}
use Rattle.pg_arith.specs.View.{declarations}
use Rattle.pg_run.proofs.Levels.{named-more}
use Rattle.pg_run.proofs.level.axiom_names.Goals as goal

pub loop-id-preserved : goal.loop-id-preserved
loop-id-preserved c =
    named-more (axioms (declarations c.args.sig.now)) c.loop-id.id c.loop-id.names.items c.push.new.self.items c.in_ok-copied.field-0
    c.in_ok-push.ensures.items c.loop-id.invariant (c.axiom_name.ensures ∙ ap Some (flip c.in_ok-copied.ensures))
