use Rattle.pg_arith.proofs.Adding.{is_signature-predicate}
use Rattle.pg_arith.proofs.signature.Signature.add_predicate.Goals as goal

pub invariant_of-self-2 : goal.invariant_of-self-2
invariant_of-self-2 c =
    is_signature-predicate c.self.inside.functions c.self.inside.predicates c.push.new.self c.self.inside.succ_inj c.self.inside.zero_ne_succ c.args.p _
    c.self.invariant c.self.view_is c.in_ok-push.ensures.ok c.requires.next c.requires.room c.requires.no_refusal
