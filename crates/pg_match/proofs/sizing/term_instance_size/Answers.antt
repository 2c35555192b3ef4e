use Rattle.std.proofs.Common.{◌-◌, ◌^◌, arith, ap, ◌∙◌}
use Rattle.std.specs.Prelude.{min}
use Rattle.pg_terms.specs.View.{term}
use Rattle.pg_match.proofs.Counted.{term-nodes, term-height}
use Rattle.pg_match.proofs.sizing.term_instance_size.Goals as goal

pub returns-clause-nodes : goal.returns-clause-nodes
returns-clause-nodes c = λ ts s. c.term_size.ensures.nodes 0 ts (omega arith) s ∙ ap (λ n. min n (2 ^ 64 - 1)) (term-nodes ts (term c.args.pattern.now) s.tight)

pub returns-clause-height : goal.returns-clause-height
returns-clause-height c = λ ts s. c.term_size.ensures.height 0 ts (omega arith) s ∙ ap (λ n. min n (2 ^ 32 - 1)) (term-height ts (term c.args.pattern.now) s.tight)
