use Rattle.pg_kernel.specs.View.{proof}
use Rattle.pg_kernel.proofs.Naming.{names_in_set}
use Rattle.pg_kernel.proofs.named.uses.Goals as goal

pub returns : goal.returns
returns c = names_in_set (proof c.args.p.now) c.new-names.result c.gather.new.names c.new-names.ensures.empty c.in_ok-gather.ensures c.len.ensures.ordered
