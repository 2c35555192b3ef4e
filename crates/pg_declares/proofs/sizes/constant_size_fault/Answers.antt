use Rattle.std.proofs.Common.{arith}
use Rattle.pg_terms.specs.View.{term as term_in}
use Rattle.pg_declares.proofs.Heights.{term-low}
use Rattle.pg_declares.proofs.sizes.constant_size_fault.Goals as goal

pub overflow_add-height : goal.overflow_add-height
overflow_add-height c = omega (arith, c.requires, c.height.ensures, term-low (term_in c.args.t.now))
