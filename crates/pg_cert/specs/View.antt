-- What the Rust types stand for.
use Rattle.std.specs.Prelude.{string_bytes}
use Rattle.pg_kernel.specs.View.{proof}
use Rattle.pg_cert.specs.Open as nodes
use Rattle.pg_cert.specs.declared.tasks.Lines.{Lines}
use Rattle.pg_cert.specs.declared.tasks.Task.{Task}
use Rattle.pg_cert.specs.declared.tasks.Task.TheVariants.{Whole, Last}

abbrev pub task : Task → nodes.Task
task (Whole p) = nodes.whole (proof p.now)
task (Last p) = nodes.last (proof p.now)

abbrev pub lines : Lines → nodes.Lines
lines l = record { text = string_bytes l.text; unused = l.unused.items; next = l.next }
