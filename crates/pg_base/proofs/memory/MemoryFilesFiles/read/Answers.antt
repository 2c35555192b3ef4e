use Rattle.std.proofs.Common.{inl, refl}
use Rattle.pg_base.proofs.memory.MemoryFilesFiles.read.Goals as goal

pub returns-then-fails-clause-fails : goal.returns-then-fails-clause-fails
returns-then-fails-clause-fails c = rw (c.failure.ensures.fault, ← c.self.view_is) (inl (c.if-fails.ensures.fails.0 refl))
