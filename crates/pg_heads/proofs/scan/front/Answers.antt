use Rattle.std.proofs.Common.{sym}
use Rattle.std.proofs.lemmas.List.{take_all}
use Rattle.pg_heads.proofs.scan.front.Goals as goal

pub returns-then-bytes-le-HEAD_BYTES-clause-value : goal.returns-then-bytes-le-HEAD_BYTES-clause-value
returns-then-bytes-le-HEAD_BYTES-clause-value c = sym (take_all 16384 c.args.bytes.now c.if-bytes-le-HEAD_BYTES.true)
