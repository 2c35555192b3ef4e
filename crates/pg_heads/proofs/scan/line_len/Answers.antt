use Rattle.std.proofs.Common.{◌∙◌}
use Rattle.pg_heads.proofs.Lines.{line-none, line-some}
use Rattle.pg_heads.proofs.scan.line_len.Goals as goal

pub returns-in_err-at-clause-value : goal.returns-in_err-at-clause-value
returns-in_err-at-clause-value c = c.from_residual.ensures ∙ line-none c.args.bytes.now c.memchr.result c.memchr.ensures c.in_err-at.was

pub returns-clause-value : goal.returns-clause-value
returns-clause-value c = line-some c.args.bytes.now c.memchr.result c.in_ok-at.at c.memchr.ensures c.in_ok-at.was
