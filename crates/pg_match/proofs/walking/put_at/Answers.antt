use Rattle.std.proofs.Common.{sym}
use Rattle.pg_match.proofs.Lent.{put_new}
use Rattle.pg_match.proofs.walking.put_at.Goals as goal

pub returns-else-not-is_closed : goal.returns-else-not-is_closed
returns-else-not-is_closed c = put_new _ _ _ _ c.if-i-holes.false c.in-None.is (sym c.if-not-is_closed.ensures)
