use Rattle.std.proofs.Common.{◌≡◌, ◌<◌, ◌≤◌, take, length, get_or, true}
use Rattle.std.specs.Char.{is_ascii_digit}
use Rattle.pg_spelling.specs.Fresh.{stem}
use Rattle.pg_syntax.proofs.fresh.stem.Given as goal

abbrev pub invariant-loop-end : goal.invariant-loop-end
invariant-loop-end l = record {
  within : l.end ≤ length l.bytes;
  same : stem (take l.end l.bytes) ≡ stem l.bytes;
  ends : l.end < length l.bytes → is_ascii_digit (get_or l.bytes l.end 0) ≡ true;
}

abbrev pub decreases-loop-end : goal.decreases-loop-end
decreases-loop-end l = l.end
