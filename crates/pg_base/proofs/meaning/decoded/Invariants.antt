use Rattle.std.proofs.Common.{◌≡◌, ◌++◌, length, string_bytes, false}
use denote.Text.{Utf8}
use denote.Shadow.{shadow}
use Rattle.std.specs.Str.{chars, encode_utf8_all}
use Rattle.pg_base.specs.Meaning.{decoded}
use Rattle.pg_base.proofs.meaning.decoded.Given as goal

abbrev pub invariant-loop-c : goal.invariant-loop-c
invariant-loop-c l = shadow (Utf8 l.rest) × (string_bytes l.meant ++ encode_utf8_all (decoded l.passing (chars l.rest)) ≡ encode_utf8_all (decoded false (chars l.fn.text)))

abbrev pub decreases-loop-c : goal.decreases-loop-c
decreases-loop-c l = length l.rest
