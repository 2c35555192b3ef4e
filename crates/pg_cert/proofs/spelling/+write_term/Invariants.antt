use denote.Shadow.{shadow}
use denote.Text.{Utf8}
use Rattle.std.proofs.Common.{◌≡◌, [], ◌++◌, drop, string_bytes}
use Rattle.pg_terms.specs.View.{args}
use Rattle.pg_cert.specs.Spelling.{terms_text}
use Rattle.pg_cert.proofs.spelling.+write_term.Given as goal

abbrev pub invariant-write_terms-loop-t : goal.invariant-write_terms-loop-t
invariant-write_terms-loop-t l =
    (string_bytes l.out ++ terms_text l.comma (args (drop l.t-index l.ts)) ≡ string_bytes l.initial.out ++ terms_text [] (args l.ts))
    × shadow (Utf8 l.comma)
