use Rattle.std.proofs.Common.{◌≡◌, ◌++◌, drop, flat_map, string_bytes}
use Rattle.pg_cert.specs.Certificates.{premise_text}
use Rattle.pg_cert.proofs.tasks.write_premises.Given as goal

abbrev pub invariant-loop-m : goal.invariant-loop-m
invariant-loop-m l = string_bytes l.out ++ flat_map premise_text (drop l.m-index l.numbers) ≡ string_bytes l.initial.out ++ flat_map premise_text l.numbers
