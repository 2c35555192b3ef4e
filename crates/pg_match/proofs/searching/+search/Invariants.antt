use Rattle.std.proofs.Common.{◌≡◌, drop}
use Rattle.pg_terms.specs.View.{term, args}
use Rattle.pg_moves.specs.Instances.{term_instance, subterms_in, first_found}
use Rattle.pg_match.proofs.searching.+search.Given as goal

abbrev pub invariant-in_terms-loop-t : goal.invariant-in_terms-loop-t
invariant-in_terms-loop-t l =
    first_found (term_instance (term l.pattern) l.holes) (subterms_in (args (drop l.t-index l.ts))) ≡ first_found (term_instance (term l.pattern) l.holes) (subterms_in (args l.ts))
