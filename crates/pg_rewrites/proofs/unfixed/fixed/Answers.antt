use Rattle.std.proofs.Common.{length}
use Rattle.pg_match.specs.View.{found_values}
use Rattle.pg_terms.specs.View.{formula}
use Rattle.pg_rewrites.specs.Taking.{binder_names}
use Rattle.pg_rewrites.proofs.Names.{below, unfixed-yields}
use Rattle.pg_rewrites.proofs.unfixed.fixed.Goals as goal

pub unfixed-requires : goal.unfixed-requires
unfixed-requires c =
    below (found_values c.args.found.now) c.in-Err-Undetermined.binder (binder_names (formula c.args.a.now)) (length c.args.found.now.values) c.in-Err-Undetermined.field-0 c.in-Err-Undetermined.field-0-is c.requires.names c.in-Err-Undetermined.ensures

pub returns-in-Err-Undetermined : goal.returns-in-Err-Undetermined
returns-in-Err-Undetermined c =
    unfixed-yields (found_values c.args.found.now) c.in-Err-Undetermined.binder (binder_names (formula c.args.a.now)) (length c.args.found.now.values) c.unfixed.result c.in-Err-Undetermined.field-0 c.in-Err-Undetermined.field-0-is
    c.requires.names c.in-Err-Undetermined.ensures c.unfixed.ensures
