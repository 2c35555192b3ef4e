use Rattle.std.proofs.Common.{refl, Some, None}
use Rattle.pg_paths.proofs.Whole.{kind-answered}
use Rattle.pg_paths.proofs.Texts.{text-of}
use Rattle.pg_paths.proofs.routing.kind_of.Goals as goal

pub returns-in-Ok : goal.returns-in-Ok
returns-in-Ok c =
    let found = rw c.requires at c.in-Ok.ensures.found in
    kind-answered (Some c.in-Ok.found.value.now) c.args.path.now (text-of c.args.path.now c.type_inv.path) (rw found refl)

pub returns-in-Err : goal.returns-in-Err
returns-in-Err c =
    let missing = rw c.requires at c.in-Err.ensures.missing in
    kind-answered None c.args.path.now (text-of c.args.path.now c.type_inv.path) (rw missing refl)
