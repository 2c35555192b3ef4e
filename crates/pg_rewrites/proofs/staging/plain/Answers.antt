use Rattle.std.proofs.Common.{◌≡◌, suc, sym, subst}
use Rattle.pg_rewrites.specs.declared.staging.Partial.{Partial}
use Rattle.pg_rewrites.specs.Staging.{made}
use Rattle.pg_rewrites.proofs.Making.{made-plain, if-ok, ok-of}
use Rattle.pg_rewrites.proofs.staging.plain.Goals as goal

pub returns : goal.returns
returns c =
    let p : Partial = record { stages = c.args.stages; rest = c.args.rest; used = c.args.used } in
    let by = c.args.by.now in
    if-ok _ c.unchanged.result (λ r q k. subst (λ r. made by k r ≡ made by (suc k) p) (sym (ok-of _ c.unchanged.result r q c.unchanged.ensures)) (made-plain by k p c.requires))
