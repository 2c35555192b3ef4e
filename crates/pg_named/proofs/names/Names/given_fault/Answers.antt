use Rattle.pg_named.specs.View.{given_before, bound_before}
use Rattle.pg_named.proofs.Clashes.{all_found}
use Rattle.pg_named.proofs.names.Names.given_fault.Goals as goal

pub returns : goal.returns
returns c =
    let n = c.args.names.now in
    all_found (given_before c.args.self.now) (bound_before c.args.self.now) n.first n.second n.third _ _ _ _ _ c.sooner-2.ensures.first c.sooner.ensures.first c.own_clash-first.ensures c.own_clash-second.ensures c.own_clash-third.ensures
