use Rattle.pg_named.proofs.Places.{in_both, in_first}
use Rattle.pg_named.proofs.names.Names.place_before.Goals as goal

pub returns-then-name : goal.returns-then-name
returns-then-name c =
    let n = c.args.self.now in
    in_both c.args.name.now.name.now n.given.items n.bound.items _ _ c.args.name.now.declared _ _ _ c.sooner_place.ensures c.first_place-first.ensures c.first_place.ensures c.deref.ensures.value c.deref-then-name.ensures.value c.if-name.true

pub returns-else-name : goal.returns-else-name
returns-else-name c =
    let n = c.args.self.now in
    in_first c.args.name.now.name.now n.given.items n.bound.items _ c.args.name.now.declared _ c.first_place-first.ensures c.deref.ensures.value c.if-name.false
