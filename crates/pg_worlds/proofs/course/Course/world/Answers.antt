use Rattle.std.proofs.Common.{◌∙◌, ◌<◌, sym, ap, subst, length, arith}
use Rattle.std.proofs.lemmas.List.{get_or-map, length-map}
use Rattle.pg_worlds.specs.declared.course.LevelItems.{LevelItems}
use Rattle.pg_worlds.specs.Course.{Level, Plan, IsPlan, no_level, world_of}
use Rattle.pg_worlds.specs.View.{level_of}
use Rattle.pg_worlds.proofs.Earlier.{world_below}
use Rattle.pg_worlds.proofs.course.Course.world.Goals as goal

pub returns-clause-world : goal.returns-clause-world
returns-clause-world c =
    let items = c.self.inside.items.items in
    let l : c.args.at < length items = omega (arith, length-map items level_of, ap (λ (p : Plan). length p.levels) c.self.view_is) in
    ap (λ (i : LevelItems). i.world) c.index.ensures
    ∙ sym (ap (λ (v : Level). v.world) (get_or-map level_of items c.args.at c.index.result.now no_level l))
    ∙ ap (λ (p : Plan). world_of p c.args.at) c.self.view_is

pub returns-clause-below : goal.returns-clause-below
returns-clause-below c = omega (arith, returns-clause-world c, world_below c.args.self.now (subst IsPlan c.self.view_is c.self.invariant) c.args.at c.requires)
