use Rattle.std.proofs.Common.{◌∙◌, sym, ap, subst, not}
use Rattle.std.specs.Prelude.{find, IsSome}
use Rattle.std.proofs.lemmas.Bool.{not-true}
use Rattle.pg_worlds.specs.Flags.{flag, has}
use Rattle.pg_worlds.specs.Worlds.{needs_of}
use Rattle.pg_worlds.proofs.Placing.{all_false, some_need_left, find_gives}
use Rattle.pg_worlds.proofs.graph.Graph.first_need_left.Goals as goal

pub unwrap-requires : goal.unwrap-requires
unwrap-requires c =
    subst IsSome (sym (c.first_without_flag.ensures ∙ ap (find (λ v. not (flag c.args.placed.now v))) c.needs.ensures.needs))
    (some_need_left (flag c.args.placed.now) (needs_of c.args.self.now c.args.world) (all_false _ c.args.self.now c.args.world c.requires.left c.requires.stuck))

pub returns-clause-world : goal.returns-clause-world
returns-clause-world c =
    let e = sym c.first_without_flag.ensures ∙ c.unwrap.ensures in
    let r = find_gives (λ v. not (flag c.args.placed.now v)) c.needs.result.now c.unwrap.result e in
    let known = c.needs.ensures.graph in
    known.in_range c.args.world c.unwrap.result (ap (λ xs. has xs c.unwrap.result) (sym c.needs.ensures.needs) ∙ r.1)

pub returns-clause-left : goal.returns-clause-left
returns-clause-left c =
    let e = sym c.first_without_flag.ensures ∙ c.unwrap.ensures in
    not-true _ (find_gives (λ v. not (flag c.args.placed.now v)) c.needs.result.now c.unwrap.result e).0
