use Rattle.std.proofs.Common.{◌∙◌, ◌+◌, refl, sym, ap, string_bytes}
use Rattle.pg_places.specs.Held.{IsPlaceOf}
use Rattle.pg_places.specs.View.{helds}
use Rattle.pg_places.proofs.Seen.{seen-place, with-known, place-pushed}
use Rattle.pg_places.proofs.world.place_for.Goals as goal

pub returns-in-Some-clause-worlds : goal.returns-in-Some-clause-worlds
returns-in-Some-clause-worlds c =
    let there : IsPlaceOf (string_bytes c.args.name) c.in-Some.place (helds c.args.worlds.now.items) =
    seen-place c.as_str.result.now (string_bytes c.args.name) c.as_slice.result.now c.args.worlds.now.items c.in-Some.place c.as_str.ensures.value c.as_slice.ensures.value c.in-Some.ensures in
    with-known (string_bytes c.args.name) c.in-Some.place (helds c.args.worlds.now.items) there

pub returns-clause-place : goal.returns-clause-place
returns-clause-place c =
    place-pushed c.as_str.result.now (string_bytes c.args.name) c.args.worlds.now.items c.as_slice.result.now c.push.new.self.items _ c.len.result
    c.as_str.ensures.value c.as_slice.ensures.value c.in_default.ensures c.in_ok-push.ensures.items refl
    (c.len.ensures ∙ c.in_ok-push.ensures.len ∙ ap (λ n. n + 1) (sym c.as_slice.ensures.len))
