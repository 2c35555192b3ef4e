use Rattle.std.proofs.Common.{◌≡◌, ◌<◌, true, length, arith, sym, ◌∙◌, ap, string_bytes}
use Rattle.std.specs.Prelude.{slice_index_or}
use Rattle.std.specs.Str.{bytes_eq}
use Rattle.pg_places.specs.declared.world.World.{World}
use Rattle.pg_places.proofs.Seen.{is_called, place-at, none-called}
use Rattle.pg_places.proofs.world.place_of.Goals as goal

pub returns-then-eq : goal.returns-then-eq
returns-then-eq c =
    let x = c.args.name.now in
    let worlds = c.args.worlds.now in
    let i = c.loop-place.place in
    let d = c.index-worlds-place.result in
    let within : i < length worlds = omega arith in
    let called : is_called x (slice_index_or worlds i d) ≡ true =
    sym (c.if-eq.ensures ∙ ap (bytes_eq x) (c.as_str.ensures.value ∙ ap (λ (w : World). string_bytes w.name) c.index-worlds-place.is)) in
    place-at x worlds i d within c.loop-place.invariant called

pub returns : goal.returns
returns c = none-called c.args.name.now c.args.worlds.now (λ k e less. c.loop-place.invariant k e (omega arith))
