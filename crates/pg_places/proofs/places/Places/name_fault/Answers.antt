use Rattle.std.proofs.Common.{◌≡◌, ◌∙◌, true, false, sym, ap, string_bytes, List}
use Rattle.pg_base.specs.Tokens.{word}
use Rattle.pg_logic.specs.Declarations.{Name}
use Rattle.pg_gametext.specs.Before.{is_world_name}
use Rattle.pg_places.specs.declared.world.World.{World}
use Rattle.pg_places.specs.Held.{has_world}
use Rattle.pg_places.specs.View.{there, helds}
use Rattle.pg_places.proofs.Seen.{count-seen}
use Rattle.pg_places.proofs.Told.{known_name-told, new_name-told}
use Rattle.pg_places.proofs.places.Places.name_fault.Goals as goal

pub returns-then-has_world : goal.returns-then-has_world
returns-then-has_world c =
    λ before s.
    let x = string_bytes c.in_ok-meant.meant in
    let worlds = c.args.self.now.worlds.items in
    let named : is_world_name x ≡ true = ap is_world_name (sym c.as_bytes.ensures.value) ∙ sym c.if-not-is_world_name.ensures in
    let known : has_world x (helds worlds) ≡ true =
    ap (λ (y : Name). has_world y (helds worlds)) (sym c.as_str.ensures.value)
    ∙ ap (λ (ws : List World). has_world c.as_str.result.now (helds ws)) (sym c.as_slice.ensures.value)
    ∙ sym c.if-has_world.ensures in
    known_name-told (word c.args.name.now) x (there c.args.self.now) before s c.args.at c.in_ok-meant.ensures.exact named known

pub returns : goal.returns
returns c =
    λ before s.
    let x = string_bytes c.in_ok-meant.meant in
    let worlds = c.args.self.now.worlds.items in
    let named : is_world_name x ≡ true = ap is_world_name (sym c.as_bytes.ensures.value) ∙ sym c.if-not-is_world_name.ensures in
    let unknown : has_world x (helds worlds) ≡ false =
    ap (λ (y : Name). has_world y (helds worlds)) (sym c.as_str.ensures.value)
    ∙ ap (λ (ws : List World). has_world c.as_str.result.now (helds ws)) (sym c.as_slice.ensures.value)
    ∙ sym c.if-has_world.ensures in
    c.one_more.ensures
    ∙ new_name-told (word c.args.name.now) x (there c.args.self.now) before s c.args.at c.len.result c.in_ok-meant.ensures.exact named unknown
    (count-seen worlds c.as_slice.result.now c.len.result _ c.as_slice.ensures.value c.as_slice.ensures.len c.len.ensures)
