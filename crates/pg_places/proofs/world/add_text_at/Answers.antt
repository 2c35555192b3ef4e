use Rattle.std.proofs.Common.{ap, string_bytes}
use Rattle.std.specs.Prelude.{slice_index_or}
use Rattle.pg_commands.specs.View.{which}
use Rattle.pg_places.specs.Held.{with_text}
use Rattle.pg_places.proofs.Seen.{hold, set-some, set-past}
use Rattle.pg_places.proofs.world.add_text_at.Goals as goal

pub returns-then-place-worlds : goal.returns-then-place-worlds
returns-then-place-worlds c =
    let old = slice_index_or c.args.worlds.now c.args.place c.index-worlds-place.result in
    set-some (with_text (which c.args.kind) c.args.at) c.args.worlds.now c.args.place _ c.index-worlds-place.result c.if-place-worlds.true
    (ap (hold (string_bytes old.name) old.levels) c.with-world.ensures)

pub returns-else-place-worlds : goal.returns-else-place-worlds
returns-else-place-worlds c = set-past (with_text (which c.args.kind) c.args.at) c.args.worlds.now c.args.place c.if-place-worlds.false
