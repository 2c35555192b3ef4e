use Rattle.std.proofs.Common.{◌≡◌, ◌<◌, ◌+◌, ◌-◌, true, map, length, get_or, arith, rules}
use Rattle.std.specs.Result.{is_ok}
use Rattle.std.specs.Str.{bytes_eq}
use Rattle.pg_keep.specs.Rows.{entry_of, place_of}
use Rattle.pg_keep.proofs.Places.{placed-own}
use Rattle.pg_keep.proofs.memory.rows_of_player.Goals as goal

pub loop-left-preserved-in_ok-insert : goal.loop-left-preserved-in_ok-insert
loop-left-preserved-in_ok-insert c =
    let good : is_ok c.insert.result ≡ true = search rules in
    let items = rw good at c.insert.ensures.items in
    let own : bytes_eq (entry_of c.index-rows-left.result).player c.args.player.now ≡ true = search rules in
    let where-is : c.place_for-place.result ≡ place_of c.index-rows-left.result.no (map entry_of c.loop-left.found.items) = search rules in
    let same : entry_of c.in_ok-copied.field-0 ≡ entry_of c.index-rows-left.result = search rules in
    let next : c.loop-left.left ≡ c.loop-left.left - 1 + 1 = omega arith in
    let lt : c.loop-left.left - 1 < length c.args.rows.now = omega arith in
    let at : get_or c.args.rows.now (c.loop-left.left - 1) c.index-rows-left.result ≡ c.index-rows-left.result = search rules in (
      omega arith,
      placed-own c.args.player.now c.args.rows.now c.loop-left.found.items c.insert.new.self.items (c.loop-left.left - 1) c.loop-left.left
          c.place_for-place.result c.index-rows-left.result c.in_ok-copied.field-0 c.index-rows-left.result c.loop-left.invariant.1 next lt at own where-is same items,
    )
