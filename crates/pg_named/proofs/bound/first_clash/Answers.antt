use Rattle.std.proofs.Common.{◌∙◌, ap, sym, true, map, reverse}
use Rattle.pg_faults.specs.View.{found}
use Rattle.pg_named.specs.View.{given}
use Rattle.pg_named.specs.Found.{kept}
use Rattle.pg_named.proofs.Differ.{hit_at, miss_at}
use Rattle.pg_named.proofs.bound.first_clash.Goals as goal

pub returns-in-Some : goal.returns-in-Some
returns-in-Some c =
    hit_at (kept true (map given (reverse c.args.table.now))) c.args.tokens.now c.loop-count.count _ _ _ c.loop-count-test.true c.loop-count.invariant (sym c.clash_at.ensures ∙ ap found c.in-Some.is)

pub loop-count-preserved : goal.loop-count-preserved
loop-count-preserved c =
    miss_at (kept true (map given (reverse c.args.table.now))) c.args.tokens.now c.loop-count.count _ _ c.loop-count-test.true c.loop-count.invariant (sym c.clash_at.ensures ∙ ap found c.in-None.is)
