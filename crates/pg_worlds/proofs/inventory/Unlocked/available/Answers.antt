use Rattle.std.proofs.Common.{◌≡◌, ◌∙◌, List, Bool}
use Rattle.std.proofs.lemmas.Result.{IfOk-weaker}
use Rattle.pg_worlds.specs.Inventory.{available, inventory, unlocked, within}
use Rattle.pg_worlds.proofs.inventory.Unlocked.available.Goals as goal

pub returns-clause-won : goal.returns-clause-won
returns-clause-won c =
    let p = c.args.course.now in
    IfOk-weaker c.within.result _ (λ a. (won : List Bool) → inventory c.args.self.now ≡ unlocked p won → inventory a ≡ available p won c.args.level.0)
    (λ a here won e. here ∙ (λ i. within (c.items.ensures i) (e i)))
    c.within.ensures
