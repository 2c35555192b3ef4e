use Rattle.std.proofs.Common.{Option, None, Some, Bool, subst, sym as flip, false, true}
use Rattle.pg_run.specs.declared.game.Game.{Game}
use Rattle.pg_run.specs.Game.{IsGameText, Finds, stated}
use Rattle.pg_run.specs.Level.{Decides, SampleWins}
use Rattle.pg_run.proofs.Levels.{no-game, none-spelled, some-found}
use Rattle.pg_run.proofs.level.level_in.Goals as goal

pub returns-in_default : goal.returns-in_default
returns-in_default c = λ g h. none-spelled c.in_ok-game.field-0 c.args.text.now c.in_ok-game.ensures.finds c.in_default.is g h

pub returns-then-branch : goal.returns-then-branch
returns-then-branch c =
    let game = c.in-Some.game in
    let W : Bool → Type 0 = λ won. Decides won (SampleWins (stated game)) in
    let found = some-found c.in_ok-game.field-0 game c.args.text.now c.in-Some.is c.in_ok-game.ensures.finds c.in_ok-game.ensures.stands in
    (stated game, (found.0, subst W c.if-branch.true (c.in_ok-is_won_by_sample.ensures (stated game) c.in_ok-level.ensures)), c.in_ok-level.ensures, found.1)

pub returns-else-branch : goal.returns-else-branch
returns-else-branch c =
    let game = c.in-Some.game in
    let W : Bool → Type 0 = λ won. Decides won (SampleWins (stated game)) in
    let found = some-found c.in_ok-game.field-0 game c.args.text.now c.in-Some.is c.in_ok-game.ensures.finds c.in_ok-game.ensures.stands in
    no-game c.args.text.now (stated game) found.0 (subst W c.if-branch.false (c.in_ok-is_won_by_sample.ensures (stated game) c.in_ok-level.ensures))
