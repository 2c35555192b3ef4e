use Rattle.std.proofs.Common.{◌≡◌, codes}
use Rattle.pg_moves.specs.Runs.{Closed}
use Rattle.pg_run.specs.Level.{played, Decides, SampleWins}
use Rattle.pg_run.proofs.Games.{ok-map}
use Rattle.pg_run.proofs.Levels.{sample-decides}
use Rattle.pg_run.proofs.level.Level.is_won_by_sample.Goals as goal

pub returns-in-Rfl : goal.returns-in-Rfl
returns-in-Rfl c = λ g is. ok-map c.is_won_by.result (λ won. Decides won (played g (codes "rfl") ≡ Closed)) (λ won. Decides won (SampleWins g))
    (λ won h. sample-decides g c.args.self.now won is c.in-Rfl.is h) (c.is_won_by.ensures g is)
