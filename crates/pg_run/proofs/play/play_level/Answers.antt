use Rattle.std.proofs.Common.{inr}
use Rattle.pg_run.specs.Asked.{told_door}
use Rattle.pg_run.proofs.Endings.{reads-starts}
use Rattle.pg_run.proofs.play.play_level.Goals as goal

pub returns-in-Ok-clause-uses : goal.returns-in-Ok-clause-uses
returns-in-Ok-clause-uses g c =
    let tells = told_door g.D.Door.coming g.D.Door.finished g.D.Door.places g.D.Door.given g.D.Door.ended g.D.Door.faults in
    inr (reads-starts (tells c.args.door.now) (tells c.script_at.new.door) c.in-Ok.ensures.uses)
