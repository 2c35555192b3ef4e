use Rattle.std.proofs.Common.{Option, MatchOption, subst}
use Rattle.pg_run.specs.declared.level.Level.{Level}
use Rattle.pg_run.specs.Asked.{told_door, DoorFailed}
use Rattle.pg_run.specs.Game.{Stated}
use Rattle.pg_run.specs.Level.{IsGame, IsLevel, CanStand}
use Rattle.pg_run.proofs.Endings.{plays-ends}
use Rattle.pg_run.proofs.play.play_text.Goals as goal

pub returns-in-Ok-Some-clause-ends : goal.returns-in-Ok-Some-clause-ends
returns-in-Ok-Some-clause-ends g c =
    let tells = told_door g.D.Door.coming g.D.Door.finished g.D.Door.places g.D.Door.given g.D.Door.ended g.D.Door.faults in
    let P : Option Level → Type 0 =
    λ o. MatchOption o ((x : Stated) → IsGame c.args.text.now x → ⊥) (λ level. (x : Stated) × IsGame c.args.text.now x × IsLevel x level × CanStand x) in
    let found = subst P c.in-Ok-Some.field-0-is c.in-Ok-Some.ensures in
    plays-ends c.args.text.now (g.D.Door.coming c.args.door.now) (DoorFailed (tells c.args.door.now) (tells c.play_level.new.door)) c.play_level.result found.0 found.1
    (c.play_level.ensures.plays found.0 found.2)
