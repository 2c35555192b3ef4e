use Rattle.std.proofs.Common.{List, ℕ, subst, sym as flip}
use Rattle.pg_base.specs.Outside.{GivesFile, Rose}
use Rattle.pg_run.specs.Asked.{told_door, DoorFailed}
use Rattle.pg_run.proofs.Endings.{asks-text, ends-text}
use Rattle.pg_run.proofs.play.play.Goals as goal

pub returns-clause-ends : goal.returns-clause-ends
returns-clause-ends g c =
    let tells = told_door g.D.Door.coming g.D.Door.finished g.D.Door.places g.D.Door.given g.D.Door.ended g.D.Door.faults in
    let P : List ℕ → Type 0 = λ t. GivesFile (g.F.Files.files c.args.files.now) c.in-Some.name.now 1048576 t in
    ends-text c.args.words.now (g.F.Files.files c.args.files.now) (g.D.Door.coming c.args.door.now) (Rose (g.F.Files.faults c.args.files.now) (g.F.Files.faults c.read.new.self))
    (DoorFailed (tells c.args.door.now) (tells c.play_text.new.door))
    c.play_text.result c.in-Some.name.now c.deref.result.now c.in-Some.ensures (subst P (flip c.deref.ensures.value) c.in-Ok.ensures.text) c.play_text.ensures.ends

pub returns-clause-asks : goal.returns-clause-asks
returns-clause-asks g c =
    let tells = told_door g.D.Door.coming g.D.Door.finished g.D.Door.places g.D.Door.given g.D.Door.ended g.D.Door.faults in
    asks-text c.args.words.now (g.D.Door.coming c.args.door.now) (DoorFailed (tells c.args.door.now) (tells c.play_text.new.door))
    (g.F.Files.asked c.args.files.now) (g.F.Files.asked c.read.new.self) (tells c.args.door.now) (tells c.play_text.new.door)
    c.play_text.result c.in-Some.name.now c.deref.result.now c.in-Some.ensures c.in-Ok.ensures.asked c.play_text.ensures.ends c.play_text.ensures.uses
