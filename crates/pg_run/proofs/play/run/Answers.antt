use Rattle.std.proofs.Common.{◌∙◌, ℕ, List, inl, subst}
use Rattle.pg_base.specs.Outside.{Rose}
use Rattle.pg_run.specs.Asked.{told_door, DoorFailed}
use Rattle.pg_run.specs.Ending.{text_of, status_of}
use Rattle.pg_run.specs.Print.{Printed}
use Rattle.pg_run.proofs.Winning.{won-only, won-where}
use Rattle.pg_run.proofs.play.run.Goals as goal

pub returns-in-Ok-clause-won_only : goal.returns-in-Ok-clause-won_only
returns-in-Ok-clause-won_only g c =
    let tells = told_door g.D.Door.coming g.D.Door.finished g.D.Door.places g.D.Door.given g.D.Door.ended g.D.Door.faults in
    let out_failed : Type 0 = Rose (g.O.Sink.write_faults c.args.out.now) (g.O.Sink.write_faults c.print.new.out) in
    let P : List ℕ → Type 0 = λ t. Printed t c.status_of.result c.print.result (g.O.Sink.written c.args.out.now) (g.O.Sink.written c.print.new.out) out_failed in
    let Q : ℕ → Type 0 = λ s. Printed (text_of c.play-ending.result) s c.print.result (g.O.Sink.written c.args.out.now) (g.O.Sink.written c.print.new.out) out_failed in
    let printed = subst Q c.status_of.ensures (subst P (c.as_bytes.ensures.value ∙ c.in-Ok.ensures) c.print.ensures) in
    won-only c.args.words.now (g.F.Files.files c.args.files.now) (g.D.Door.coming c.args.door.now)
    (Rose (g.F.Files.faults c.args.files.now) (g.F.Files.faults c.play-ending.new.files))
    (DoorFailed (tells c.args.door.now) (tells c.play-ending.new.door))
    c.play-ending.result c.print.result (g.O.Sink.written c.args.out.now) (g.O.Sink.written c.print.new.out) out_failed
    c.play-ending.ensures.ends (inl printed)

pub returns-in-Ok-clause-won_where : goal.returns-in-Ok-clause-won_where
returns-in-Ok-clause-won_where g c =
    let tells = told_door g.D.Door.coming g.D.Door.finished g.D.Door.places g.D.Door.given g.D.Door.ended g.D.Door.faults in
    let out_failed : Type 0 = Rose (g.O.Sink.write_faults c.args.out.now) (g.O.Sink.write_faults c.print.new.out) in
    let P : List ℕ → Type 0 = λ t. Printed t c.status_of.result c.print.result (g.O.Sink.written c.args.out.now) (g.O.Sink.written c.print.new.out) out_failed in
    let Q : ℕ → Type 0 = λ s. Printed (text_of c.play-ending.result) s c.print.result (g.O.Sink.written c.args.out.now) (g.O.Sink.written c.print.new.out) out_failed in
    let printed = subst Q c.status_of.ensures (subst P (c.as_bytes.ensures.value ∙ c.in-Ok.ensures) c.print.ensures) in
    won-where c.args.words.now (g.F.Files.files c.args.files.now) (g.D.Door.coming c.args.door.now)
    (Rose (g.F.Files.faults c.args.files.now) (g.F.Files.faults c.play-ending.new.files))
    (DoorFailed (tells c.args.door.now) (tells c.play-ending.new.door))
    c.play-ending.result c.print.result (g.O.Sink.written c.args.out.now) (g.O.Sink.written c.print.new.out) out_failed
    c.play-ending.ensures.ends (inl printed)
