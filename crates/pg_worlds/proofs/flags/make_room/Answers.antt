use Rattle.std.proofs.Common.{ap, ◌∙◌, arith}
use Rattle.std.specs.List.{list_any}
use Rattle.std.proofs.lemmas.List.{take_all}
use Rattle.std.specs.Prelude.{◌==◌}
use Rattle.pg_worlds.proofs.flags.make_room.Goals as goal

pub returns-clause-room : goal.returns-clause-room
returns-clause-room g c = λ k e. c.loop-name.invariant.1 k (ap (list_any (λ x. g.T.Numbered.number_of x == k)) (take_all c.loop-name.name-index c.args.names.now (omega arith)) ∙ e)
