use Rattle.std.proofs.Common.{◌∙◌}
use Rattle.pg_places.proofs.Named.{has-move}
use Rattle.pg_places.proofs.moves.is_move.Goals as goal

pub returns : goal.returns
returns c = c.is_some.ensures ∙ has-move c.args.text.now c.named.result c.named.ensures.word c.named.ensures.inverse
