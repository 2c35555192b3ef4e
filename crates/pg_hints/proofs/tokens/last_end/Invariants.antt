use Rattle.std.proofs.Common.{◌≡◌, drop}
use Rattle.pg_base.specs.Spans.{AreInOrder}
use Rattle.pg_script.specs.Scripts.{last_end}
use Rattle.pg_script.specs.View.{words}
use Rattle.pg_hints.proofs.tokens.last_end.Given as goal

abbrev pub invariant-loop-token : goal.invariant-loop-token
invariant-loop-token l =
    (last_end l.reached (words (drop l.token-index l.tokens)) ≡ last_end l.from (words l.tokens))
    × AreInOrder l.reached l.end (words (drop l.token-index l.tokens))
