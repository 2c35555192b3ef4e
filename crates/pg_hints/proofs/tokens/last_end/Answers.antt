use Rattle.std.proofs.Common.{arith}
use Rattle.std.proofs.Math.Seq.{drop-cons}
use Rattle.pg_hints.proofs.Ends.{bound_at}
use Rattle.pg_hints.proofs.tokens.last_end.Goals as goal

pub token_end-reached-requires : goal.token_end-reached-requires
token_end-reached-requires c =
    bound_at c.loop-token.reached c.args.end c.loop-token.token-index c.args.tokens.now _ _ (drop-cons c.args.tokens.now c.loop-token.token-index _ c.loop-token-test.true) c.loop-token.invariant.1 (omega (arith, c.ranges.end.fits))
