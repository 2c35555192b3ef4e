use Rattle.std.proofs.Common.{◌∙◌, sym, Ok, Err}
use Rattle.pg_hints.proofs.Words.{turn, tokens_at, room_at}
use Rattle.pg_hints.proofs.block.words_left.Goals as goal

pub left_at_word-requires-clause-tokens : goal.left_at_word-requires-clause-tokens
left_at_word-requires-clause-tokens c =
    tokens_at c.args.block.end c.args.block.tokens.now c.split_at.result.0.now c.loop-count.count _ c.loop-count-test.true c.split_at.ensures.front c.requires.tokens

pub left_at_word-requires-clause-fits : goal.left_at_word-requires-clause-fits
left_at_word-requires-clause-fits c =
    room_at c.args.block.end c.args.block.tokens.now c.loop-count.count _ c.loop-count-test.true c.requires.tokens c.requires.fits

pub returns-in-Err : goal.returns-in-Err
returns-in-Err c =
    turn c.args.block.tokens.now c.split_at.result.0.now c.loop-count.count c.loop-count.left _ (Err c.in-Err.at) _ c.loop-count-test.true c.loop-count.invariant c.split_at.ensures.front
    (sym c.in-Err.is ∙ c.in_ok-less.ensures)

pub loop-count-preserved : goal.loop-count-preserved
loop-count-preserved c =
    turn c.args.block.tokens.now c.split_at.result.0.now c.loop-count.count c.loop-count.left _ (Ok c.in-Ok.less) _ c.loop-count-test.true c.loop-count.invariant c.split_at.ensures.front
    (sym c.in-Ok.is ∙ c.in_ok-less.ensures)
