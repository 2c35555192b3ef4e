use Rattle.std.proofs.Common.{◌≡◌, take, drop, []}
use Rattle.pg_script.specs.View.{words}
use Rattle.pg_gametext.specs.Checks.{hint_words}
use Rattle.pg_hints.specs.Counts.{left_of}
use Rattle.pg_hints.proofs.block.words_left.Given as goal

abbrev pub invariant-loop-count : goal.invariant-loop-count
invariant-loop-count l =
    left_of l.left (hint_words (words (take l.count l.block.tokens.now)) (words (drop l.count l.block.tokens.now))) ≡ left_of l.room (hint_words [] (words l.block.tokens.now))
