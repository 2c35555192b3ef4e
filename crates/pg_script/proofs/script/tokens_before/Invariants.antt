use Rattle.std.proofs.Common.{◌≡◌, ◌++◌, length}
use Rattle.pg_base.specs.Tokens.{lexed}
use Rattle.pg_base.specs.Cursor.{upcoming}
use Rattle.pg_script.specs.View.{words}
use Rattle.pg_script.proofs.script.tokens_before.Given as goal

abbrev pub invariant-loop-token : goal.invariant-loop-token
invariant-loop-token l = (words l.tokens.items ++ (upcoming l.lexer).words ≡ (lexed l.source).words)
    × ((upcoming l.lexer).fault ≡ (lexed l.source).fault)

abbrev pub decreases-loop-token : goal.decreases-loop-token
decreases-loop-token l = length (upcoming l.lexer).words
