-- What is lent, as plain data.
use Rattle.std.specs.Borrow.{Bor}
use Rattle.pg_base.specs.Tokens.{Word, word}
use Rattle.pg_base.specs.declared.token.Token.{Token}
use Rattle.pg_script.specs.Data.{Expression}
use Rattle.pg_script.specs.View.{expression}
use Rattle.pg_script.specs.declared.item.Expr.{Expr}

-- a token
abbrev pub lent_word : Bor Token → Word
lent_word t = word t.now

-- an expression
abbrev pub lent_expression : Bor Expr → Expression
lent_expression e = expression e.now
