-- Where the tokens of a command stand one behind the other, its parameters and its binders do.
use Rattle.std.specs.Prelude.{ℕ, List}
use Rattle.pg_base.specs.Tokens.{Word}
use Rattle.pg_base.specs.Spans.{AreTokens}
use Rattle.pg_gametext.specs.Before.{all_binder_words}
use Rattle.pg_gametext.specs.Forms.{function_told, predicate_told, statement_told}
use Rattle.pg_named.specs.Bound.{Rises}

abbrev pub TokensRise : Type 0
TokensRise = (end : ℕ) (ws : List Word) → AreTokens end ws → Rises ws

abbrev pub FunctionRises : Type 0
FunctionRises = (end : ℕ) (ws : List Word) → Rises ws → Rises (function_told end ws).value.params

abbrev pub PredicateRises : Type 0
PredicateRises = (end : ℕ) (ws : List Word) → Rises ws → Rises (predicate_told end ws).value.params

abbrev pub StatementRises : Type 0
StatementRises = (end : ℕ) (ws : List Word) → Rises ws → Rises (all_binder_words (statement_told end ws).value.binders)
