use Rattle.pg_named.proofs.Rising.{tokens_rise, function_rises, predicate_rises, statement_rises}
use Rattle.pg_named.proofs.laws.rising_law.Goals as goal

pub returns-clause-tokens : goal.returns-clause-tokens
returns-clause-tokens c = tokens_rise

pub returns-clause-function : goal.returns-clause-function
returns-clause-function c = function_rises

pub returns-clause-predicate : goal.returns-clause-predicate
returns-clause-predicate c = predicate_rises

pub returns-clause-statement : goal.returns-clause-statement
returns-clause-statement c = statement_rises
