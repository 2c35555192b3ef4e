use Rattle.std.proofs.Common.{subst}
use Rattle.std.specs.Prelude.{option_map}
use Rattle.pg_script.specs.View.{part}
use Rattle.pg_acts.specs.Giving.{lent}
use Rattle.pg_runs.specs.Written.{HasTexts, Maybe}
use Rattle.pg_table.proofs.Small.{texts, if_texts}
use Rattle.pg_table.proofs.table.had.Goals as goal

pub have-requires-clause-formula : goal.have-requires-clause-formula
have-requires-clause-formula c = if_texts c.args.formula c.requires.formula

pub assert-requires-clause-texts : goal.assert-requires-clause-texts
assert-requires-clause-texts c = texts (part c.in-Some-formula.formula.now) (subst (λ o. Maybe HasTexts (option_map lent o)) c.in-Some-formula.is c.requires.formula)
