use Rattle.std.proofs.Common.{sym, ◌∙◌, subst}
use Rattle.pg_base.specs.Tokens.{word}
use Rattle.pg_script.specs.View.{words}
use Rattle.pg_goal.specs.View.{goal_of, lookup_of}
use Rattle.pg_moves.specs.Acts.{split_act}
use Rattle.pg_reduction.specs.Doing.{Does}
use Rattle.pg_runs.proofs.Named.{named}
use Rattle.pg_table.proofs.table.split.Goals as goal

pub returns-in-None : goal.returns-in-None
returns-in-None c =
    subst (λ o. Does (lookup_of c.args.lookup.now) (goal_of c.args.goal.now) (split_act o (word c.args.name.now) (words c.args.names.now)) c.cased.result)
    (sym (named c.args.head.now c.named.result c.named.ensures.word c.named.ensures.inverse ∙ c.in-None.is)) c.cased.ensures
