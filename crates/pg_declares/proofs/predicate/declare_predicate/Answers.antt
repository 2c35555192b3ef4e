use Rattle.pg_base.specs.Tokens.{word}
use Rattle.pg_terms.specs.View.{formula as formula_in}
use Rattle.pg_arith.specs.View.{declarations}
use Rattle.pg_gametext.specs.Forms.{declared_text}
use Rattle.pg_declares.proofs.Refusals.{predicate_told}
use Rattle.pg_declares.proofs.predicate.declare_predicate.Goals as goal

pub returns-in-Err-clause-refused : goal.returns-in-Err-clause-refused
returns-in-Err-clause-refused c =
    predicate_told (declarations c.args.sig.now) c.in_ok-own.own (declared_text (word c.args.name.now)) c.args.arity
    (formula_in c.args.body) c.in-Err.fault c.why_undeclared.result c.in_ok-own.ensures c.requires.few c.requires.fits c.in-Err.ensures.refused c.why_undeclared.ensures
