use Rattle.pg_base.specs.Tokens.{word}
use Rattle.pg_terms.specs.View.{term as term_in}
use Rattle.pg_arith.specs.View.{declarations}
use Rattle.pg_gametext.specs.Forms.{declared_text}
use Rattle.pg_declares.proofs.Refusals.{constant_told}
use Rattle.pg_declares.proofs.constant.declare_constant.Goals as goal

pub returns-in-Err-clause-refused : goal.returns-in-Err-clause-refused
returns-in-Err-clause-refused c =
    constant_told (declarations c.args.sig.now) c.in_ok-own.own c.in_ok-own.equation (declared_text (word c.args.name.now)) (declared_text (word c.args.equation_name.now))
    (term_in c.args.body) c.in-Err.fault c.why_undeclared.result c.in_ok-own.ensures.0 c.in_ok-own.ensures.1 c.requires.fits c.in-Err.ensures.refused c.why_undeclared.ensures
