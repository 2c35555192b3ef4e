use Rattle.std.proofs.lemmas.Result.{IfOk-weaker}
use Rattle.pg_terms.specs.View.{terms}
use Rattle.pg_arith.proofs.Lists.{binders_front}
use Rattle.pg_arith.proofs.axioms.binders_but_last.Goals as goal

pub returns : goal.returns
returns c = IfOk-weaker c.outer_binders.result _ _ (λ ts e. binders_front c.args.n (terms ts) e) c.outer_binders.ensures
