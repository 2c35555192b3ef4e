use Rattle.std.proofs.Common.{[], length, refl, sym, Some}
use Rattle.pg_terms.specs.View.{term as term_in}
use Rattle.pg_arith.specs.View.{declarations}
use Rattle.pg_gametext.specs.Reading.{term_of_part}
use Rattle.pg_gametext.specs.Checks.{constant_size}
use Rattle.pg_faults.specs.View.{fault}
use Rattle.pg_forms.specs.View.{part}
use Rattle.pg_declares.proofs.Answered.{sized_ok, sized_fault, refused}
use Rattle.pg_declares.proofs.constant.read_constant.Goals as goal

pub returns-in-Err-clause-judges : goal.returns-in-Err-clause-judges
returns-in-Err-clause-judges c =
    let d = declarations c.args.sig.now in
    refused term_in (term_of_part [] d (part c.args.body.now)) (constant_size (length d.functions) c.args.at) c.in-Err.why refl (c.in-Err.ensures.reads [] c.new.ensures.items)

pub returns-in-Some-clause-judges : goal.returns-in-Some-clause-judges
returns-in-Some-clause-judges c =
    let d = declarations c.args.sig.now in
    sized_fault (term_of_part [] d (part c.args.body.now)) (constant_size (length d.functions) c.args.at) (term_in c.in-Ok.term) (Some (fault c.in-Some.fault))
    (c.in-Ok.ensures.reads [] c.new.ensures.items)
    (c.in-Some.ensures (length d.functions))

pub returns-clause-judges : goal.returns-clause-judges
returns-clause-judges c =
    let d = declarations c.args.sig.now in
    sized_ok (term_of_part [] d (part c.args.body.now)) (constant_size (length d.functions) c.args.at) (term_in c.in-Ok.term)
    (c.in-Ok.ensures.reads [] c.new.ensures.items)
    (sym (c.in-None.ensures (length d.functions)))
