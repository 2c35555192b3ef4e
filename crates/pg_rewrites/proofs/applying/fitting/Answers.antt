use Rattle.std.proofs.Common.{[], refl}
use Rattle.pg_terms.specs.View.{formula}
use Rattle.pg_rewrites.proofs.Found.{found-as, fit-ok, fit-err}
use Rattle.pg_rewrites.proofs.applying.fitting.Goals as goal

pub fixed-requires-clause-few : goal.fixed-requires-clause-few
fixed-requires-clause-few c = (found-as (formula c.args.a.now) (formula c.args.subject.now) c.in_ok-search.field-0 c.in-Some.found c.requires.few c.in-Some.is (c.in_ok-search.ensures [] [] refl refl)).first.few

pub fixed-requires-clause-names : goal.fixed-requires-clause-names
fixed-requires-clause-names c = (found-as (formula c.args.a.now) (formula c.args.subject.now) c.in_ok-search.field-0 c.in-Some.found c.requires.few c.in-Some.is (c.in_ok-search.ensures [] [] refl refl)).first.names

pub returns-in-Ok : goal.returns-in-Ok
returns-in-Ok c =
    let k = found-as (formula c.args.a.now) (formula c.args.subject.now) c.in_ok-search.field-0 c.in-Some.found c.requires.few c.in-Some.is (c.in_ok-search.ensures [] [] refl refl) in
    fit-ok (formula c.args.a.now) (formula c.args.subject.now) c.in-Some.found c.in-Ok.terms k c.in-Ok.ensures

pub returns : goal.returns
returns c =
    let k = found-as (formula c.args.a.now) (formula c.args.subject.now) c.in_ok-search.field-0 c.in-Some.found c.requires.few c.in-Some.is (c.in_ok-search.ensures [] [] refl refl) in
    fit-err (formula c.args.a.now) (formula c.args.subject.now) c.in-Some.found c.in-Err.fault k c.in-Err.ensures
