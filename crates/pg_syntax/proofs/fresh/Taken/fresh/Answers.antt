use Rattle.std.proofs.Common.{◌≡◌, ◌∙◌, List, true, ap, sym}
use Rattle.pg_logic.specs.Declarations.{Name}
use Rattle.pg_spelling.specs.Fresh.{is_taken, stem, IsFresh}
use Rattle.pg_syntax.specs.Places.{taken_names}
use Rattle.pg_syntax.proofs.FreshNames.{fresh_by_number}
use Rattle.pg_syntax.proofs.Weights.{if_ok}
use Rattle.pg_syntax.proofs.fresh.Taken.fresh.Goals as goal

pub new-requires : goal.new-requires
new-requires c = λ e. c.in_ok-made.ensures.some (sym c.as_str-3.ensures.value ∙ e)

pub returns-clause-free : goal.returns-clause-free
returns-clause-free c =
    let names : List Name = taken_names c.args.self.now in
    let name : Name = c.args.name.now in
    let taken : is_taken names name ≡ true = ap (is_taken names) (sym c.as_str.ensures) ∙ sym c.has.ensures ∙ c.if-not-has.false in
    let front : c.stem.result.now ≡ stem name = c.stem.ensures ∙ ap stem c.as_str-2.ensures in
    if_ok c.new.result (λ (n : Name). n ≡ c.as_str-3.result.now) (λ (n : Name). IsFresh names name n)
    (λ n e. fresh_by_number names name n c.stem.result.now c.in_ok-made.ensures.room taken front (e ∙ c.as_str-3.ensures.value ∙ c.in_ok-made.ensures.made)) c.new.ensures
