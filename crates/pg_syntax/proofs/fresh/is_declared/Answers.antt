use Rattle.std.proofs.Common.{sym, ap, ◌∙◌, refl, true, false}
use Rattle.std.specs.Prelude.{is_some}
use Rattle.pg_logic.specs.Declarations.{name_of, NamedPredicate}
use Rattle.pg_arith.specs.View.{declarations}
use Rattle.pg_syntax.proofs.Lists.{any-declared}
use Rattle.pg_syntax.proofs.fresh.is_declared.Goals as goal

pub returns-then-is_some : goal.returns-then-is_some
returns-then-is_some c =
    c.if-is_some.true
    ∙ any-declared name_of (λ (p : NamedPredicate). p.name) c.args.text.now (declarations c.args.sig.now).functions (declarations c.args.sig.now).predicates true _
    (sym c.if-is_some.true ∙ c.is_some.ensures ∙ ap is_some c.function_named.ensures) refl

pub returns-else-is_some : goal.returns-else-is_some
returns-else-is_some c =
    c.is_some-else-is_some.ensures ∙ ap is_some c.predicate_named.ensures
    ∙ any-declared name_of (λ (p : NamedPredicate). p.name) c.args.text.now (declarations c.args.sig.now).functions (declarations c.args.sig.now).predicates false _
    (sym c.if-is_some.false ∙ c.is_some.ensures ∙ ap is_some c.function_named.ensures) refl
