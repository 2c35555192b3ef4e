use Rattle.std.proofs.Common.{◌≡◌, ◌++◌, ◌∷◌, [], ◌∙◌, sym, ap, ap₂, List, ℕ, true, string_bytes}
use Rattle.pg_terms.specs.View.{term, formula}
use Rattle.pg_logic.specs.Tree.{Fm, imp}
use Rattle.pg_grammar.specs.Shapes.{NotEqual}
use Rattle.pg_grammar.specs.Printing.{shape_of, joined}
use Rattle.pg_meaning.specs.Scope.{Scope}
use Rattle.pg_spelling.specs.Named.{named, named_formula}
use Rattle.pg_spelling.specs.Written.{written, printed_formula}
use Rattle.pg_syntax.specs.Places.{scope, scope_under, operand_text, is_falsum}
use Rattle.pg_syntax.proofs.Weights.{denied-whole, unequal-whole, on_ok, behind}
use Rattle.pg_syntax.proofs.print.+write.Goals as goal

pub write_implication-returns-in-Some-clause-text : goal.write_implication-returns-in-Some-clause-text
write_implication-returns-in-Some-clause-text t c =
    let s : Scope = scope_under c.args.p.now.cx.now c.args.binders.now in
    let old : List ℕ = string_bytes c.args.out.now in
    let a : Fm = formula c.args.a.now in
    let b : Fm = formula c.args.b.now in
    let between : Scope → List ℕ = λ x. written (joined NotEqual (shape_of (named x (term c.in-Some.s.now))) (shape_of (named x (term c.in-Some.t.now)))) in
    let same : scope c.place.result ≡ s = ap₂ scope_under c.place.ensures.context c.place.ensures.binders in
    let falsum : is_falsum b ≡ true = sym c.is_falsum.ensures ∙ c.if-not-is_falsum.false in
    on_ok c.write_joined.result (string_bytes c.write_joined.new.out ≡ old ++ between (scope c.place.result)) (string_bytes c.write_joined.new.out ≡ old ++ printed_formula s (imp a b))
    (λ h. h ∙ ap (λ x. old ++ between x) same ∙ ap (λ x. old ++ written x) (sym (unequal-whole s a b (term c.in-Some.s.now) (term c.in-Some.t.now) falsum c.in-Some.ensures)))
    c.write_joined.ensures

pub write_implication-returns-in_ok-push_str-in-None-clause-text : goal.write_implication-returns-in_ok-push_str-in-None-clause-text
write_implication-returns-in_ok-push_str-in-None-clause-text t c =
    let s : Scope = scope_under c.args.p.now.cx.now c.args.binders.now in
    let a : Fm = formula c.args.a.now in
    let b : Fm = formula c.args.b.now in
    let body : List ℕ = operand_text 40 (shape_of (named_formula s a)) in
    let sign : List ℕ = 194 ∷ 172 ∷ 32 ∷ [] in
    let falsum : is_falsum b ≡ true = sym c.is_falsum.ensures ∙ c.if-not-is_falsum.false in
    let is : printed_formula s (imp a b) ≡ sign ++ body = ap written (denied-whole s a b falsum c.in-None.ensures) in
    on_ok c.write_operand.result (string_bytes c.write_operand.new.out ≡ string_bytes c.push_str.new.self ++ body) (string_bytes c.write_operand.new.out ≡ string_bytes c.args.out.now ++ printed_formula s (imp a b))
    (λ h. h ∙ behind (string_bytes c.args.out.now) sign (string_bytes c.push_str.new.self) body (printed_formula s (imp a b)) c.in_ok-push_str-in-None.ensures.bytes is)
    c.write_operand.ensures.text
