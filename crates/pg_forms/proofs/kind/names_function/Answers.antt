use Rattle.std.proofs.Common.{◌||◌, sym, ap, ◌∙◌}
use Rattle.pg_base.specs.Tokens.{word}
use Rattle.pg_gametext.specs.Forms.{is_function_sign}
use Rattle.pg_forms.proofs.kind.names_function.Goals as goal

pub returns-then-is_plain : goal.returns-then-is_plain
returns-then-is_plain c = c.if-is_plain.true ∙ ap (λ b. b || is_function_sign (word c.args.token.now)) (sym c.if-is_plain.true ∙ c.is_plain.ensures)

pub returns-else-is_plain : goal.returns-else-is_plain
returns-else-is_plain c = c.is_function_sign.ensures ∙ ap (λ b. b || is_function_sign (word c.args.token.now)) (sym c.if-is_plain.false ∙ c.is_plain.ensures)
