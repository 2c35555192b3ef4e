use Rattle.std.proofs.Common.{◌∙◌, sym}
use Rattle.std.specs.Prelude.{codes}
use Rattle.pg_base.specs.Tokens.{word}
use Rattle.pg_script.specs.View.{words}
use Rattle.pg_gametext.specs.Commands.{is_word}
use Rattle.pg_hints.specs.Words.{reads_hint}
use Rattle.pg_hints.proofs.Words.{far_off, not_both}
use Rattle.pg_hints.proofs.block.is_hint_word.Goals as goal

pub returns-then-is_far : goal.returns-then-is_far
returns-then-is_far c =
    let front = words c.args.front.now in
    let w = word c.args.token.now in
    not_both (is_word (codes "Hint") w) (reads_hint front w) (far_off front w (sym c.is_far.ensures ∙ c.if-is_far.true))
