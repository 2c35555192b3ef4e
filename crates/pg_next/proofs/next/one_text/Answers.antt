use Rattle.std.proofs.Common.{◌≡◌, ◌∙◌, sym as flip, ap, subst, [], ◌∷◌}
use Rattle.std.specs.Str.{IsValidUpTo, valid_up_to}
use Rattle.pg_messages.specs.Messages as messages
use Rattle.pg_heads.specs.Told.{IsFound}
use Rattle.pg_next.proofs.Texts.{text-is}
use Rattle.pg_next.proofs.next.one_text.Goals as goal

pub returns : goal.returns
returns c = λ values found.
    let one : values ≡ c.in-One.value.now ∷ [] = subst (λ f. IsFound f values) c.in-One.is found in
    text-is c.in-One.value.now (λ e. IsValidUpTo c.in-One.value.now (valid_up_to e)) c.from_utf8.result c.ok.result c.from_utf8.ensures.cases c.ok.ensures.value
    ∙ ap messages.one_text (flip one)
