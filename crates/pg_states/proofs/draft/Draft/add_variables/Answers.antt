use Rattle.std.proofs.Common.{◌∙◌, List, ap, map, Some}
use Rattle.pg_base.specs.declared.token.Token.{Token}
use Rattle.pg_base.specs.Tokens.{Word}
use Rattle.pg_script.specs.View.{words}
use Rattle.pg_gametext.specs.Reading.{texts, var}
use Rattle.pg_states.proofs.Drafting.{turn, dropped}
use Rattle.pg_states.proofs.draft.Draft.add_variables.Goals as goal

pub add_variable-requires : goal.add_variable-requires
add_variable-requires c = c.requires c.loop-token.token-index _ c.loop-token-test.true

pub loop-token-preserved : goal.loop-token-preserved
loop-token-preserved c =
    let here = dropped c.args.tokens.now c.loop-token.token-index _ c.loop-token-test.true in (
      turn _ _ _ _ _ _ (ap (λ (ts : List Token). map Some (texts (words ts))) here) c.in_ok-add_variable.ensures.names c.loop-token.invariant.0,
      turn _ _ _ _ _ _ (ap (λ (ts : List Token). map (λ (w : Word). var w.text) (words ts)) here) c.in_ok-add_variable.ensures.binders c.loop-token.invariant.1,
      c.in_ok-add_variable.ensures.first ∙ c.loop-token.invariant.2,
    )
