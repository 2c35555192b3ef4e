use Rattle.std.proofs.Common.{◌≡◌, ◌++◌, drop, map, Some}
use Rattle.pg_base.specs.Tokens.{Word}
use Rattle.pg_script.specs.View.{words}
use Rattle.pg_gametext.specs.Reading.{texts, binder, var}
use Rattle.pg_states.proofs.draft.Draft.add_variables.Given as goal

abbrev pub invariant-loop-token : goal.invariant-loop-token
invariant-loop-token l =
    (l.self.names.vars.items ++ map Some (texts (words (drop l.token-index l.tokens))) ≡ l.fn.self.names.vars.items ++ map Some (texts (words l.tokens)))
    × (map binder l.self.binders.items ++ map (λ (w : Word). var w.text) (words (drop l.token-index l.tokens)) ≡ map binder l.fn.self.binders.items ++ map (λ (w : Word). var w.text) (words l.tokens))
    × (l.self.first ≡ l.fn.self.first)
