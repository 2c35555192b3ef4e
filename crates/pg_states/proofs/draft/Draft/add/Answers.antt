use Rattle.std.proofs.Common.{◌∷◌, ◌∙◌, ap, sym, map}
use Rattle.pg_arith.specs.View.{declarations}
use Rattle.pg_faults.specs.View.{found}
use Rattle.pg_forms.specs.declared.parts.BinderText.{BinderText}
use Rattle.pg_forms.specs.View.{binder as binder_text}
use Rattle.pg_script.specs.View.{words}
use Rattle.pg_gametext.specs.Reading.{texts, binder, binders_read}
use Rattle.pg_states.specs.Drafts.{live, known}
use Rattle.pg_states.proofs.Drafting.{live_behind, known_behind}
use Rattle.pg_states.proofs.draft.Draft.add.Goals as goal

pub returns-in_ok-add_variables-in-Variables-clause-live : goal.returns-in_ok-add_variables-in-Variables-clause-live
returns-in_ok-add_variables-in-Variables-clause-live c alive =
    live_behind c.args.self.now.names.vars.items c.add_variables.new.self.names.vars.items (texts (words c.in-Variables.tokens.now)) c.in_ok-add_variables-in-Variables.ensures.names alive

pub returns-in_ok-add_variables-in-Variables-clause-known : goal.returns-in_ok-add_variables-in-Variables-clause-known
returns-in_ok-add_variables-in-Variables-clause-known c alive more =
    known_behind (declarations c.args.sig.now) c.args.self.now.names.vars.items c.add_variables.new.self.names.vars.items (map binder c.args.self.now.binders.items)
    (map binder c.add_variables.new.self.binders.items) (found c.args.self.now.first) (found c.add_variables.new.self.first) (words c.in-Variables.tokens.now) more
    c.in_ok-add_variables-in-Variables.ensures.names c.in_ok-add_variables-in-Variables.ensures.binders (ap found c.in_ok-add_variables-in-Variables.ensures.first)
    ∙ ap (λ (b : BinderText). known (map binder c.args.self.now.binders.items) (found c.args.self.now.first) (binders_read (declarations c.args.sig.now) (live c.args.self.now.names.vars.items) (binder_text b ∷ more))) (sym c.in-Variables.is)
