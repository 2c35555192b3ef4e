use Rattle.std.proofs.Common.{◌∙◌, sym}
use Rattle.pg_goal.proofs.Held.{held, thm_counted, thm_missing, thm_gives, thm_proved}
use Rattle.pg_goal.proofs.expression.Place.theorem_at.Goals as goal

pub known-requires : goal.known-requires
known-requires c = thm_counted c.args.self.now c.requires c.args.theorem c.in-Some.a.now (sym c.in-Some.ensures)

pub returns-in-None-clause-gives : goal.returns-in-None-clause-gives
returns-in-None-clause-gives c = thm_missing c.args.self.now c.args.at c.args.theorem (sym c.has_theorem.ensures ∙ c.if-not-has_theorem.false) (sym c.in-None.ensures)

pub returns-in_ok-proof-in-Some-clause-gives : goal.returns-in_ok-proof-in-Some-clause-gives
returns-in_ok-proof-in-Some-clause-gives c =
    thm_gives c.args.self.now c.args.at c.args.theorem c.in-Some.a.now c.known.result (sym c.has_theorem.ensures ∙ c.if-not-has_theorem.false) (sym c.in-Some.ensures) c.known.ensures.gives

pub returns-in_ok-proof-in-Some-clause-held : goal.returns-in_ok-proof-in-Some-clause-held
returns-in_ok-proof-in-Some-clause-held c =
    held c.args.self.now c.known.result (record { formula = c.in-Some.a.now; proof = c.in_ok-proof-in-Some.proof }) _ c.known.ensures.is c.known.ensures.few
    c.in_ok-proof-in-Some.ensures (thm_proved c.args.self.now c.requires c.args.theorem c.in-Some.a.now (sym c.has_theorem.ensures ∙ c.if-not-has_theorem.false) (sym c.in-Some.ensures))
