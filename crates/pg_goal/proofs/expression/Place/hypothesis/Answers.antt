use Rattle.std.proofs.Common.{sym}
use Rattle.pg_goal.proofs.Held.{held, hyp_counted, hyp_missing, hyp_gives, hyp_proved}
use Rattle.pg_goal.proofs.expression.Place.hypothesis.Goals as goal

pub known-requires : goal.known-requires
known-requires c = hyp_counted c.args.self.now c.requires c.args.number c.in-Some.hyp.now c.get-in-Some.result.now (sym c.in-Some.ensures.value) c.get-in-Some.ensures

pub returns-in-None-clause-gives : goal.returns-in-None-clause-gives
returns-in-None-clause-gives c = hyp_missing c.args.self.now c.args.at c.args.number (sym c.in-None.ensures.value)

pub returns-in_ok-proof-in-Some-clause-gives : goal.returns-in_ok-proof-in-Some-clause-gives
returns-in_ok-proof-in-Some-clause-gives c =
    hyp_gives c.args.self.now c.args.at c.args.number c.in-Some.hyp.now c.get-in-Some.result.now c.known.result (sym c.in-Some.ensures.value) c.get-in-Some.ensures c.known.ensures.gives

pub returns-in_ok-proof-in-Some-clause-held : goal.returns-in_ok-proof-in-Some-clause-held
returns-in_ok-proof-in-Some-clause-held c =
    held c.args.self.now c.known.result (record { formula = c.get-in-Some.result.now; proof = c.in_ok-proof-in-Some.proof }) _ c.known.ensures.is c.known.ensures.few
    c.in_ok-proof-in-Some.ensures (hyp_proved c.args.self.now c.requires c.args.number c.in-Some.hyp.now c.get-in-Some.result.now (sym c.in-Some.ensures.value) c.get-in-Some.ensures)
