use Rattle.std.proofs.Common.{◌≡◌, ◌∙◌, ap, sym as flip, arith, Option, Some, List, option_map, subst}
use Rattle.pg_worlds.specs.declared.tactic_name.TacticName.{TacticName}
use Rattle.pg_run.specs.Reading.{moves_of}
use Rattle.pg_run.proofs.Games.{some-moves}
use Rattle.pg_run.proofs.game.with_moves.Goals as goal

pub returns-in-Some : goal.returns-in-Some
returns-in-Some c =
    let read : Some c.in-Some.tactics.items ≡ moves_of c.args.symbols.now = ap (option_map (λ v. v.items)) (flip c.in-Some.is) ∙ c.in_ok-tactics.ensures in
    flip (some-moves c.args.symbols.now c.args.sample c.in-Some.tactics.items (flip c.is_empty.ensures ∙ c.if-is_empty.false) (flip read))
