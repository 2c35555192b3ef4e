use Rattle.std.proofs.Common.{◌∙◌, ◌+◌, ℕ, sym, ap, Option, option_map, Bool}
use Rattle.pg_gametext.specs.Faults.{least, one_more, level_limit, Levels}
use Rattle.pg_gametext.specs.Checks.{out_of_place, number_faults}
use Rattle.pg_base.specs.Tokens.{Word, word}
use Rattle.pg_faults.specs.View.{found, sooner}
use Rattle.pg_places.specs.View.{there}
use Rattle.pg_places.proofs.Told.{level-told, room-told}
use Rattle.pg_places.proofs.places.Places.level_fault.Goals as goal

pub returns-clause-first : goal.returns-clause-first
returns-clause-first c =
    λ before s.
    let number : Option Word = option_map (λ t. word t.now) c.args.number in
    let levels = c.level_number-levels.result in
    c.sooner-2.ensures.first
    ∙ ap (sooner (found c.out_of_place.result)) c.sooner.ensures.first
    ∙ level-told c.sooner.ensures.joins (there c.args.self.now) before s c.args.at levels number
    (found c.out_of_place.result)
    (found c.one_more-too_many.result)
    (found c.number_fault-gap.result)
    c.level_number-levels.ensures.count
    (c.out_of_place.ensures ∙ ap (λ (b : Bool). least (out_of_place b c.args.at)) c.has_no_place_for_level-misplaced.ensures)
    (c.one_more-too_many.ensures ∙ ap (λ (n : ℕ). least (one_more Levels level_limit n c.args.at)) c.from.ensures)
    (c.number_fault-gap.ensures ∙ ap (λ (n : ℕ). least (number_faults (n + 1) number)) c.from-2.ensures)

pub returns-clause-room : goal.returns-clause-room
returns-clause-room c =
    λ before s none.
    room-told (there c.args.self.now) before s c.args.at c.level_number-levels.result
    (found c.out_of_place.result)
    (found c.one_more-too_many.result)
    (found c.number_fault-gap.result)
    c.level_number-levels.ensures.count
    (c.one_more-too_many.ensures ∙ ap (λ (n : ℕ). least (one_more Levels level_limit n c.args.at)) c.from.ensures)
    (sym (c.sooner-2.ensures.first ∙ ap (sooner (found c.out_of_place.result)) c.sooner.ensures.first) ∙ ap found none)
