use Rattle.std.proofs.Common.{◌∙◌, ap, sym, true, map, reverse, take}
use Rattle.std.proofs.lemmas.List.{take-map}
use Rattle.pg_base.specs.Tokens.{word}
use Rattle.pg_script.specs.View.{words}
use Rattle.pg_gametext.specs.Faults.{least}
use Rattle.pg_gametext.specs.Before.{bound_name, first_place}
use Rattle.pg_gametext.specs.Checks.{clash_fault}
use Rattle.pg_named.specs.View.{given}
use Rattle.pg_named.specs.Found.{kept, sooner_place}
use Rattle.pg_named.proofs.Places.{reversed, over_place}
use Rattle.pg_named.proofs.bound.clash_at.Goals as goal

pub returns : goal.returns
returns c =
    let w = word c.args.token.now in
    let T = kept true (map given (reverse c.args.table.now)) in
    let front = map bound_name (take c.args.count (words c.args.tokens.now)) in
    let among = c.first_among-among.ensures ∙ ap (λ ts. first_place w.text (map bound_name (words ts))) c.split_at.ensures.front ∙ ap (λ ws. first_place w.text (map bound_name ws)) (sym (take-map word c.args.count c.args.tokens.now)) in
    let declared = c.first_place-declared.ensures ∙ sym (reversed w.text true c.args.table.now) in
    c.clash.ensures
    ∙ ap (λ p. least (clash_fault w.at p))
    (c.sooner_place.ensures
    ∙ ap (λ a. sooner_place a c.first_place-declared.result) among
    ∙ ap (sooner_place (first_place w.text front)) declared
    ∙ sym (over_place w.text T front))
