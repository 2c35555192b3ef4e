use Rattle.std.proofs.Common.{◌≡◌, ◌+◌, ◌<◌, ◌∙◌, sym, ap, List, length, arith, true, false, string_bytes, String, Global, get_or}
use Rattle.std.proofs.lemmas.List.{get_or_default}
use Rattle.pg_logic.specs.Declarations.{Name}
use Rattle.pg_spelling.specs.Fresh.{is_taken, numbered, free_number}
use Rattle.pg_syntax.specs.Places.{taken_names}
use Rattle.pg_syntax.proofs.Lists.{free-end, free-here, free-next}
use Rattle.pg_syntax.proofs.Weights.{if_ok}
use Rattle.pg_syntax.proofs.fresh.Taken.first_free.Goals as goal

pub returns-then-not-has-clause-made : goal.returns-then-not-has-clause-made
returns-then-not-has-clause-made c =
    let names : List Name = taken_names c.args.self.now in
    let text : string_bytes c.in_ok-made.made ≡ numbered c.args.stem.now (c.loop-before.before + 1) = c.in_ok-made.ensures.made in
    let is : is_taken names (numbered c.args.stem.now (c.loop-before.before + 1)) ≡ false = ap (is_taken names) (sym text ∙ sym c.as_str.ensures.value) ∙ sym c.has.ensures ∙ c.if-not-has.true in
    let lt : c.loop-before.before < length names = omega arith in
    text ∙ ap (numbered c.args.stem.now) (sym (free-here names c.args.stem.now (length names) c.loop-before.before lt is) ∙ c.loop-before.invariant)

pub loop-before-preserved : goal.loop-before-preserved
loop-before-preserved c =
    let names : List Name = taken_names c.args.self.now in
    let text : string_bytes c.in_ok-made.made ≡ numbered c.args.stem.now (c.loop-before.before + 1) = c.in_ok-made.ensures.made in
    let is : is_taken names (numbered c.args.stem.now (c.loop-before.before + 1)) ≡ true = ap (is_taken names) (sym text ∙ sym c.as_str.ensures.value) ∙ sym c.has.ensures ∙ c.if-not-has.false in
    let lt : c.loop-before.before < length names = omega arith in
    sym (free-next names c.args.stem.now (length names) c.loop-before.before lt is) ∙ c.loop-before.invariant

pub loop-before-preserved-then-index : goal.loop-before-preserved-then-index
loop-before-preserved-then-index c =
    let names : List Name = taken_names c.args.self.now in
    let lt : c.loop-before.before < length names = omega arith in
    let within : c.loop-before.before < length c.in_ok-used.used.items = omega (arith, c.in_ok-used.ensures.length) in
    let known : get_or c.in_ok-used.used.items c.loop-before.before false ≡ true =
    get_or_default c.in_ok-used.used.items c.loop-before.before false c.index.result.now within ∙ sym c.index.ensures ∙ c.if-index.true in
    sym (free-next names c.args.stem.now (length names) c.loop-before.before lt (c.in_ok-used.ensures.taken c.loop-before.before known)) ∙ c.loop-before.invariant

pub returns-clause-made : goal.returns-clause-made
returns-clause-made c =
    let names : List Name = taken_names c.args.self.now in
    let room : c.loop-before.before ≡ length names = omega arith in
    if_ok c.numbered-2.result (λ (made : String Global). string_bytes made ≡ numbered c.args.stem.now (c.count-room.result + 1))
    (λ (made : String Global). string_bytes made ≡ numbered c.args.stem.now (free_number names c.args.stem.now (length names) 1))
    (λ made e. e ∙ ap (λ n. numbered c.args.stem.now (n + 1)) c.count-room.ensures.count ∙ ap (numbered c.args.stem.now) (sym (free-end names c.args.stem.now (length names) c.loop-before.before room) ∙ c.loop-before.invariant))
    c.numbered-2.ensures.made
