use Rattle.std.proofs.Common.{◌∙◌, ap, sym, map}
use Rattle.std.proofs.lemmas.List.{map-append}
use Rattle.pg_script.specs.View.{words, part}
use Rattle.pg_script.proofs.Arguments.{turned}
use Rattle.pg_script.proofs.expression.argument.Goals as goal

pub returns-clause-read : goal.returns-clause-read
returns-clause-read c =
    turned c.args.end c.args.depth c.in_ok-count.count c.args.tokens.now (words c.in_ok-piece.rest.now) (map part c.args.args.now) (map part c.push.new.self) (part c.in_ok-piece.piece)
    c.if-count-eq0.false c.in_ok-count.ensures.within (sym c.in_ok-count.ensures.length)
    c.in_ok-piece.ensures.piece c.in_ok-piece.ensures.rest (ap (map part) c.in_ok-push.ensures.ok ∙ map-append part c.args.args.now _)
