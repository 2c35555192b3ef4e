use Rattle.std.proofs.Common.{sym, ap, ◌∙◌, ◌++◌, string_bytes}
use Rattle.std.specs.Prelude.{option_map}
use Rattle.pg_terms.specs.View.{args}
use Rattle.pg_shape.specs.View.{op}
use Rattle.pg_grammar.specs.Printing.{shape_of}
use Rattle.pg_spelling.specs.Named.{at_arguments, named_all}
use Rattle.pg_spelling.specs.Written.{written}
use Rattle.pg_syntax.specs.Places.{scope}
use Rattle.pg_syntax.specs.Texts.{arguments_text}
use Rattle.pg_syntax.proofs.Weights.{written-other, written-no_sign, same_text}
use Rattle.pg_syntax.proofs.written.+write.Goals as goal

pub write_call-returns-then-ts-ne2 : goal.write_call-returns-then-ts-ne2
write_call-returns-then-ts-ne2 t c =
    same_text c.write_before.result (string_bytes c.write_before.new.out) (string_bytes c.args.out.now)
    (c.args.name.now ++ arguments_text (scope c.args.place.now) (args c.args.ts.now)) (written (shape_of (at_arguments c.args.name.now (named_all (scope c.args.place.now) (args c.args.ts.now)))))
    (sym (written-other (scope c.args.place.now) c.args.name.now c.args.ts.now c.if-ts-ne2.true)) c.write_before.ensures

pub write_call-returns-in-None : goal.write_call-returns-in-None
write_call-returns-in-None t c =
    same_text c.write_before-in-None.result (string_bytes c.write_before-in-None.new.out) (string_bytes c.args.out.now)
    (c.args.name.now ++ arguments_text (scope c.args.place.now) (args c.args.ts.now)) (written (shape_of (at_arguments c.args.name.now (named_all (scope c.args.place.now) (args c.args.ts.now)))))
    (sym (written-no_sign (scope c.args.place.now) c.args.name.now (args c.args.ts.now) (sym (ap (option_map op) c.in-None.is) ∙ c.sign_named.ensures)))
    c.write_before-in-None.ensures
