-- What reading back asks can be met: ∀ x, x + 0 = x is read again from its text.
use Rattle.std.proofs.Common.{◌≡◌, ℕ, List, [], length, codes, sym, ◌∙◌, ap, refl, arith}
use Rattle.std.specs.Str.{encode_utf8_all}
use Rattle.std.proofs.lemmas.List.{length-map}
use Rattle.pg_base.specs.Tokens.{lexed}
use Rattle.pg_shape.specs.Symbols.{symbol}
use Rattle.pg_grammar.specs.Printing.{shape_of}
use Rattle.pg_meaning.specs.Scope.{outermost}
use Rattle.pg_spelling.specs.Named.{named_formula}
use Rattle.pg_spelling.proofs.Examples.{sums, sums-declared, add_zero, add_zero-writes, add_zero-text}
use Rattle.pg_syntax.specs.ReadBack.{IsWithinLimits, FormulaReadsAgain}
use Rattle.pg_syntax.proofs.Again.{formula-again}

abbrev add_zero_text : List ℕ
add_zero_text = encode_utf8_all (codes "∀ x, x + 0 = x")

within-limits : IsWithinLimits (shape_of (named_formula (outermost [] sums) add_zero)) add_zero_text
unfolding lib.Utf8.encode
within-limits =
    let eight : length (lexed add_zero_text).words ≡ 8 = sym (length-map (lexed add_zero_text).words symbol) ∙ ap length add_zero-text.symbols in
    record {
      tokens = omega (arith, eight);
      nesting = (omega arith, (omega arith, (omega arith, (omega arith, (omega arith, (omega arith, (omega arith, (omega arith, tt))))))));
    }

pub add_zero-again : FormulaReadsAgain [] sums add_zero add_zero_text
unfolding lib.Utf8.encode
add_zero-again = formula-again [] sums add_zero add_zero_text sums-declared refl add_zero-writes within-limits
