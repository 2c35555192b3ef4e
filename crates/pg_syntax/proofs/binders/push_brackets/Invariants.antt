use Rattle.std.proofs.Common.{◌≡◌, ◌++◌, map, drop}
use Rattle.pg_grammar.specs.Printing.{bracket_words}
use Rattle.pg_shape.specs.View.{bracket}
use Rattle.pg_syntax.specs.Steps.{AreTexts, texts}
use Rattle.pg_syntax.proofs.binders.push_brackets.Given as goal

abbrev pub invariant-loop-bracket : goal.invariant-loop-bracket
invariant-loop-bracket l = record {
  pushed : l.binders ++ texts (bracket_words (map bracket (drop l.bracket-index l.brackets))) ≡ l.initial.binders ++ texts (bracket_words (map bracket l.brackets));
  left : AreTexts (bracket_words (map bracket (drop l.bracket-index l.brackets)));
}
