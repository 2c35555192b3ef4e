use Rattle.std.proofs.Common.{◌≡◌, ◌++◌, map, drop}
use Rattle.pg_shape.specs.View.{word}
use Rattle.pg_syntax.specs.Steps.{AreTexts, texts}
use Rattle.pg_syntax.proofs.binders.push_words.Given as goal

abbrev pub invariant-loop-name : goal.invariant-loop-name
invariant-loop-name l = record {
  pushed : l.binders ++ texts (map word (drop l.name-index l.words)) ≡ l.initial.binders ++ texts (map word l.words);
  left : AreTexts (map word (drop l.name-index l.words));
}
