-- What is wanted, in words.
use Rattle.std.specs.Prelude.{ℕ, List, codes}
use Rattle.pg_base.specs.declared.token.Wanted.{Wanted}
use Rattle.pg_base.specs.declared.token.Wanted.TheVariants.{Term, Formula, Expression, Rule, Name, SignOrEnd, Text, Number, Command, Block, Item, EndOfItem, AtOrEnd, WithOrEnd, CommaOrEnd, AssignOrEnd, OpenBracket, CommaOrBracket, CloseParen, Colon, Assign, ColonOrAssign, HintOption, TruthValue}

abbrev pub words_of : Wanted → List ℕ
words_of Term = codes "a term"
words_of Formula = codes "a formula"
words_of Expression = codes "an expression"
words_of Rule = codes "a rule"
words_of Name = codes "a name"
words_of SignOrEnd = codes "a sign or the end"
words_of Text = codes "a text"
words_of Number = codes "a number"
words_of Command = codes "a command"
words_of Block = codes "a block"
words_of Item = codes "an item"
words_of EndOfItem = codes "the end of the item"
words_of AtOrEnd = codes "`at` or the end of the item"
words_of WithOrEnd = codes "`with` or the end of the item"
words_of CommaOrEnd = codes "`,` or the end of the item"
words_of AssignOrEnd = codes "`:=` or the end of the item"
words_of OpenBracket = codes "`[`"
words_of CommaOrBracket = codes "`,` or `]`"
words_of CloseParen = codes "`)`"
words_of Colon = codes "`:`"
words_of Assign = codes "`:=`"
words_of ColonOrAssign = codes "`:` or `:=`"
words_of HintOption = codes "`hidden` or `strict`"
words_of TruthValue = codes "`true` or `false`"
