-- The shapes of the grammar that the Rust types stand for.
use Rattle.std.specs.Prelude.{map}
use Rattle.pg_grammar.specs.Shapes as grammar
use Rattle.pg_shape.specs.declared.shape.Op.{Op}
use Rattle.pg_shape.specs.declared.shape.Op.TheVariants.{Implies, Or, And, Equal, NotEqual, LessEqual, Less, Plus, Times, Power}
use Rattle.pg_shape.specs.declared.shape.Quantifier.{Quantifier}
use Rattle.pg_shape.specs.declared.shape.Quantifier.TheVariants.{ForAll, Exists}
use Rattle.pg_shape.specs.declared.shape.Word.{Word}
use Rattle.pg_shape.specs.declared.shape.Group.{Group}
use Rattle.pg_shape.specs.declared.shape.Bracket.{Bracket}
use Rattle.pg_shape.specs.declared.shape.Binders.{Binders}
use Rattle.pg_shape.specs.declared.shape.Binders.TheVariants.{Plain, Typed, Grouped}
use Rattle.pg_shape.specs.declared.shape.Shape.{Shape, fold-Shape}
use Rattle.pg_shape.specs.declared.shape.Shape.TheOpen.{Shape-F}

abbrev pub op : Op → grammar.Op
op Implies = grammar.Implies
op Or = grammar.Or
op And = grammar.And
op Equal = grammar.Equal
op NotEqual = grammar.NotEqual
op LessEqual = grammar.LessEqual
op Less = grammar.Less
op Plus = grammar.Plus
op Times = grammar.Times
op Power = grammar.Power

abbrev pub quantifier : Quantifier → grammar.Quantifier
quantifier ForAll = grammar.ForAll
quantifier Exists = grammar.Exists

abbrev pub word : Word → grammar.Word
word w = record { at = w.at; text = w.text.now }

abbrev pub group : Group → grammar.Group
group g = record { first = word g.first; others = map word g.others }

abbrev pub bracket : Bracket → grammar.Bracket
bracket b = record { at = b.at; names = group b.names }

abbrev pub binders : Binders → grammar.Binders
binders (Plain g) = grammar.Plain (group g)
binders (Typed g) = grammar.Typed (group g)
binders (Grouped bs b) = grammar.Grouped (map bracket bs) (bracket b)

abbrev pub shape_step : Shape-F grammar.Shape → grammar.Shape
shape_step (Shape-F.Named w) = grammar.Named (word w)
shape_step (Shape-F.Numeral n) = grammar.Numeral (word n)
shape_step (Shape-F.Falsum at) = grammar.Falsum at
shape_step (Shape-F.Paren at s) = grammar.Paren at s
shape_step (Shape-F.Next at s) = grammar.Next at s
shape_step (Shape-F.App f s) = grammar.App f s
shape_step (Shape-F.Neg at s) = grammar.Neg at s
shape_step (Shape-F.Quant at q b s) = grammar.Quant at (quantifier q) (binders b) s
shape_step (Shape-F.Binary at o l r) = grammar.Binary at (op o) l r

abbrev pub shape : Shape → grammar.Shape
shape = fold-Shape grammar.Shape shape_step
