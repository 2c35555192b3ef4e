-- The plain data that the Rust types stand for.
use Rattle.pg_base.specs.Tokens.{word}
use Rattle.pg_script.specs.View.{words}
use Rattle.pg_commands.specs.declared.piece.Piece.{Piece}
use Rattle.pg_forms.specs.View.{told, token, names, links, function, constant, predicate, statement}
use Rattle.pg_commands.specs.declared.command.Command.{Command}
use Rattle.pg_commands.specs.declared.command.Command.TheVariants as its
use Rattle.pg_commands.specs.declared.which.Which.{Which}
use Rattle.pg_commands.specs.declared.which.Which.TheVariants as which_of
use Rattle.pg_commands.specs.declared.which.Listed.{Listed}
use Rattle.pg_commands.specs.declared.which.Listed.TheVariants as listed_as
use Rattle.pg_gametext.specs.Commands as text
use Rattle.pg_gametext.specs.Placed as placed

abbrev pub piece : Piece → text.Piece
piece p = record { word = word p.word; body = words p.body.now; end = p.end }

abbrev pub which : Which → placed.Which
which which_of.Title = placed.Title
which which_of.Introduction = placed.Introduction
which which_of.Conclusion = placed.Conclusion

abbrev pub listed : Listed → placed.Listed
listed listed_as.New = placed.New
listed listed_as.Disabled = placed.Disabled
listed listed_as.Only = placed.Only

abbrev pub command : Command → placed.Command
command (its.Game t) = placed.game (told token t)
command (its.Text w t) = placed.text (which w) (told token t)
command (its.World t) = placed.world (told token t)
command (its.Level t) = placed.level (told token t)
command (its.Statement t) = placed.statement (told statement t)
command (its.Tactics l t) = placed.tactics (listed l) (told names t)
command (its.Theorems l t) = placed.theorems (listed l) (told names t)
command (its.Dependency t) = placed.dependency (told links t)
command (its.Function t) = placed.function (told function t)
command (its.Constant t) = placed.constant (told constant t)
command (its.Predicate t) = placed.predicate (told predicate t)
command its.Passed = placed.passed
command its.NoCommand = placed.no_command
