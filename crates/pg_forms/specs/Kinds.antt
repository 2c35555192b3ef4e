-- The kinds of tokens, in the words of the definitions.
use Rattle.std.specs.Prelude.{Bool, true, false, ◌||◌, ◌&&◌, not, codes}
use Rattle.std.specs.Str.{bytes_eq}
use Rattle.pg_base.specs.Tokens.{Word}
use Rattle.pg_gametext.specs.Commands.{is_number, is_text, is_plain, is_word}
use Rattle.pg_gametext.specs.Forms.{Mark, Plus, Star, Caret, AtMost, Below, is_open, is_close, is_colon, is_assign, is_bar, is_arrow, is_nat, is_function_sign, is_predicate_sign, can_name_constant}
use Rattle.pg_forms.specs.declared.kind.Kind.{Kind}
use Rattle.pg_forms.specs.declared.kind.Kind.TheVariants as kind

-- a number that can name a constant
abbrev pub names_number : Word → Bool
names_number w = is_number w && not (bytes_eq w.text (codes "0"))

-- the sign of a function, of a predicate
abbrev pub is_operation : Mark → Bool
is_operation m = elim m [ Plus ↦ true | Star ↦ true | Caret ↦ true | _ ↦ false ]

abbrev pub is_order : Mark → Bool
is_order m = elim m [ AtMost ↦ true | Below ↦ true | _ ↦ false ]

-- what can name a function, a predicate
abbrev pub names_function : Word → Bool
names_function w = is_plain w || is_function_sign w

abbrev pub names_predicate : Word → Bool
names_predicate w = is_plain w || is_predicate_sign w

-- whether a token is of this kind
abbrev pub fits : Kind → Word → Bool
fits kind.Plain = is_plain
fits kind.Number = is_number
fits kind.Text = is_text
fits kind.Open = is_open
fits kind.Close = is_close
fits kind.Colon = is_colon
fits kind.Assign = is_assign
fits kind.Bar = is_bar
fits kind.Arrow = is_arrow
fits kind.Nat = is_nat
fits kind.As = is_word (codes "as")
fits kind.By = is_word (codes "by")
fits kind.FunctionSign = is_function_sign
fits kind.PredicateSign = is_predicate_sign
fits kind.FunctionName = names_function
fits kind.ConstantName = can_name_constant
fits kind.PredicateName = names_predicate
