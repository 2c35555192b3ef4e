-- The plain data that the parts of commands stand for.
use Rattle.std.specs.Prelude.{List, map, Vec, Option, option_map}
use Rattle.std.specs.Borrow.{Bor}
use Rattle.std.specs.declared.alloc.Global.{Global}
use Rattle.pg_base.specs.declared.token.Token.{Token}
use Rattle.pg_base.specs.Tokens.{Word, word}
use Rattle.pg_script.specs.Data.{Part}
use Rattle.pg_script.specs.View.{words}
use Rattle.pg_gametext.specs.Forms as forms
use Rattle.pg_forms.specs.declared.parts.Span.{Span}
use Rattle.pg_forms.specs.declared.parts.Told.{Told}
use Rattle.pg_forms.specs.declared.parts.Link.{Link}
use Rattle.pg_forms.specs.declared.parts.Equation.{Equation}
use Rattle.pg_forms.specs.declared.parts.FunctionText.{FunctionText}
use Rattle.pg_forms.specs.declared.parts.ConstantText.{ConstantText}
use Rattle.pg_forms.specs.declared.parts.PredicateText.{PredicateText}
use Rattle.pg_forms.specs.declared.parts.BinderText.{BinderText}
use Rattle.pg_forms.specs.declared.parts.BinderText.TheVariants as binders
use Rattle.pg_forms.specs.declared.parts.StatementText.{StatementText}

abbrev pub part : Span → Part
part s = record { tokens = words s.tokens.now; end = s.end }

-- what was told, of this view
abbrev pub told : {T V : Type 0} → (T → V) → Told T → forms.Told V
told view t = record { value = view t.value; stuck = t.stuck }

abbrev pub token : Option Token → Option Word
token t = option_map word t

abbrev pub names : Bor (List Token) → List Word
names tokens = words tokens.now

abbrev pub link : Link → forms.Link
link l = record { before = word l.before; after = word l.after }

abbrev pub links : Vec Link Global → List forms.Link
links ls = map link ls.items

abbrev pub equation : Equation → forms.Equation
equation e = record { name = word e.name; says = option_map part e.says }

abbrev pub function : FunctionText → forms.FunctionText
function f = record { name = option_map word f.name; params = words f.params.now; at_zero = option_map equation f.at_zero; at_succ = option_map equation f.at_succ }

abbrev pub constant : ConstantText → forms.ConstantText
constant c = record { name = option_map word c.name; body = option_map part c.body; equation_name = option_map word c.equation_name }

abbrev pub predicate : PredicateText → forms.PredicateText
predicate p = record { name = option_map word p.name; params = words p.params.now; body = option_map part p.body }

abbrev pub binder : BinderText → forms.BinderText
binder (binders.Variables tokens) = forms.variables (words tokens.now)
binder (binders.Hypothesis h s) = forms.hypothesis (word h) (part s)

abbrev pub statement : StatementText → forms.StatementText
statement t = record { name = option_map word t.name; binders = map binder t.binders.items; target = option_map part t.target; block = option_map part t.block }
