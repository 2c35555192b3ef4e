-- The plain data that the Rust types stand for: a token without where its text lies in memory, an item list as its list.
use Rattle.std.specs.Prelude.{◌≡◌, List, map, Option, Some, None, option_map, Result, Ok, Err}
use Rattle.std.specs.Borrow.{Bor}
use Rattle.pg_base.specs.declared.token.Token.{Token}
use Rattle.pg_base.specs.Tokens.{Word, word}
use Rattle.pg_script.specs.declared.fault.ScriptFault.{ScriptFault}
use Rattle.pg_script.specs.declared.fault.ScriptFault.TheVariants.{OutOfMemory}
use Rattle.pg_script.specs.declared.item.Piece.{Piece}
use Rattle.pg_script.specs.declared.item.Expr.{Expr}
use Rattle.pg_script.specs.declared.item.RwRule.{RwRule}
use Rattle.pg_script.specs.declared.item.Form.{Form}
use Rattle.pg_script.specs.declared.item.Form.TheVariants as form
use Rattle.pg_script.specs.declared.item.MoveItem.{MoveItem}
use Rattle.pg_script.specs.declared.item.HintItem.{HintItem}
use Rattle.pg_script.specs.declared.item.Item.{Item, fold-Item}
use Rattle.pg_script.specs.declared.item.Item.TheOpen.{Item-F}
use Rattle.pg_script.specs.Data.{Part, Expression, Rule, Shape, plain, exact, intro, apply, rewrite, split, uses, symm, have, revert, by_cases, unknown, Step, Remark, Entry, move, focus, branch, hint, entries_of}

abbrev pub words : List Token → List Word
words tokens = map word tokens

abbrev pub part : Piece → Part
part p = record { tokens = words p.tokens; end = p.end }

abbrev pub expression : Expr → Expression
expression e = record { name = word e.name; args = map part e.args }

abbrev pub rule : RwRule → Rule
rule r = record { back = r.back; expr = expression r.expr }

abbrev pub shape : Form → Shape
shape form.Plain = plain
shape (form.Exact e) = exact (expression e)
shape (form.Intro names) = intro (words names)
shape (form.Apply e place) = apply (expression e) (option_map word place)
shape (form.Rw rules place) = rewrite (map rule rules) (option_map word place)
shape (form.Split name names) = split (word name) (words names)
shape (form.Use terms) = uses (map part terms)
shape (form.Symm place) = symm (option_map word place)
shape (form.Have name formula expr) = have (word name) (option_map part formula) (option_map expression expr)
shape (form.Revert name) = revert (word name)
shape (form.ByCases name formula) = by_cases (word name) (part formula)
shape form.Unknown = unknown

abbrev pub step : MoveItem → Step
step m = record { at = m.at; head = m.head.now; shape = shape m.form }

abbrev pub remark : HintItem → Remark
remark h = record { at = h.at; text = h.text.now; hidden = h.hidden; strict = h.strict }

abbrev pub entry_step : Item-F Entry → Entry
entry_step (Item-F.Move m) = move (step m)
entry_step (Item-F.Focus items) = focus (entries_of items)
entry_step (Item-F.Branch items) = branch (entries_of items)
entry_step (Item-F.Hint h) = hint (remark h)

abbrev pub entry : Item → Entry
entry = fold-Item Entry entry_step

-- ---- answers

-- The call answers what was read, or its fault. Only want of memory is free.
abbrev pub Reads : {T V : Type 0} → (T → V) → Result V ScriptFault → Result T ScriptFault → Type 0
Reads view read (Ok x) = read ≡ Ok (view x)
Reads view read (Err e) = (e ≡ OutOfMemory → ⊥) → read ≡ Err e

-- The check passes exactly where there is no fault, and else answers it.
abbrev pub Passes : Option ScriptFault → Result (Unit {0}) ScriptFault → Type 0
Passes fault (Ok x) = fault ≡ None
Passes fault (Err e) = fault ≡ Some e

-- tokens that are left
abbrev pub rest_words : Bor (List Token) → List Word
rest_words rest = words rest.now

-- what was read, and the tokens that are left
abbrev pub with_rest : {T V : Type 0} → (T → V) → T × Bor (List Token) → V × List Word
with_rest view p = (view p.0, words p.1.now)

-- what is plain data already
abbrev pub same : {T : Type 0} → T → T
same x = x
