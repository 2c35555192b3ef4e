-- Printing, read back from the text: which names have texts that are tokens, and which tokens a printed text has.
use Rattle.std.specs.Prelude.{ℕ, ◌≡◌, ◌+◌, ◌<◌, ◌≤◌, ◌^◌, ◌==◌, ◌||◌, Bool, true, false, List, [], ◌∷◌, length, map, Option, Some, None, IsTrue, slice_get}
use Rattle.std.specs.Str.{chars, IsUtf8}
use Rattle.pg_base.specs.declared.token.Sign.{Sign}
use Rattle.pg_base.specs.declared.token.TokenKind.TheVariants as kind
use Rattle.pg_base.specs.Characters.{character, is_blank}
use Rattle.pg_base.specs.Signs.{sign_of_one}
use Rattle.pg_base.specs.Tokens.{lexed}
use Rattle.pg_base.specs.Layout.{IsToken}
use Rattle.pg_base.specs.Spans.{IsTokenText}
use Rattle.pg_base.specs.Reserved.{is_reserved}
use Rattle.pg_shape.specs.Symbols.{symbol}
use Rattle.pg_logic.specs.Tree.{Tm, Fm, falsum, eq, pred, and, or, imp, all, ex}
use Rattle.pg_logic.specs.Declarations.{Name, NamedFunction, NamedPredicate, Declarations, name_of}
use Rattle.pg_grammar.specs.Shapes.{Shape, spelled}
use Rattle.pg_grammar.specs.Printing.{Join, shape_of}
use Rattle.pg_meaning.specs.Scope.{Scope, outermost}
use Rattle.pg_spelling.specs.Fresh.{fresh}
use Rattle.pg_spelling.specs.Named.{under, taken, sign_named, begins_with_digit, named, named_formula}
use Rattle.pg_spelling.specs.Occurring.{EachFunction, EachSymbol}
use Rattle.pg_spelling.specs.Written.{printed, printed_formula}
use Rattle.pg_spelling.specs.Back.{CanReadTerm, CanReadFormula}
use Rattle.pg_spelling.specs.Placed.{placed}

-- ---- names whose texts are tokens

-- the text of a name token; it may be a reserved word
abbrev pub IsNameToken : List ℕ → Type 0
IsNameToken text = IsUtf8 text × IsTokenText kind.Name text

abbrev pub IsNumberToken : List ℕ → Type 0
IsNumberToken text = IsUtf8 text × IsTokenText kind.Number text

-- the text of a name token that isn't reserved
abbrev pub IsFreeName : List ℕ → Type 0
IsFreeName text = IsNameToken text × (is_reserved text ≡ false)

-- ---- one token

-- a character that goes on no name, number or sign: a blank, a parenthesis, a comma
abbrev pub is_stop : ℕ → Bool
is_stop c = is_blank c || (c == character "(") || (c == character ")") || (c == character ",")

-- one stands first, or nothing does
abbrev pub Stops : List ℕ → Type 0
Stops [] = Unit {0}
Stops (c ∷ cs) = IsTrue (is_stop c)

-- A name's text, a number's text and a sign of one character are a token each, before a rest that doesn't go on.
pub record TokenLaw : Type 0 where
  pub name : (text rest : List ℕ) → IsNameToken text → Stops rest → IsToken kind.Name (chars text) rest
  pub number : (text rest : List ℕ) → IsNumberToken text → Stops rest → IsToken kind.Number (chars text) rest
  pub sign : (sign : Sign) (c : ℕ) (rest : List ℕ) → sign_of_one c ≡ Some sign → Stops rest → IsToken (kind.Sign sign) (c ∷ []) rest

-- ---- fresh names

-- A fresh name is a name token's text again, and isn't reserved, where it has at most 48 bytes.
abbrev pub FreshNameLaw : Type 0
FreshNameLaw = (names : List Name) (x : Name) → length names + 1 < 2 ^ 64 → IsNameToken x → length (fresh names x) ≤ 48 → IsFreeName (fresh names x)

-- ---- the names of a tree

-- A declared name is a sign, or a number token's text, or a name token's that isn't reserved.
abbrev pub IsDeclaredText : Option Join → Bool → Name → Type 0
IsDeclaredText (Some join) numeral name = Unit {0}
IsDeclaredText None true name = IsNumberToken name
IsDeclaredText None false name = IsFreeName name

-- so of a function, and of a predicate
abbrev pub IsFunctionText : NamedFunction → Type 0
IsFunctionText f = IsDeclaredText (sign_named (name_of f)) (begins_with_digit (name_of f)) (name_of f)

abbrev pub IsPredicateText : NamedPredicate → Type 0
IsPredicateText p = IsDeclaredText (sign_named p.name) (begins_with_digit p.name) p.name

-- each live name is a name token's text that isn't reserved
abbrev pub AreFree : List (Option Name) → Type 0
AreFree vars = (i : ℕ) (x : Name) → slice_get vars i ≡ Some (Some x) → IsFreeName x

-- Each binder's name is a name token's text, and its printed name has at most 48 bytes.
abbrev pub AreBinders : Scope → Fm → Type 0
AreBinders s falsum = Unit {0}
AreBinders s (eq a b) = Unit {0}
AreBinders s (pred p ts) = Unit {0}
AreBinders s (and a b) = AreBinders s a × AreBinders s b
AreBinders s (or a b) = AreBinders s a × AreBinders s b
AreBinders s (imp a b) = AreBinders s a × AreBinders s b
AreBinders s (all x a) = IsNameToken x × (length (fresh (taken s) x) ≤ 48) × AreBinders (under (fresh (taken s) x) s) a
AreBinders s (ex x a) = IsNameToken x × (length (fresh (taken s) x) ≤ 48) × AreBinders (under (fresh (taken s) x) s) a

-- ---- the tokens of a text

-- The text has no fault, and its tokens spell this shape, each at its place.
pub record IsTextOf (s : Shape) (text : List ℕ) : Type 0 where
  pub faultless : (lexed text).fault ≡ None
  pub symbols : map symbol (lexed text).words ≡ spelled (placed 0 s)

-- What writing asks besides: the live names, those of the tree's functions, constants and predicates, and those of its binders
-- are texts of tokens.
pub record CanWriteTerm (vars : List (Option Name)) (d : Declarations) (t : Tm) : Type 0 where
  pub reads : CanReadTerm vars d t
  pub live : AreFree vars
  pub texts : EachFunction IsFunctionText d t

pub record CanWriteFormula (vars : List (Option Name)) (d : Declarations) (a : Fm) : Type 0 where
  pub reads : CanReadFormula vars d a
  pub live : AreFree vars
  pub texts : EachSymbol IsFunctionText IsPredicateText d a
  pub binders : AreBinders (outermost vars d) a

abbrev pub TermTextLaw : Type 0
TermTextLaw = (vars : List (Option Name)) (d : Declarations) (t : Tm) → CanWriteTerm vars d t → IsTextOf (shape_of (named (outermost vars d) t)) (printed (outermost vars d) t)

abbrev pub TextLaw : Type 0
TextLaw = (vars : List (Option Name)) (d : Declarations) (a : Fm) → CanWriteFormula vars d a → IsTextOf (shape_of (named_formula (outermost vars d) a)) (printed_formula (outermost vars d) a)
