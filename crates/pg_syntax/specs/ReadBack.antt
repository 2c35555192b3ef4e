-- A printed text, read again.
use Rattle.std.specs.Prelude.{ℕ, ◌≡◌, ◌≤◌, true, List, length, Option, None}
use Rattle.pg_base.specs.Tokens.{lexed}
use Rattle.pg_shape.specs.Answers.{limits}
use Rattle.pg_logic.specs.Tree.{Tm, Fm, same_formula}
use Rattle.pg_logic.specs.Declarations.{Name, Declarations}
use Rattle.pg_grammar.specs.Shapes.{Shape}
use Rattle.pg_grammar.specs.Nesting.{depths, AreWithin}
use Rattle.pg_grammar.specs.Printing.{shape_of}
use Rattle.pg_meaning.specs.Scope.{outermost}
use Rattle.pg_spelling.specs.Named.{named, named_formula}
use Rattle.pg_spelling.specs.Back.{renamed}
use Rattle.pg_spelling.specs.TextBack.{CanWriteTerm, CanWriteFormula}
use Rattle.pg_syntax.specs.Answers.{Read, term_answer, formula_answer}

-- The text has at most 8,192 tokens, and no token of its shape is nested more than 100 deep.
pub record IsWithinLimits (s : Shape) (text : List ℕ) : Type 0 where
  pub tokens : length (lexed text).words ≤ limits.tokens
  pub nesting : AreWithin limits.nesting (depths 0 s)

-- The text has tokens and no fault, and they read as this term.
pub record TermReadsAgain (vars : List (Option Name)) (d : Declarations) (t : Tm) (text : List ℕ) : Type 0 where
  pub faultless : (lexed text).fault ≡ None
  pub reads : term_answer (outermost vars d) (length text) (lexed text).words ≡ Read t

-- The text has tokens and no fault, and they read as this formula with the names of its binders as printed.
pub record FormulaReadsAgain (vars : List (Option Name)) (d : Declarations) (a : Fm) (text : List ℕ) : Type 0 where
  pub faultless : (lexed text).fault ≡ None
  pub reads : formula_answer (outermost vars d) (length text) (lexed text).words ≡ Read (renamed (outermost vars d) a)
  pub same : same_formula a (renamed (outermost vars d) a) ≡ true

-- what is printed reads back, where the names are tokens and the text is within the limits
abbrev pub TermComesBack : List (Option Name) → Declarations → Tm → List ℕ → Type 0
TermComesBack vars d t text = CanWriteTerm vars d t → IsWithinLimits (shape_of (named (outermost vars d) t)) text → TermReadsAgain vars d t text

abbrev pub FormulaComesBack : List (Option Name) → Declarations → Fm → List ℕ → Type 0
FormulaComesBack vars d a text = CanWriteFormula vars d a → IsWithinLimits (shape_of (named_formula (outermost vars d) a)) text → FormulaReadsAgain vars d a text
