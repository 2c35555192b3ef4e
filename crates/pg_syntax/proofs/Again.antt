-- What is printed is read again.
use Rattle.std.proofs.Common.{◌≡◌, ℕ, ◌≤◌, List, length, sym, ◌∙◌, ap, subst}
use Rattle.std.specs.Prelude.{Option, None}
use Rattle.std.proofs.lemmas.List.{length-map}
use Rattle.pg_base.specs.Tokens.{lexed}
use Rattle.pg_shape.specs.Symbols.{symbol}
use Rattle.pg_shape.specs.Answers.{limits, Shaped, answer, shape_answer}
use Rattle.pg_logic.specs.Tree.{Tm, Fm}
use Rattle.pg_logic.specs.Declarations.{Name, Declarations, AreDeclared}
use Rattle.pg_grammar.specs.Shapes.{Shape, IsShape, spelled}
use Rattle.pg_grammar.specs.Nesting.{depths, AreWithin}
use Rattle.pg_grammar.specs.Machine.{read}
use Rattle.pg_grammar.specs.Printing.{shape_of}
use Rattle.pg_grammar.proofs.Unique.{spelled-law}
use Rattle.pg_meaning.specs.Scope.{Scope, outermost}
use Rattle.pg_meaning.specs.Faults.{Sort, TermSort, FormulaSort, first_fault}
use Rattle.pg_meaning.specs.Meaning.{term_of, formula_of}
use Rattle.pg_spelling.specs.Named.{named, named_formula}
use Rattle.pg_spelling.specs.Written.{printed, printed_formula}
use Rattle.pg_spelling.specs.Back.{renamed}
use Rattle.pg_spelling.specs.Placed.{placed, AreAlike}
use Rattle.pg_spelling.specs.TextBack.{IsTextOf}
use Rattle.pg_spelling.proofs.Back.{back-law, term-back-law}
use Rattle.pg_spelling.proofs.Unplaced.{place-law}
use Rattle.pg_spelling.proofs.TextBack.{text-law, term-text-law}
use Rattle.pg_syntax.specs.Answers.{Read, faultless, meant}
use Rattle.pg_syntax.specs.ReadBack.{IsWithinLimits, TermComesBack, FormulaComesBack}

-- the printed shape is one, wherever its tokens stand
like-placed : (s : Shape) → AreAlike s (placed 0 s)
like-placed s = place-law.alike s (placed 0 s) (sym (place-law.placed_again 0 s))

-- the tokens of the text are the shape's
read-again : (s : Shape) (text : List ℕ) → IsShape s → IsTextOf s text → IsWithinLimits s text → (end : ℕ) → shape_answer end (lexed text).words ≡ Shaped (placed 0 s)
read-again s text shape is small end =
    let alike : AreAlike s (placed 0 s) = like-placed s in
    let few : length (spelled (placed 0 s)) ≤ limits.tokens = subst (λ n. n ≤ limits.tokens) (sym (length-map (lexed text).words symbol) ∙ ap length is.symbols) small.tokens in
    let low : AreWithin limits.nesting (depths 0 (placed 0 s)) = subst (AreWithin limits.nesting) (alike.nesting 0) small.nesting in
    ap (λ syms. answer end (lexed text).words (read limits syms)) is.symbols
    ∙ ap (answer end (lexed text).words) (spelled-law limits (placed 0 s) (alike.shape shape) low few)

-- what the shape means is read
means-again : {X : Type 0} (c : Scope) (want : Sort) (of : Shape → X) (s : Shape) (x : X) → first_fault c want s ≡ None → of s ≡ x → meant c want of (Shaped s) ≡ Read x
means-again c want of s x none is = ap (λ o. faultless o (of s)) none ∙ ap Read is

pub term-again : (vars : List (Option Name)) (d : Declarations) (t : Tm) (text : List ℕ) → AreDeclared d → text ≡ printed (outermost vars d) t → TermComesBack vars d t text
term-again vars d t text declared e can small =
    let c : Scope = outermost vars d in
    let s : Shape = shape_of (named c t) in
    let back = term-back-law vars d t declared can.reads in
    let is : IsTextOf s text = subst (IsTextOf s) (sym e) (term-text-law vars d t can) in
    let alike : AreAlike s (placed 0 s) = like-placed s in
    record {
      faultless = is.faultless;
      reads =
          ap (meant c TermSort (term_of c)) (read-again s text back.shape is small (length text))
          ∙ means-again c TermSort (term_of c) (placed 0 s) t (alike.faultless c TermSort back.faultless) (sym (alike.term c) ∙ back.means);
    }

pub formula-again : (vars : List (Option Name)) (d : Declarations) (a : Fm) (text : List ℕ) → AreDeclared d → text ≡ printed_formula (outermost vars d) a → FormulaComesBack vars d a text
formula-again vars d a text declared e can small =
    let c : Scope = outermost vars d in
    let s : Shape = shape_of (named_formula c a) in
    let back = back-law vars d a declared can.reads in
    let is : IsTextOf s text = subst (IsTextOf s) (sym e) (text-law vars d a can) in
    let alike : AreAlike s (placed 0 s) = like-placed s in
    record {
      faultless = is.faultless;
      reads =
          ap (meant c FormulaSort (formula_of c)) (read-again s text back.shape is small (length text))
          ∙ means-again c FormulaSort (formula_of c) (placed 0 s) (renamed c a) (alike.faultless c FormulaSort back.faultless) (sym (alike.formula c) ∙ back.means);
      same = back.same;
    }
