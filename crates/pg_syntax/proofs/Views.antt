-- What values of the Rust types stand for, a node at a time.
use Rattle.std.proofs.Common.{◌≡◌, ℕ, List, rules}
use Rattle.pg_logic.specs.Tree.{app, pred}
use Rattle.pg_grammar.specs.Shapes as grammar
use Rattle.pg_terms.specs.declared.term.Term.{Term, App as TermApp, the_lemmas as term_lemmas}
use Rattle.pg_terms.specs.declared.formula.Formula.{Pred, the_lemmas as formula_lemmas}
use Rattle.pg_terms.specs.View.{term, args, formula}
use Rattle.pg_shape.specs.declared.shape.Op.{Op}
use Rattle.pg_shape.specs.declared.shape.Quantifier.{Quantifier}
use Rattle.pg_shape.specs.declared.shape.Binders.{Binders}
use Rattle.pg_shape.specs.declared.shape.Shape.{Shape, App, Quant, Binary, the_lemmas as shape_lemmas}
use Rattle.pg_shape.specs.View.{op, quantifier, binders, shape}

pub shape-App : (f s : Shape) → shape (App f s) ≡ grammar.App (shape f) (shape s)
shape-App f s = search (rules, shape_lemmas)

pub shape-Binary : (at : ℕ) (o : Op) (l r : Shape) → shape (Binary at o l r) ≡ grammar.Binary at (op o) (shape l) (shape r)
shape-Binary at o l r = search (rules, shape_lemmas)

pub term-App : (f : ℕ) (ts : List Term) → term (TermApp f ts) ≡ app f (args ts)
term-App f ts = search (rules, term_lemmas)

pub formula-Pred : (p : ℕ) (ts : List Term) → formula (Pred p ts) ≡ pred p (args ts)
formula-Pred p ts = search (rules, formula_lemmas)

pub shape-Quant : (at : ℕ) (q : Quantifier) (b : Binders) (s : Shape) → shape (Quant at q b s) ≡ grammar.Quant at (quantifier q) (binders b) (shape s)
shape-Quant at q b s = search (rules, shape_lemmas)
