-- How terms and formulas are written in a line of a certificate: without blanks, and without the names of binders.
use Rattle.std.specs.Prelude.{ℕ, List, [], ◌++◌, codes, decimal}
use Rattle.pg_logic.specs.Tree.{Tm, free, bound, nought, succ, app, Tms, none, arg, Fm, falsum, eq, pred, and, or, imp, all, ex}

-- a sign with what stands in its parentheses
abbrev pub around : List ℕ → List ℕ → List ℕ
around sign inner = sign ++ codes "(" ++ inner ++ codes ")"

-- two parts with a comma between them
abbrev pub pair : List ℕ → List ℕ → List ℕ
pair a b = a ++ codes "," ++ b

abbrev mutual
  pub term_text : Tm → List ℕ
  term_text (free i) = codes "v" ++ decimal i
  term_text (bound i) = codes "b" ++ decimal i
  term_text nought = codes "0"
  term_text (succ t) = around (codes "s") (term_text t)
  term_text (app f ts) = around (codes "f" ++ decimal f) (terms_text [] ts)

  -- terms with commas between them, the first behind so much
  pub terms_text : List ℕ → Tms → List ℕ
  terms_text before none = []
  terms_text before (arg t ts) = before ++ term_text t ++ terms_text (codes ",") ts

abbrev pub formula_text : Fm → List ℕ
formula_text falsum = codes "F"
formula_text (eq s t) = around (codes "=") (pair (term_text s) (term_text t))
formula_text (pred p ts) = around (codes "p" ++ decimal p) (terms_text [] ts)
formula_text (and a b) = around (codes "&") (pair (formula_text a) (formula_text b))
formula_text (or a b) = around (codes "|") (pair (formula_text a) (formula_text b))
formula_text (imp a b) = around (codes ">") (pair (formula_text a) (formula_text b))
formula_text (all x a) = around (codes "!") (formula_text a)
formula_text (ex x a) = around (codes "?") (formula_text a)
