-- Every occurrence of a term exchanged, under binders too.
use Rattle.std.specs.Prelude.{ℕ, ◌+◌, if◌then◌else◌}
use Rattle.pg_logic.specs.Tree.{Tm, free, bound, nought, succ, app, Tms, none, arg, same, Fm, falsum, eq, pred, and, or, imp, all, ex}

-- the new term for the old one
abbrev mutual
  pub replaced : Tm → Tm → Tm → Tm
  replaced old new (free i) = if same (free i) old then new else free i
  replaced old new (bound i) = if same (bound i) old then new else bound i
  replaced old new nought = if same nought old then new else nought
  replaced old new (succ t) = if same (succ t) old then new else succ (replaced old new t)
  replaced old new (app f ts) = if same (app f ts) old then new else app f (replaced_all old new ts)

  pub replaced_all : Tm → Tm → Tms → Tms
  replaced_all old new none = none
  replaced_all old new (arg t ts) = arg (replaced old new t) (replaced_all old new ts)

-- the same in a formula
abbrev pub replaced_formula : Tm → Tm → Fm → Fm
replaced_formula old new falsum = falsum
replaced_formula old new (eq t u) = eq (replaced old new t) (replaced old new u)
replaced_formula old new (pred p ts) = pred p (replaced_all old new ts)
replaced_formula old new (and a b) = and (replaced_formula old new a) (replaced_formula old new b)
replaced_formula old new (or a b) = or (replaced_formula old new a) (replaced_formula old new b)
replaced_formula old new (imp a b) = imp (replaced_formula old new a) (replaced_formula old new b)
replaced_formula old new (all x a) = all x (replaced_formula old new a)
replaced_formula old new (ex x a) = ex x (replaced_formula old new a)

-- the old term becomes the loose bound variable 0
abbrev mutual
  pub abstracted : Tm → ℕ → Tm → Tm
  abstracted old d (free i) = if same (free i) old then bound d else free i
  abstracted old d (bound i) = if same (bound i) old then bound d else bound i
  abstracted old d nought = if same nought old then bound d else nought
  abstracted old d (succ t) = if same (succ t) old then bound d else succ (abstracted old d t)
  abstracted old d (app f ts) = if same (app f ts) old then bound d else app f (abstracted_all old d ts)

  pub abstracted_all : Tm → ℕ → Tms → Tms
  abstracted_all old d none = none
  abstracted_all old d (arg t ts) = arg (abstracted old d t) (abstracted_all old d ts)

-- the same in a formula
abbrev pub abstracted_formula : Tm → ℕ → Fm → Fm
abstracted_formula old d falsum = falsum
abstracted_formula old d (eq t u) = eq (abstracted old d t) (abstracted old d u)
abstracted_formula old d (pred p ts) = pred p (abstracted_all old d ts)
abstracted_formula old d (and a b) = and (abstracted_formula old d a) (abstracted_formula old d b)
abstracted_formula old d (or a b) = or (abstracted_formula old d a) (abstracted_formula old d b)
abstracted_formula old d (imp a b) = imp (abstracted_formula old d a) (abstracted_formula old d b)
abstracted_formula old d (all x a) = all x (abstracted_formula old (d + 1) a)
abstracted_formula old d (ex x a) = ex x (abstracted_formula old (d + 1) a)
