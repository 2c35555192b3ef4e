-- Of use inside: a pattern and a subject read side by side, with the values of the holes so far.
use Rattle.std.specs.Prelude.{ℕ, ◌+◌, ◌-◌, ◌≡◌, Bool, true, false, List, length, map, Option, Some, None, option_map, option_copied, option_and_then, ◌==◌, nat_lt, slice_get, slice_set, if◌then◌else◌}
use Rattle.std.specs.Borrow.{Bor}
use Rattle.pg_logic.specs.Tree.{Tm, free, bound, nought, succ, app, Tms, none, arg, Fm, falsum, eq, pred, and, or, imp, all, ex, same, is_tight}
use Rattle.pg_terms.specs.declared.term.Term.{Term}
use Rattle.pg_terms.specs.View.{term}
use Rattle.pg_moves.specs.Instances.{Values, values_of}

-- a value that is lent
abbrev pub lend : Option (Bor Term) → Option Tm
lend v = option_map term (option_copied v)

-- values that are lent
abbrev pub lent : List (Option (Bor Term)) → Values
lent vs = map lend vs

-- no values of so many holes
abbrev pub nones : ℕ → Values
nones n = values_of n (λ i. None)

-- the values if the test holds
abbrev pub if_so : Bool → Values → Option Values
if_so b vs = if b then Some vs else None

-- a subject for a hole at this place: its value where it has none yet, if that is closed; else the same as its value
abbrev pub put : Values → ℕ → Option (Option Tm) → Tm → Option Values
put vs at None s = None
put vs at (Some None) s = if_so (is_tight 0 s) (slice_set vs at (Some s))
put vs at (Some (Some t)) s = if_so (same t s) vs

-- a subject for hole i
abbrev pub put_at : Values → ℕ → Tm → Option Values
put_at vs i s = if nat_lt i (length vs) then put vs (length vs - 1 - i) (slice_get vs (length vs - 1 - i)) s else None

-- for a bound variable of a pattern, under d of the pattern's own binders
abbrev pub walk_bound : ℕ → Values → ℕ → Tm → Option Values
walk_bound d vs j s = if nat_lt j d then if_so (same (bound j) s) vs else put_at vs (j - d) s

-- the values after a pattern and a subject; None where they don't fit
abbrev mutual
  pub walk : ℕ → Values → Tm → Tm → Option Values
  walk d vs (bound j) s = walk_bound d vs j s
  walk d vs (free i) (free j) = if_so (i == j) vs
  walk d vs nought nought = Some vs
  walk d vs (succ p) (succ s) = walk d vs p s
  walk d vs (app f ps) (app g ss) = if f == g then walk_all d vs ps ss else None
  walk d vs _ _ = None

  pub walk_all : ℕ → Values → Tms → Tms → Option Values
  walk_all d vs none none = Some vs
  walk_all d vs (arg p ps) (arg s ss) = option_and_then (λ vs. walk_all d vs ps ss) (walk d vs p s)
  walk_all d vs _ _ = None

-- the same of formulas
abbrev pub walk_formula : ℕ → Values → Fm → Fm → Option Values
walk_formula d vs falsum falsum = Some vs
walk_formula d vs (eq p q) (eq s t) = option_and_then (λ vs. walk d vs q t) (walk d vs p s)
walk_formula d vs (pred p ps) (pred q ss) = if p == q then walk_all d vs ps ss else None
walk_formula d vs (and p q) (and a b) = option_and_then (λ vs. walk_formula d vs q b) (walk_formula d vs p a)
walk_formula d vs (or p q) (or a b) = option_and_then (λ vs. walk_formula d vs q b) (walk_formula d vs p a)
walk_formula d vs (imp p q) (imp a b) = option_and_then (λ vs. walk_formula d vs q b) (walk_formula d vs p a)
walk_formula d vs (all x p) (all y a) = walk_formula (d + 1) vs p a
walk_formula d vs (ex x p) (ex y a) = walk_formula (d + 1) vs p a
walk_formula d vs _ _ = None

-- what a walk answers: whether they fit, with the values then
abbrev pub Walked : Option Values → Bool → Values → Type 0
Walked want true new = want ≡ Some new
Walked want false new = want ≡ None
