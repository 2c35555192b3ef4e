-- `rw` and `apply`: what new goals each makes of a goal.
use Rattle.std.specs.Prelude.{Bool, List, [], ◌∷◌, length, map, Ok, Err, if◌then◌else◌}
use Rattle.pg_base.specs.Tokens.{Word}
use Rattle.pg_logic.specs.Tree.{Tm, bound, Fm, eq, imp}
use Rattle.pg_script.specs.Data.{Expression, Rule}
use Rattle.pg_moves.specs.Goals.{Goal, aimed}
use Rattle.pg_moves.specs.Causes.{Tried, WrongShape, NoInstance, BarePattern, and_then, wanted}
use Rattle.pg_moves.specs.Lookup.{Lookup}
use Rattle.pg_moves.specs.Instances.{filled, filled_formula, formula_instance, first_instance}
use Rattle.pg_moves.specs.Replaced.{replaced_formula}
use Rattle.pg_moves.specs.Stripped.{Stripped, Matched, unbound, fewest, fixed, antecedent_at}
use Rattle.pg_moves.specs.Closing.{given}
use Rattle.pg_moves.specs.Assuming.{hypothesis_there, changed_to}

-- ---- `rw [r]`, `rw [r] at h`

-- the term that is replaced, and the one that stands for it
pub record Sides : Type 0 where
  pub old : Tm
  pub new : Tm

-- the sides of an equation, which `←` swaps
abbrev pub sides : Bool → Fm → Tried Sides
sides back (eq s t) = Ok (if back then record { old = t; new = s } else record { old = s; new = t })
sides back _ = Err WrongShape

-- a binder alone is no pattern
abbrev pub not_bare : Tm → Sides → Tried Sides
not_bare (bound i) s = Err BarePattern
not_bare _ s = Ok s

-- the sides, where the one that is replaced is no binder alone
abbrev pub no_binder : Sides → Tried Sides
no_binder s = not_bare s.old s

-- a formula with every occurrence of the first instance exchanged
abbrev pub exchanged : Stripped → Fm → Sides → Tried Fm
exchanged form subject s =
    and_then (wanted (first_instance s.old (length form.binders) subject) NoInstance) (λ vs. and_then (fixed form.binders vs) (λ ts.
    Ok (replaced_formula (filled ts s.old) (filled ts s.new) subject)))

-- a formula rewritten by a stripped equation
abbrev pub rewritten_by : Bool → Stripped → Fm → Tried Fm
rewritten_by back form subject = and_then (sides back form.rest) (λ s. and_then (no_binder s) (exchanged form subject))

-- a formula rewritten by a rule
abbrev pub rewritten : Lookup → Goal → Rule → Fm → Tried Fm
rewritten l g r subject = and_then (given l g r.expr) (λ a. rewritten_by r.back (unbound [] a) subject)

-- `rw [r]`: the target is rewritten
abbrev pub rewrite : Lookup → Goal → Rule → Tried (List Goal)
rewrite l g r = and_then (rewritten l g r g.target) (λ a. Ok (aimed a g ∷ []))

-- `rw [r] at h`: the hypothesis is rewritten
abbrev pub rewrite_at : Lookup → Goal → Rule → Word → Tried (List Goal)
rewrite_at l g r h = and_then (hypothesis_there g h) (λ f. and_then (rewritten l g r f.hyp.formula) (λ a. Ok (changed_to g f a ∷ [])))

-- ---- `apply e`, `apply e at h`

-- a new goal for each antecedent
abbrev pub applied : Goal → Matched → Tried (List Goal)
applied g m = and_then (fixed m.form.binders m.values) (λ ts. Ok (map (λ h. aimed (antecedent_at ts h) g) m.form.antecedents))

-- `apply e`
abbrev pub apply : Lookup → Goal → Expression → Tried (List Goal)
apply l g e = and_then (given l g e) (λ a. and_then (wanted (fewest a g.target) NoInstance) (applied g))

-- what → gives of a formula that is an instance of its left side
abbrev pub forward : Stripped → Fm → Fm → Tried Fm
forward form (imp a b) subject =
    and_then (wanted (formula_instance a (length form.binders) subject) NoInstance) (λ vs. and_then (fixed form.binders vs) (λ ts. Ok (filled_formula ts b)))
forward form _ subject = Err WrongShape

-- `apply e at h`
abbrev pub apply_at : Lookup → Goal → Expression → Word → Tried (List Goal)
apply_at l g e h =
    and_then (hypothesis_there g h) (λ f. and_then (given l g e) (λ a. and_then (forward (unbound [] a) (unbound [] a).rest f.hyp.formula) (λ b. Ok (changed_to g f b ∷ []))))
