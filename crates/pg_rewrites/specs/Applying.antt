-- `apply e`, `apply e at h`: the terms for the binders that are stripped, and the frames.
use Rattle.std.specs.Prelude.{◌≡◌, ℕ, suc, ◌+◌, List, [], ◌∷◌, ◌++◌, map, length, Result, Ok, Err}
use Rattle.pg_logic.specs.Tree.{Tm, Fm, imp, all, opened_formula}
use Rattle.pg_logic.specs.Kernel.{Pf, hyp, impe}
use Rattle.pg_moves.specs.Assuming.{Found}
use Rattle.pg_moves.specs.Causes.{Tried, WrongShape, NoInstance, and_then, wanted}
use Rattle.pg_moves.specs.Frames.{Stage, for_all, where_so, asked, applied}
use Rattle.pg_moves.specs.Goals.{Goal, aimed}
use Rattle.pg_moves.specs.Instances.{AreTight, filled_formula, formula_instance}
use Rattle.pg_moves.specs.Stripped.{Stripped, Matched, fewest, fixed, unbound}
use Rattle.pg_reduction.specs.declared.cause.ActFault.{ActFault}
use Rattle.pg_reduction.specs.declared.cause.ActFault.TheVariants.{Stop, OutOfMemory}
use Rattle.pg_reduction.specs.declared.reduction.Reduction.{Reduction}
use Rattle.pg_reduction.specs.Doing.{Has, StopsWithin}
use Rattle.pg_rewrites.specs.Taking.{Claim, taken_at}

-- ---- `apply e`

-- terms for the binders that are stripped, and how many binders and antecedents are
pub record Fit : Type 0 where
  pub terms : List Tm
  pub steps : ℕ

-- how many binders and antecedents are stripped
abbrev pub steps_of : Stripped → ℕ
steps_of s = length s.binders + length s.antecedents

-- each of the stripped binders has a term
abbrev pub fitted : Matched → Tried Fit
fitted m = and_then (fixed m.form.binders m.values) (λ ts. Ok (record { terms = ts; steps = steps_of m.form }))

-- the fewest binders and antecedents are stripped whose rest has the formula as an instance
abbrev pub fit : Fm → Fm → Tried Fit
fit a subject = and_then (wanted (fewest a subject) NoInstance) fitted

-- so many binders and antecedents taken off, where the binders take these terms
abbrev pub stages : ℕ → List Tm → Fm → List Stage
stages (suc k) ts (imp a b) = where_so a ∷ stages k ts b
stages (suc k) (t ∷ ts) (all x a) = for_all a t ∷ stages k ts (opened_formula t a)
stages k ts a = []

-- The antecedents among so many that are taken off, each with the terms of the binders before it: these for the binders
-- that are taken off before, and those for the next ones.
abbrev pub antecedents : ℕ → (before after : List Tm) → Fm → List Fm
antecedents (suc k) before after (imp a b) = filled_formula before a ∷ antecedents k before after b
antecedents (suc k) before (t ∷ after) (all x a) = antecedents k (before ++ t ∷ []) after a
antecedents k before after a = []

-- No term holds a bound variable, and what is taken off asks for the antecedents at the terms.
pub record Asks (f : Fit) (a : Fm) : Type 0 where
  pub tight : AreTight f.terms
  pub asked : asked (stages f.steps f.terms a) ≡ antecedents f.steps [] f.terms a

-- a goal for each antecedent
abbrev pub asking : Goal → List Stage → List Goal
asking g st = map (λ a. aimed a g) (asked st)

-- the antecedents' goals with the frame, or the first limit that they pass
abbrev pub Applies : Goal → Fit → Fm → Pf → Result Reduction ActFault → Type 0
Applies g f a p (Ok r) = Has (asking g (stages f.steps f.terms a)) (applied (stages f.steps f.terms a) p ∷ []) r
Applies g f a p (Err (Stop c)) = StopsWithin (Ok (asking g (stages f.steps f.terms a))) c
Applies g f a p (Err OutOfMemory) = Unit {0}

-- ---- `apply e at h`

-- the terms by which a formula is the left side of a stripped implication
abbrev pub forward_terms : Stripped → Fm → Fm → Tried (List Tm)
forward_terms form (imp a b) subject = and_then (wanted (formula_instance a (length form.binders) subject) NoInstance) (fixed form.binders)
forward_terms form _ subject = Err WrongShape

-- the right side, by a proof of the implication and the hypothesis
abbrev pub detached : Found → Fm → Pf → Tried Claim
detached f (imp a b) p = Ok (record { says = b; by = impe f.hyp.formula p (hyp f.number) })
detached f _ p = Err WrongShape

-- the same at terms
abbrev pub detached_at : Found → Fm → Pf → List Tm → Tried Claim
detached_at f a p ts = let c = taken_at ts a p in detached f c.says c.by

-- what the hypothesis is to say, with its proof
abbrev pub forwarded : Found → Fm → Pf → Tried Claim
forwarded f a p = let form = unbound [] a in and_then (forward_terms form form.rest f.hyp.formula) (detached_at f a p)
