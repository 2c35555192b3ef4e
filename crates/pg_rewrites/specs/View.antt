-- What the Rust types of this crate stand for, and what their calls answer.
use Rattle.std.specs.Prelude.{◌≡◌, Option, Some, None}
use Rattle.pg_logic.specs.Declarations.{Name}
use Rattle.pg_terms.specs.View.{term, terms, formula}
use Rattle.pg_kernel.specs.View.{proof}
use Rattle.pg_goal.specs.declared.expression.Given.{Given}
use Rattle.pg_moves.specs.Causes as causes
use Rattle.pg_reduction.specs.View.{cause_of}
use Rattle.pg_reduction.specs.declared.cause.ActFault.{ActFault}
use Rattle.pg_reduction.specs.declared.cause.ActFault.TheVariants.{Stop, OutOfMemory}
use Rattle.pg_rewrites.specs.Applying.{Fit}
use Rattle.pg_rewrites.specs.Rewriting.{Equation}
use Rattle.pg_rewrites.specs.Taking.{Claim}
use Rattle.pg_rewrites.specs.declared.applying.Fit as rust_fit
use Rattle.pg_rewrites.specs.declared.rewriting.Equation as rust_equation

-- what is given
abbrev pub claim : Given → Claim
claim x = record { says = formula x.formula; by = proof x.proof }

-- terms that fit
abbrev pub fit_of : rust_fit.Fit → Fit
fit_of f = record { terms = terms f.terms; steps = f.steps }

-- an equation
abbrev pub equation_of : rust_equation.Equation → Equation
equation_of e = record { old = term e.old; new = term e.new; by = proof e.proof }

-- the cause is that nothing fixes the binder of this name
abbrev pub IsUnfixed : Option Name → ActFault → Type 0
IsUnfixed (Some x) (Stop c) = causes.Undetermined x ≡ cause_of c
IsUnfixed None (Stop c) = ⊥
IsUnfixed o OutOfMemory = Unit {0}
