-- `rw [r]`, `rw [r] at h`: the equation at the terms of the instance, and the frames.
use Rattle.std.specs.Prelude.{Bool, List, [], ◌∷◌, length, Ok, if◌then◌else◌}
use Rattle.pg_logic.specs.Tree.{Tm, Fm}
use Rattle.pg_logic.specs.Kernel.{Pf, hyp, repl}
use Rattle.pg_moves.specs.Assuming.{Found}
use Rattle.pg_moves.specs.Causes.{Tried, NoInstance, and_then, wanted}
use Rattle.pg_moves.specs.Frames.{Frame, rewrite, cut, flipped}
use Rattle.pg_moves.specs.Instances.{filled, first_instance}
use Rattle.pg_moves.specs.Replaced.{replaced_formula, abstracted_formula}
use Rattle.pg_moves.specs.Rewriting.{Sides, sides, no_binder}
use Rattle.pg_moves.specs.Stripped.{Stripped, fixed, unbound}
use Rattle.pg_rewrites.specs.Taking.{Claim, taken_at}

-- the term that is replaced, the one that stands for it, and a proof of the equation as it was given
pub record Equation : Type 0 where
  pub old : Tm
  pub new : Tm
  pub by : Pf

-- the terms of the first instance
abbrev pub instance_terms : Stripped → Fm → Sides → Tried (List Tm)
instance_terms form subject s = and_then (wanted (first_instance s.old (length form.binders) subject) NoInstance) (fixed form.binders)

-- the terms by which a stripped equation rewrites a formula
abbrev pub rule_terms : Bool → Stripped → Fm → Tried (List Tm)
rule_terms back form subject = and_then (sides back form.rest) (λ s. and_then (no_binder s) (instance_terms form subject))

-- the sides of what is proved
abbrev pub equated : Bool → Fm → Pf → Tried Equation
equated back a p = and_then (sides back a) (λ s. Ok (record { old = s.old; new = s.new; by = p }))

-- the same at terms
abbrev pub equated_at : Bool → Fm → Pf → List Tm → Tried Equation
equated_at back a p ts = let c = taken_at ts a p in equated back c.says c.by

-- the equation by which a formula is rewritten
abbrev pub equation : Bool → Fm → Pf → Fm → Tried Equation
equation back a p subject = and_then (rule_terms back (unbound [] a) subject) (equated_at back a p)

-- the formula rewritten
abbrev pub rewritten_in : Fm → Equation → Fm
rewritten_in subject e = replaced_formula e.old e.new subject

-- the formula with the sides of the equation at these terms exchanged
abbrev pub exchanged_at : List Tm → Fm → Sides → Fm
exchanged_at ts subject z = replaced_formula (filled ts z.old) (filled ts z.new) subject

-- a proof that the new term is the old one, and that the old one is the new one
abbrev pub new_is_old : Bool → Equation → Pf
new_is_old back e = if back then e.by else flipped e.old e.new e.by

-- and that the old one is the new one
abbrev pub old_is_new : Bool → Equation → Pf
old_is_new back e = if back then flipped e.new e.old e.by else e.by

-- the frame of `rw [r]`
abbrev pub rewriting : Bool → Fm → Equation → List Frame
rewriting back subject e = rewrite (abstracted_formula e.old 0 subject) e.new e.old (new_is_old back e) ∷ []

-- what a hypothesis is to say, with its proof
abbrev pub reworded : Bool → Found → Equation → Claim
reworded back f e =
    record { says = rewritten_in f.hyp.formula e; by = repl (abstracted_formula e.old 0 f.hyp.formula) e.old e.new (old_is_new back e) (hyp f.number) }

-- the frame by which a hypothesis says what is proved
abbrev pub cutting : Claim → List Frame
cutting c = cut c.says c.by ∷ []
