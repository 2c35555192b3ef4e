-- A formula with leading binders and antecedents taken off.
use Rattle.std.specs.Prelude.{ℕ, List, [], ◌∷◌, ◌++◌, length, take, Option, Some, None, Ok, Err}
use Rattle.pg_logic.specs.Tree.{Tm, Fm, imp, all}
use Rattle.pg_logic.specs.Declarations.{Name}
use Rattle.pg_moves.specs.Causes.{Tried, Undetermined, and_then}
use Rattle.pg_moves.specs.Instances.{Values, filled_formula, formula_instance, first_found}

-- an antecedent, and how many binders stood before it
pub record Antecedent : Type 0 where
  pub binders : ℕ
  pub formula : Fm

-- the names of the binders, the outermost first; the antecedents in order; what is left
pub record Stripped : Type 0 where
  pub binders : List Name
  pub antecedents : List Antecedent
  pub rest : Fm

-- a formula so stripped
abbrev pub stripped : List Name → List Antecedent → Fm → Stripped
stripped xs hs a = record { binders = xs; antecedents = hs; rest = a }

-- all ways to strip a formula, the fewest first, behind what is stripped before
abbrev pub strippings : List Name → List Antecedent → Fm → List Stripped
strippings xs hs (all x a) = stripped xs hs (all x a) ∷ strippings (xs ++ x ∷ []) hs a
strippings xs hs (imp a b) = stripped xs hs (imp a b) ∷ strippings xs (hs ++ record { binders = length xs; formula = a } ∷ []) b
strippings xs hs a = stripped xs hs a ∷ []

-- all leading binders taken off
abbrev pub unbound : List Name → Fm → Stripped
unbound xs (all x a) = unbound (xs ++ x ∷ []) a
unbound xs a = stripped xs [] a

-- ---- with the values of an instance

-- a stripped formula with the values of its binders
pub record Matched : Type 0 where
  pub form : Stripped
  pub values : Values

-- the same, where there are values
abbrev pub with_values : Stripped → Option Values → Option Matched
with_values s None = None
with_values s (Some vs) = Some (record { form = s; values = vs })

-- the fewest are stripped whose rest has the formula as an instance
abbrev pub fewest : Fm → Fm → Option Matched
fewest a subject = first_found (λ (s : Stripped). with_values s (formula_instance s.rest (length s.binders) subject)) (strippings [] [] a)

-- the values, each of which is fixed; else the first binder that isn't
abbrev pub fixed : List Name → Values → Tried (List Tm)
fixed xs [] = Ok []
fixed [] (v ∷ vs) = Ok []
fixed (x ∷ xs) (None ∷ vs) = Err (Undetermined x)
fixed (x ∷ xs) (Some t ∷ vs) = and_then (fixed xs vs) (λ ts. Ok (t ∷ ts))

-- an antecedent with the values of the binders before it
abbrev pub antecedent_at : List Tm → Antecedent → Fm
antecedent_at ts h = filled_formula (take h.binders ts) h.formula
