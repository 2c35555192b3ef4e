-- Goals: variables and hypotheses with their names, and the target. What is dead keeps its number and is seen no more.
use Rattle.std.specs.Prelude.{ℕ, zero, suc, Bool, true, false, ◌&&◌, List, [], ◌∷◌, ◌++◌, map, position, Option, Some, None, if◌then◌else◌}
use Rattle.std.specs.Str.{bytes_eq}
use Rattle.pg_logic.specs.Tree.{Fm}
use Rattle.pg_logic.specs.Declarations.{Name, Declarations}
use Rattle.pg_meaning.specs.Scope.{Scope, outermost}
use Rattle.pg_spelling.specs.Named.{live}

-- a variable, whose number is its place in the list
pub record Var : Type 0 where
  pub name : Name
  pub live : Bool

-- a hypothesis, whose number is its place in the list
pub record Hyp : Type 0 where
  pub name : Name
  pub formula : Fm
  pub live : Bool

-- under the variables and the hypotheses the target is to be shown
pub record Goal : Type 0 where
  pub vars : List Var
  pub hyps : List Hyp
  pub target : Fm

-- ---- what is seen

-- the name of a live variable
abbrev pub var_name : Var → Option Name
var_name v = if v.live then Some v.name else None

-- the name of a live hypothesis
abbrev pub hyp_name : Hyp → Option Name
hyp_name h = if h.live then Some h.name else None

-- what the variables are called by number, None for a dead one
abbrev pub var_names : Goal → List (Option Name)
var_names g = map var_name g.vars

-- the names that are in use: of the live variables, then of the live hypotheses
abbrev pub live_names : Goal → List Name
live_names g = live (var_names g) ++ live (map hyp_name g.hyps)

-- where the terms and formulas of a script are read
abbrev pub scope : Declarations → Goal → Scope
scope d g = outermost (var_names g) d

-- the number of the live variable of a name, and of the live hypothesis
abbrev pub variable_named : Goal → Name → Option ℕ
variable_named g x = position (λ (v : Var). v.live && bytes_eq x v.name) g.vars

-- the number of the live hypothesis of a name
abbrev pub hypothesis_named : Goal → Name → Option ℕ
hypothesis_named g x = position (λ (h : Hyp). h.live && bytes_eq x h.name) g.hyps

-- ---- changes

-- another target
abbrev pub aimed : Fm → Goal → Goal
aimed a g = record { vars = g.vars; hyps = g.hyps; target = a }

-- a new variable, and a new hypothesis: each stands last
abbrev pub with_var : Name → Goal → Goal
with_var x g = record { vars = g.vars ++ record { name = x; live = true } ∷ []; hyps = g.hyps; target = g.target }

-- a new hypothesis stands last
abbrev pub with_hyp : Name → Fm → Goal → Goal
with_hyp x a g = record { vars = g.vars; hyps = g.hyps ++ record { name = x; formula = a; live = true } ∷ []; target = g.target }

-- number k dies
abbrev pub vars_without : ℕ → List Var → List Var
vars_without k [] = []
vars_without zero (v ∷ vs) = record { name = v.name; live = false } ∷ vs
vars_without (suc k) (v ∷ vs) = v ∷ vars_without k vs

-- the same of hypotheses
abbrev pub hyps_without : ℕ → List Hyp → List Hyp
hyps_without k [] = []
hyps_without zero (h ∷ hs) = record { name = h.name; formula = h.formula; live = false } ∷ hs
hyps_without (suc k) (h ∷ hs) = h ∷ hyps_without k hs

-- variable k dies
abbrev pub without_var : ℕ → Goal → Goal
without_var k g = record { vars = vars_without k g.vars; hyps = g.hyps; target = g.target }

-- hypothesis k dies
abbrev pub without_hyp : ℕ → Goal → Goal
without_hyp k g = record { vars = g.vars; hyps = hyps_without k g.hyps; target = g.target }
