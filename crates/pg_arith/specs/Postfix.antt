-- Terms in postfix form, and how their steps run on a stack of numbers, whose top is the list's end.
use Rattle.std.specs.Prelude.{ℕ, ◌+◌, ◌-◌, List, [], ◌∷◌, ◌++◌, length, take, drop, slice_index}
use Rattle.pg_logic.specs.Tree.{Tm, free, bound, nought, succ, app, Tms, none, arg}
use Rattle.pg_logic.specs.Signature.{count}
use Rattle.pg_logic.specs.Valuing.{Outcome, Got, then_run, within, Runs}
use Rattle.pg_arith.specs.declared.postfix.Step.{Step}
use Rattle.pg_arith.specs.declared.postfix.Step.TheVariants.{Variable, Zero, AddOne, Apply}

-- a term: its parts from left to right, each before what is made of it
abbrev mutual
  pub postfix : Tm → List Step
  postfix (free i) = Variable i ∷ []
  postfix (bound i) = Zero ∷ []
  postfix nought = Zero ∷ []
  postfix (succ t) = postfix t ++ AddOne ∷ []
  postfix (app f ts) = postfix_all ts ++ Apply f (count ts) ∷ []

  pub postfix_all : Tms → List Step
  postfix_all none = []
  postfix_all (arg t ts) = postfix t ++ postfix_all ts

-- a variable and zero are put on top; a successor takes the top number, a function as many as it has arguments, and puts its value there
abbrev pub run_step : Runs → ℕ → List ℕ → Step → List ℕ → ℕ → Outcome (List ℕ)
run_step of limit fr (Variable i) vs left = Got (vs ++ slice_index fr i ∷ []) left
run_step of limit fr Zero vs left = Got (vs ++ 0 ∷ []) left
run_step of limit fr AddOne vs left = then_run (within limit (slice_index vs (length vs - 1) + 1) left) (λ v left. Got (take (length vs - 1) vs ++ v ∷ []) left)
run_step of limit fr (Apply f n) vs left = then_run (of f (drop (length vs - n) vs) left) (λ v left. Got (take (length vs - n) vs ++ v ∷ []) left)

-- steps run one after the other
abbrev pub run_steps : Runs → ℕ → List ℕ → List Step → List ℕ → ℕ → Outcome (List ℕ)
run_steps of limit fr [] vs left = Got vs left
run_steps of limit fr (s ∷ more) vs left = then_run (run_step of limit fr s vs left) (run_steps of limit fr more)
