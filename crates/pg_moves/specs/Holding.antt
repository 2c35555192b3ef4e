-- The variables that formulas hold, and what a variable takes along.
use Rattle.std.specs.Prelude.{ℕ, ◌+◌, Bool, false, ◌&&◌, ◌||◌, List, [], ◌∷◌, map, ◌==◌, if◌then◌else◌}
use Rattle.pg_logic.specs.Tree.{Tm, free, bound, nought, succ, app, Tms, none, arg, Fm, falsum, eq, pred, and, or, imp, all, ex, opened_formula, closed_over_formula}
use Rattle.pg_moves.specs.Goals.{Hyp, Goal, without_var, without_hyp}

abbrev mutual
  pub holds : ℕ → Tm → Bool
  holds k (free i) = i == k
  holds k (bound i) = false
  holds k nought = false
  holds k (succ t) = holds k t
  holds k (app f ts) = hold k ts

  pub hold : ℕ → Tms → Bool
  hold k none = false
  hold k (arg t ts) = holds k t || hold k ts

-- whether a formula holds free variable k
abbrev pub holds_var : ℕ → Fm → Bool
holds_var k falsum = false
holds_var k (eq t u) = holds k t || holds k u
holds_var k (pred p ts) = hold k ts
holds_var k (and a b) = holds_var k a || holds_var k b
holds_var k (or a b) = holds_var k a || holds_var k b
holds_var k (imp a b) = holds_var k a || holds_var k b
holds_var k (all x a) = holds_var k a
holds_var k (ex x a) = holds_var k a

-- a hypothesis by its number
pub record Carried : Type 0 where
  pub number : ℕ
  pub hyp : Hyp

-- the live hypotheses from number i on that hold variable k
abbrev pub carried_from : ℕ → ℕ → List Hyp → List Carried
carried_from k i [] = []
carried_from k i (h ∷ hs) =
    if h.live && holds_var k h.formula then record { number = i; hyp = h } ∷ carried_from k (i + 1) hs else carried_from k (i + 1) hs

-- the live hypotheses that hold variable k
abbrev pub carried : ℕ → Goal → List Carried
carried k g = carried_from k 0 g.hyps

-- these hypotheses die
abbrev pub without_hyps : List Carried → Goal → Goal
without_hyps [] g = g
without_hyps (c ∷ cs) g = without_hyps cs (without_hyp c.number g)

-- the variable dies, and the hypotheses that it takes along
abbrev pub without_held : ℕ → Goal → Goal
without_held k g = without_hyps (carried k g) (without_var k g)

-- the formulas of these hypotheses
abbrev pub formulas_of : List Carried → List Fm
formulas_of cs = map (λ (c : Carried). c.hyp.formula) cs

-- antecedents before a formula
abbrev pub imps : List Fm → Fm → Fm
imps [] a = a
imps (h ∷ hs) a = imp h (imps hs a)

-- the carried hypotheses before a formula
abbrev pub before : List Carried → Fm → Fm
before cs a = imps (formulas_of cs) a

-- a term for variable k
abbrev pub put_for : ℕ → Tm → Fm → Fm
put_for k t a = opened_formula t (closed_over_formula k a)
