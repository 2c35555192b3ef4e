-- Instances of patterns: a pattern's loose bound variables are its holes, which values fill.
use Rattle.std.specs.Prelude.{◌≡◌, length, ℕ, zero, suc, ◌+◌, Bool, true, false, ◌&&◌, ◌||◌, List, All, [], ◌∷◌, ◌++◌, map, Option, Some, None, ◌==◌, unwrap_or, if◌then◌else◌}
use Rattle.std.specs.Option.{option_or}
use Rattle.std.specs.List.{list_all}
use Rattle.pg_logic.specs.Tree.{Tm, bound, nought, succ, app, Tms, none, arg, Fm, falsum, eq, pred, and, or, imp, all, ex, same, same_formula, opened, opened_formula, is_tight}

-- the values of the holes, that of the outermost binder first; None for a hole that the pattern does not have
abbrev pub Values : Type 0
Values = List (Option Tm)

-- ---- patterns with terms in their holes

-- The terms stand the outermost binder first. A pattern is opened by the last of them, then by the one before it.
-- a term with its holes filled
abbrev pub filled : List Tm → Tm → Tm
filled [] t = t
filled (v ∷ vs) t = opened v (filled vs t)

-- a formula with its holes filled
abbrev pub filled_formula : List Tm → Fm → Fm
filled_formula [] a = a
filled_formula (v ∷ vs) a = opened_formula v (filled_formula vs a)

-- ---- the values of holes

-- what stands in the subject where the pattern has its hole i for the first time
abbrev mutual
  pub standing : ℕ → Tm → Tm → Option Tm
  standing i (bound j) s = if i == j then Some s else None
  standing i (succ p) (succ s) = standing i p s
  standing i (app f ps) (app g ss) = standing_in i ps ss
  standing i _ _ = None

  pub standing_in : ℕ → Tms → Tms → Option Tm
  standing_in i (arg p ps) (arg s ss) = option_or (standing i p s) (standing_in i ps ss)
  standing_in i _ _ = None

-- the same in a formula; under a binder the hole has the next number
abbrev pub standing_formula : ℕ → Fm → Fm → Option Tm
standing_formula i (eq p q) (eq s t) = option_or (standing i p s) (standing i q t)
standing_formula i (pred p ps) (pred q ss) = standing_in i ps ss
standing_formula i (and p q) (and a b) = option_or (standing_formula i p a) (standing_formula i q b)
standing_formula i (or p q) (or a b) = option_or (standing_formula i p a) (standing_formula i q b)
standing_formula i (imp p q) (imp a b) = option_or (standing_formula i p a) (standing_formula i q b)
standing_formula i (all x p) (all y a) = standing_formula (i + 1) p a
standing_formula i (ex x p) (ex y a) = standing_formula (i + 1) p a
standing_formula i _ _ = None

-- the values of so many holes, the outermost first
abbrev pub values_of : ℕ → (ℕ → Option Tm) → Values
values_of zero value = []
values_of (suc n) value = value n ∷ values_of n value

-- a hole that the pattern hasn't may be filled with anything
abbrev pub terms_of : Values → List Tm
terms_of vs = map (λ v. unwrap_or v nought) vs

-- whether a value holds no bound variable
abbrev pub is_closed : Option Tm → Bool
is_closed None = true
is_closed (Some t) = is_tight 0 t

-- ---- instances

-- The subject is an instance where these values make it of the pattern, and none of them holds a variable that is
-- bound in the subject.
abbrev pub term_instance : Tm → ℕ → Tm → Option Values
term_instance pattern holes subject =
    let vs = values_of holes (λ i. standing i pattern subject) in
    if list_all is_closed vs && same (filled (terms_of vs) pattern) subject then Some vs else None

-- The same of formulas, up to the names of binders.
abbrev pub formula_instance : Fm → ℕ → Fm → Option Values
formula_instance pattern holes subject =
    let vs = values_of holes (λ i. standing_formula i pattern subject) in
    if list_all is_closed vs && same_formula (filled_formula (terms_of vs) pattern) subject then Some vs else None

-- the subterms in preorder
abbrev mutual
  pub subterms : Tm → List Tm
  subterms (succ t) = succ t ∷ subterms t
  subterms (app f ts) = app f ts ∷ subterms_in ts
  subterms t = t ∷ []

  pub subterms_in : Tms → List Tm
  subterms_in none = []
  subterms_in (arg t ts) = subterms t ++ subterms_in ts

-- the subterms of a formula in preorder
abbrev pub subterms_of : Fm → List Tm
subterms_of falsum = []
subterms_of (eq s t) = subterms s ++ subterms t
subterms_of (pred p ts) = subterms_in ts
subterms_of (and a b) = subterms_of a ++ subterms_of b
subterms_of (or a b) = subterms_of a ++ subterms_of b
subterms_of (imp a b) = subterms_of a ++ subterms_of b
subterms_of (all x a) = subterms_of a
subterms_of (ex x a) = subterms_of a

-- the first that is there
abbrev pub first_found : {X Y : Type 0} → (X → Option Y) → List X → Option Y
first_found look [] = None
first_found look (x ∷ xs) = elim (look x) [ Some y ↦ Some y | None ↦ first_found look xs ]

-- the instance of least preorder place
abbrev pub first_instance : Tm → ℕ → Fm → Option Values
first_instance pattern holes within = first_found (term_instance pattern holes) (subterms_of within)

-- ---- the same told without finding the values

-- whether hole i stands in a pattern
abbrev mutual
  pub has_hole : ℕ → Tm → Bool
  has_hole i (bound j) = i == j
  has_hole i (succ p) = has_hole i p
  has_hole i (app f ps) = have_hole i ps
  has_hole i _ = false

  pub have_hole : ℕ → Tms → Bool
  have_hole i none = false
  have_hole i (arg p ps) = has_hole i p || have_hole i ps

-- the same in a formula; under a binder the hole has the next number
abbrev pub has_hole_formula : ℕ → Fm → Bool
has_hole_formula i falsum = false
has_hole_formula i (eq p q) = has_hole i p || has_hole i q
has_hole_formula i (pred p ps) = have_hole i ps
has_hole_formula i (and p q) = has_hole_formula i p || has_hole_formula i q
has_hole_formula i (or p q) = has_hole_formula i p || has_hole_formula i q
has_hole_formula i (imp p q) = has_hole_formula i p || has_hole_formula i q
has_hole_formula i (all x p) = has_hole_formula (i + 1) p
has_hole_formula i (ex x p) = has_hole_formula (i + 1) p

-- terms as values of the holes that there are, the outermost first
abbrev pub values_for : (ℕ → Bool) → List Tm → Values
values_for has [] = []
values_for has (t ∷ ts) = (if has (length ts) then Some t else None) ∷ values_for has ts

-- none of the terms holds a bound variable
abbrev pub AreTight : List Tm → Type 0
AreTight ts = All (λ t. is_tight 0 t ≡ true) ts

-- so many terms that turn the pattern into the subject
abbrev pub MakesTerm : Tm → ℕ → Tm → List Tm → Type 0
MakesTerm pattern holes subject ts = (length ts ≡ holes) × AreTight ts × (filled ts pattern ≡ subject)

-- the same of formulas, up to the names of binders
abbrev pub MakesFormula : Fm → ℕ → Fm → List Tm → Type 0
MakesFormula pattern holes subject ts = (length ts ≡ holes) × AreTight ts × (same_formula (filled_formula ts pattern) subject ≡ true)
