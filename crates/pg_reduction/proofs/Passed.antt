-- The first limit that goals with a formula too large pass.
use Rattle.std.proofs.Common.{◌≡◌, ℕ, ◌-◌, ◌^◌, ◌≤◌, List, [], ◌∷◌, ◌++◌, length, map, Bool, true, false, Option, Some, None, refl, arith, ap, sym, ◌∙◌, subst, append_assoc}
use Rattle.std.specs.Prelude.{Ok, min, flat_map, nat_lt, option_map, if◌then◌else◌}
use Rattle.std.specs.Option.{option_or}
use Rattle.std.proofs.lemmas.Bool.{ltb-false}
use Rattle.std.proofs.lemmas.Bool.Decides.{nat_tests}
use Rattle.std.proofs.lemmas.Grind.{flat_map-append}
use Rattle.std.proofs.lemmas.List.Concat.{flat_map-cons}
use Rattle.pg_logic.specs.Tree.{Fm, falsum, nodes_of, height_of}
use Rattle.pg_logic.proofs.Declaring.{map_push}
use Rattle.pg_spelling.specs.Named.{live}
use Rattle.pg_moves.specs.Assuming.{Found, changed_to}
use Rattle.pg_moves.specs.Causes.{Cause, Nodes, Height, Variables, Hypotheses, TooLarge}
use Rattle.pg_moves.specs.Goals.{Goal, Hyp, hyp_name, aimed, hyps_without}
use Rattle.pg_moves.specs.Measures.{over, first_over, formulas, formula_measures, live_vars, live_hyps, goal_measures}
use Rattle.pg_reduction.specs.declared.cause.Cause as rust
use Rattle.pg_reduction.specs.Doing.{StopsWithin}
use Rattle.pg_reduction.specs.Limits.{told, Tells, IsFirst, large_nodes}
use Rattle.pg_reduction.specs.View.{cause_of}
use Rattle.pg_reduction.proofs.Large.{first-append}

pub or-none : (a : Option Cause) → option_or a None ≡ a
or-none None = refl
or-none (Some x) = refl

abbrev pub front : Goal → List Fm → List (Option Cause)
front g hs = over 64 (live_vars g) (TooLarge Variables (live_vars g)) ∷ over 64 (live_hyps g) (TooLarge Hypotheses (live_hyps g)) ∷ flat_map formula_measures hs

-- what is measured before some of the formulas, and then these
pub split : (g : Goal) (hs more : List Fm) → formulas g ≡ hs ++ more → first_over (goal_measures g) ≡ option_or (first_over (front g hs)) (first_over (flat_map formula_measures more))
split g hs more e =
    ap (λ fs. first_over (over 64 (live_vars g) (TooLarge Variables (live_vars g)) ∷ over 64 (live_hyps g) (TooLarge Hypotheses (live_hyps g)) ∷ flat_map formula_measures fs)) e
    ∙ ap (λ ms. first_over (over 64 (live_vars g) (TooLarge Variables (live_vars g)) ∷ over 64 (live_hyps g) (TooLarge Hypotheses (live_hyps g)) ∷ ms)) (flat_map-append formula_measures hs more)
    ∙ first-append (front g hs) (flat_map formula_measures more)

-- ---- a limit that one formula passes

-- the first limit that formulas pass
abbrev pub passed : List Fm → Option Cause
passed cs = first_over (flat_map formula_measures cs)

pub large : (a : Fm) (rest : List Fm) → first_over (flat_map formula_measures (a ∷ rest)) ≡ option_or (first_over (formula_measures a)) (first_over (flat_map formula_measures rest))
large a rest = ap first_over (flat_map-cons formula_measures a rest) ∙ first-append (formula_measures a) (flat_map formula_measures rest)

limit-told : (pre here more : Option Cause) (limit first : rust.Cause) → Tells here (Some limit) → IsFirst (option_or pre None) limit first → option_map told (option_or pre (option_or here more)) ≡ Some (cause_of first)
limit-told None None more limit first t is = absurd (cc)
limit-told None (Some y) more limit first t is = sym t ∙ ap (λ c. Some (cause_of c)) (sym is)
limit-told (Some x) here more limit first t is = ap Some is

-- where the goal and a small one are measured alike before the formula
limit : (small g : Goal) (hs none rest : List Fm) (a : Fm) (limit first : rust.Cause) → live_vars small ≡ live_vars g → live_hyps small ≡ live_hyps g → formulas small ≡ hs ++ none → formulas g ≡ hs ++ a ∷ rest →
    first_over (flat_map formula_measures none) ≡ None → Tells (first_over (formula_measures a)) (Some limit) → IsFirst (first_over (goal_measures small)) limit first → StopsWithin (Ok (g ∷ [])) first
limit small g hs none rest a lim first ev eh es eg en t is =
    let fronts : first_over (front small hs) ≡ first_over (front g hs) =
    ap (λ v. first_over (over 64 v (TooLarge Variables v) ∷ over 64 (live_hyps small) (TooLarge Hypotheses (live_hyps small)) ∷ flat_map formula_measures hs)) ev
    ∙ ap (λ k. first_over (over 64 (live_vars g) (TooLarge Variables (live_vars g)) ∷ over 64 k (TooLarge Hypotheses k) ∷ flat_map formula_measures hs)) eh in
    let small-is : first_over (goal_measures small) ≡ option_or (first_over (front g hs)) None = split small hs none es ∙ ap (option_or (first_over (front small hs))) en ∙ ap (λ o. option_or o None) fronts in
    ap (λ ms. option_map told (first_over ms)) (flat_map-cons goal_measures g []) ∙ ap (option_map told) (first-append (goal_measures g) [] ∙ or-none (first_over (goal_measures g)))
    ∙ ap (option_map told) (split g hs (a ∷ rest) eg ∙ ap (option_or (first_over (front g hs))) (large a rest))
    ∙ limit-told (first_over (front g hs)) (first_over (formula_measures a)) (first_over (flat_map formula_measures rest)) lim first t (subst (λ o. IsFirst o lim first) small-is is)

-- the target is too large
pub limit-target : (g : Goal) (a : Fm) (lim first : rust.Cause) → Tells (first_over (formula_measures a)) (Some lim) → IsFirst (first_over (goal_measures (aimed falsum g))) lim first → StopsWithin (Ok (aimed a g ∷ [])) first
limit-target g a lim first t is = limit (aimed falsum g) (aimed a g) (map (λ (h : Hyp). h.formula) g.hyps) (falsum ∷ []) [] a lim first refl refl refl refl refl t is

-- the last hypothesis is too large
pub limit-hypothesis : (g : Goal) (f : Found) (a : Fm) (lim first : rust.Cause) → Tells (first_over (formula_measures a)) (Some lim) →
    IsFirst (first_over (goal_measures (aimed falsum (changed_to g f falsum)))) lim first → StopsWithin (Ok (changed_to g f a ∷ [])) first
limit-hypothesis g f a lim first t is =
    limit (aimed falsum (changed_to g f falsum)) (changed_to g f a) (map formula-of hs) (falsum ∷ falsum ∷ []) (g.target ∷ []) a lim first refl
    (ap (λ l. length (live l)) (map_push hyp_name hs (new falsum)) ∙ sym (ap (λ l. length (live l)) (map_push hyp_name hs (new a))))
    (pushed falsum falsum) (pushed a g.target) refl t is
  where
    hs : List Hyp
    hs = hyps_without f.number g.hyps

    formula-of : Hyp → Fm
    formula-of h = h.formula

    new : Fm → Hyp
    new a = record { name = f.hyp.name; formula = a; live = true }

    pushed : (a t : Fm) → map (λ (h : Hyp). h.formula) (hyps_without f.number g.hyps ++ record { name = f.hyp.name; formula = a; live = true } ∷ []) ++ t ∷ [] ≡ map formula-of hs ++ a ∷ t ∷ []
    pushed a t = ap (λ l. l ++ t ∷ []) (map_push (λ (h : Hyp). h.formula) hs (new a)) ∙ append_assoc (map formula-of hs) (a ∷ []) (t ∷ [])

-- ---- no limit

over-none : (n : ℕ) (c : Cause) → None ≡ option_map told (over 4096 n c) → n ≤ 4096
over-none n c e = go (nat_lt 4096 n) refl e
  where
    go : (b : Bool) → nat_lt 4096 n ≡ b → None ≡ option_map told (if b then Some c else None) → n ≤ 4096
    go true is e = absurd (cc)
    go false is e = ltb-false 4096 n is

over-some : (n : ℕ) (c : Cause) (rest : List (Option Cause)) (x : rust.Cause) → Tells (over 4096 n c) (Some x) → Tells (first_over (over 4096 n c ∷ rest)) (Some x)
over-some n c rest x t = go (over 4096 n c) t
  where
    go : (o : Option Cause) → Tells o (Some x) → Tells (first_over (o ∷ rest)) (Some x)
    go None t = absurd (cc)
    go (Some y) t = t

pub none-of : (a b : Option Cause) → None ≡ option_map told (option_or a b) → (None ≡ option_map told a) × (None ≡ option_map told b)
none-of None b e = (refl, e)
none-of (Some x) b e = absurd (cc)

pub few-nodes : (a : Fm) → None ≡ option_map told (first_over (formula_measures a)) → nodes_of a ≤ 4096
few-nodes a e = over-none (nodes_of a) nodes ((none-of (over 4096 (nodes_of a) nodes) (first_over more) (e ∙ ap (option_map told) (first-append (over 4096 (nodes_of a) nodes ∷ []) more ∙ ap (λ o. option_or o (first_over more)) (one-over (over 4096 (nodes_of a) nodes))))).0)
  where
    nodes : Cause
    nodes = TooLarge Nodes (nodes_of a)

    more : List (Option Cause)
    more = over 256 (height_of a) (TooLarge Height (height_of a)) ∷ []

    one-over : (o : Option Cause) → first_over (o ∷ []) ≡ o
    one-over None = refl
    one-over (Some x) = refl

-- what a count tells of a formula that isn't made
pub count-told : (a : Fm) (n : ℕ) (o : Option rust.Cause) → n ≡ min (nodes_of a) (2 ^ 64 - 1) → option_map cause_of o ≡ over 4096 n (TooLarge Nodes n) → Tells (large_nodes a) o
count-told a n o e t = t ∙ ap (λ n. over 4096 n (TooLarge Nodes n)) e ∙ same (nat_lt 4096 (min (nodes_of a) (2 ^ 64 - 1))) (nat_lt 4096 (nodes_of a)) (counts (nodes_of a))
  where
    counts : (n : ℕ) → nat_lt 4096 (min n (2 ^ 64 - 1)) ≡ nat_lt 4096 n
    counts n = grind (arith, nat_tests)

    same : (b c : Bool) → b ≡ c → (if b then Some (TooLarge Nodes (min (nodes_of a) (2 ^ 64 - 1))) else None) ≡ option_map told (if c then Some (TooLarge Nodes (nodes_of a)) else None)
    same true true e = refl
    same false false e = refl
    same true false e = absurd (cc)
    same false true e = absurd (cc)

pub count-large : (a : Fm) (o : Option rust.Cause) (x : rust.Cause) → o ≡ Some x → Tells (large_nodes a) o → Tells (first_over (formula_measures a)) (Some x)
count-large a o x is t = over-some (nodes_of a) (TooLarge Nodes (nodes_of a)) (over 256 (height_of a) (TooLarge Height (height_of a)) ∷ []) x (ap (option_map cause_of) (sym is) ∙ t)

pub count-small : (a : Fm) (o : Option rust.Cause) → o ≡ None → Tells (large_nodes a) o → nodes_of a ≤ 4096
count-small a o is t = over-none (nodes_of a) (TooLarge Nodes (nodes_of a)) (ap (option_map cause_of) (sym is) ∙ t)

pub limit-small : (a : Fm) (o : Option rust.Cause) → o ≡ None → Tells (first_over (formula_measures a)) o → nodes_of a ≤ 4096
limit-small a o is t = few-nodes a (ap (option_map cause_of) (sym is) ∙ t)
