-- Lists of arguments, of declarations and of numbers, a piece at a time.
use Rattle.std.proofs.Common.{◌≡◌, ℕ, ◌+◌, ◌-◌, ◌<◌, List, [], ◌∷◌, ◌++◌, length, zero, get_or, drop, take, suc, refl, arith, ap, ◌∙◌, sym, append-nil, length-append}
use Rattle.std.specs.Option.{option_or}
use Rattle.std.proofs.lemmas.List.Folds.{list_any-append}
use Rattle.std.proofs.lemmas.Option.{slice_get-map}
use Rattle.pg_logic.specs.Tree.{Tm, bound, Fm, all}
use Rattle.pg_logic.specs.Signature.{count}
use Rattle.pg_logic.specs.Axioms.{quantified, binders}
use Rattle.pg_logic.specs.Declarations.{Name, first}
use Rattle.pg_terms.specs.declared.term.Term.{Term}
use Rattle.pg_terms.specs.View.{args}

pub count_args : (ts : List Term) → count (args ts) ≡ length ts
count_args [] = refl
count_args (t ∷ ts) = omega (arith, count_args ts)

pub ruleset reads = (count_args, slice_get-map)

-- the first number of two lists
pub first-append : (xs ys : List ℕ) → first (xs ++ ys) ≡ option_or (first xs) (first ys)
first-append [] ys = refl
first-append (x ∷ xs) ys = refl

pub ruleset firsts = (first-append)

pub ruleset names = (list_any-append)

pub ruleset ends = (append-nil)

take_all : (names : List Name) → take (length names) names ≡ names
take_all [] = refl
take_all (n ∷ ns) = ap (λ l. n ∷ l) (take_all ns)

-- the outermost quantifier
pub quantified_first : (names : List Name) (x y : Name) (a : Fm) → 0 < length names → x ≡ y → y ≡ get_or names 0 y → quantified names a ≡ all x (quantified (take (length names - 1) (drop 1 names)) a)
quantified_first [] x y a lt e is = absurd (omega arith)
quantified_first (n ∷ ns) x y a lt e is =
    let long : suc (length ns) - 1 ≡ length ns = omega arith in
    ap (λ n. all n (quantified ns a)) (sym (e ∙ is)) ∙ ap (λ l. all x (quantified l a)) (sym (ap (λ k. take k ns) long ∙ take_all ns))

length_binders : (n : ℕ) → length (binders n) ≡ n
length_binders zero = refl
length_binders (suc n) = ap suc (length_binders n)

take_front : (ts us : List Tm) → take (length ts) (ts ++ us) ≡ ts
take_front [] us = refl
take_front (t ∷ ts) us = ap (λ l. t ∷ l) (take_front ts us)

-- the variables but the innermost
pub binders_front : (n : ℕ) (ts : List Tm) → ts ++ bound 0 ∷ [] ≡ binders n → ts ≡ take (n - 1) (binders n)
binders_front n ts e =
    let long : length ts ≡ n - 1 = omega (arith, length-append ts (bound 0 ∷ []), ap length e, length_binders n) in
    sym (take_front ts (bound 0 ∷ [])) ∙ ap (take (length ts)) e ∙ ap (λ k. take k (binders n)) long
