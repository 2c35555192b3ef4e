-- The binders that are stripped are the first ones, and what is left has no other loose bound variable.
use Rattle.std.proofs.Common.{◌≡◌, ◌≤◌, ◌<◌, ℕ, zero, suc, ◌+◌, List, [], ◌∷◌, ◌++◌, length, take, true, Some, None, refl, arith, ap, sym, ◌∙◌, subst, append_assoc, length-append}
use Rattle.std.specs.Prelude.{Option, Ok, Err, slice_get}
use Rattle.pg_logic.specs.Tree.{Fm, falsum, eq, pred, and, or, imp, all, ex, is_tight_formula, nodes_of}
use Rattle.pg_logic.specs.Declarations.{Name}
use Rattle.pg_terms.specs.View.{terms}
use Rattle.pg_moves.specs.Instances.{Values}
use Rattle.pg_moves.specs.Stripped.{unbound, fixed}
use Rattle.pg_match.specs.Answers.{Determines}
use Rattle.pg_match.specs.declared.fault.MatchFault.{MatchFault}
use Rattle.pg_match.specs.declared.fault.MatchFault.TheVariants as fault
use Rattle.pg_reduction.specs.declared.cause.ActFault.{ActFault}
use Rattle.pg_reduction.specs.declared.cause.ActFault.TheVariants.{Stop, OutOfMemory}
use Rattle.pg_reduction.specs.Doing.{Yields}
use Rattle.pg_reduction.specs.View.{cause_of}
use Rattle.pg_rewrites.specs.Taking.{binder_names}
use Rattle.pg_rewrites.specs.View.{IsUnfixed}

-- ---- the first names of a list

pub take-front : {X : Type 0} (xs ys : List X) → take (length xs) (xs ++ ys) ≡ xs
take-front [] ys = refl
take-front (x ∷ xs) ys = ap (λ l. x ∷ l) (take-front xs ys)

pub length-front : {X : Type 0} (xs ys zs : List X) → xs ++ ys ≡ zs → length xs ≤ length zs
length-front xs ys zs e = omega (arith, length-append xs ys, ap length e)

pub front-is : {X : Type 0} (xs ys zs : List X) → xs ++ ys ≡ zs → take (length xs) zs ≡ xs
front-is xs ys zs e = ap (take (length xs)) (sym e) ∙ take-front xs ys

length-take : {X : Type 0} (n : ℕ) (xs : List X) → n ≤ length xs → length (take n xs) ≡ n
length-take zero xs h = refl
length-take (suc n) [] h = absurd (omega (arith, h))
length-take (suc n) (x ∷ xs) h = ap suc (length-take n xs (omega (arith, h)))

get-take : {X : Type 0} (n : ℕ) (xs : List X) (i : ℕ) → i < n → slice_get (take n xs) i ≡ slice_get xs i
get-take zero xs i h = absurd (omega (arith, h))
get-take (suc n) [] i h = refl
get-take (suc n) (x ∷ xs) zero h = refl
get-take (suc n) (x ∷ xs) (suc i) h = get-take n xs i (omega (arith, h))

pub names-nodes : (a : Fm) → length (binder_names a) < nodes_of a
names-nodes falsum = omega arith
names-nodes (eq t u) = omega arith
names-nodes (pred p ts) = omega arith
names-nodes (and a b) = omega arith
names-nodes (or a b) = omega arith
names-nodes (imp a b) = omega (arith, names-nodes b)
names-nodes (all x a) = omega (arith, names-nodes a)
names-nodes (ex x a) = omega arith

-- ---- a binder that isn't fixed

pub all-fixed : (vs : Values) (ts : List Rattle.pg_terms.specs.declared.term.Term.Term) (xs : List Name) (n : ℕ) → n ≤ length xs →
    ((names : List Name) → length names ≡ n → Determines names vs (Ok ts)) → fixed (take n xs) vs ≡ Ok (terms ts)
all-fixed vs ts xs n h d = d (take n xs) (length-take n xs h)

unfixed-yields-of : (vs : Values) (i : ℕ) (xs : List Name) (n : ℕ) (r : ActFault) → n ≤ length xs →
    ((names : List Name) → length names ≡ n → Determines names vs (Err (fault.Undetermined i))) → IsUnfixed (slice_get xs i) r → Yields terms (fixed (take n xs) vs) (Err r)
unfixed-yields-of vs i xs n OutOfMemory h d is = tt
unfixed-yields-of vs i xs n (Stop c) h d is = go (slice_get xs i) refl is
  where
    names : List Name
    names = take n xs

    known : Determines names vs (Err (fault.Undetermined i))
    known = d names (length-take n xs h)

    go : (o : Option Name) → slice_get xs i ≡ o → IsUnfixed o (Stop c) → fixed names vs ≡ Err (cause_of c)
    go None e is = absurd is
    go (Some x) e is = known.1 x (get-take n xs i (omega (arith, known.0, length-take n xs h)) ∙ e) ∙ ap Err is

-- the same of a fault that is this one
pub unfixed-yields : (vs : Values) (i : ℕ) (xs : List Name) (n : ℕ) (r : ActFault) (e : MatchFault) → e ≡ fault.Undetermined i → n ≤ length xs →
    ((names : List Name) → length names ≡ n → Determines names vs (Err e)) → IsUnfixed (slice_get xs i) r → Yields terms (fixed (take n xs) vs) (Err r)
unfixed-yields vs i xs n r e q h d is = unfixed-yields-of vs i xs n r h (subst (λ e. (names : List Name) → length names ≡ n → Determines names vs (Err e)) q d) is

pub below : (vs : Values) (i : ℕ) (xs : List Name) (n : ℕ) (e : MatchFault) → e ≡ fault.Undetermined i → n ≤ length xs → ((names : List Name) → length names ≡ n → Determines names vs (Err e)) → i < length xs
below vs i xs n e q h d =
    let k = subst (λ e. Determines (take n xs) vs (Err e)) q (d (take n xs) (length-take n xs h)) in omega (arith, k.0, length-take n xs h, h)

-- ---- all leading binders taken off

pub unbound-names : (xs : List Name) (a : Fm) → (ys : List Name) × ((unbound xs a).binders ++ ys ≡ xs ++ binder_names a)
unbound-names xs (all x a) = let k = unbound-names (xs ++ x ∷ []) a in (k.0, k.1 ∙ append_assoc xs (x ∷ []) (binder_names a))
unbound-names xs falsum = ([], refl)
unbound-names xs (eq t u) = ([], refl)
unbound-names xs (pred p ts) = ([], refl)
unbound-names xs (and a b) = ([], refl)
unbound-names xs (or a b) = ([], refl)
unbound-names xs (imp a b) = (binder_names b, refl)
unbound-names xs (ex x a) = ([], refl)

pub binders-grow : (xs : List Name) (a : Fm) → length xs ≤ length (unbound xs a).binders
binders-grow xs (all x a) = omega (arith, binders-grow (xs ++ x ∷ []) a, length-append xs (x ∷ []))
binders-grow xs falsum = omega arith
binders-grow xs (eq t u) = omega arith
binders-grow xs (pred p ts) = omega arith
binders-grow xs (and a b) = omega arith
binders-grow xs (or a b) = omega arith
binders-grow xs (imp a b) = omega arith
binders-grow xs (ex x a) = omega arith

pub unbound-tight : (xs : List Name) (a : Fm) (n : ℕ) → length xs ≡ n → is_tight_formula n a ≡ true → is_tight_formula (length (unbound xs a).binders) (unbound xs a).rest ≡ true
unbound-tight xs (all x a) n e h = unbound-tight (xs ++ x ∷ []) a (n + 1) (length-append xs (x ∷ []) ∙ ap (λ n. n + 1) e) h
unbound-tight xs falsum n e h = refl
unbound-tight xs (eq t u) n e h = subst (λ n. is_tight_formula n (eq t u) ≡ true) (sym e) h
unbound-tight xs (pred p ts) n e h = subst (λ n. is_tight_formula n (pred p ts) ≡ true) (sym e) h
unbound-tight xs (and a b) n e h = subst (λ n. is_tight_formula n (and a b) ≡ true) (sym e) h
unbound-tight xs (or a b) n e h = subst (λ n. is_tight_formula n (or a b) ≡ true) (sym e) h
unbound-tight xs (imp a b) n e h = subst (λ n. is_tight_formula n (imp a b) ≡ true) (sym e) h
unbound-tight xs (ex x a) n e h = subst (λ n. is_tight_formula n (ex x a) ≡ true) (sym e) h
