-- Declared names differ, and from the live names too.
use Rattle.std.proofs.Common.{◌≡◌, Bool, false, List, [], ◌∷◌, ◌++◌, map, flat_map, codes, sym, ◌∙◌, ap, append-nil}
use Rattle.std.specs.Prelude.{Option}
use Rattle.std.specs.List.{list_any}
use Rattle.std.specs.Str.{bytes_eq}
use Rattle.std.proofs.lemmas.Bool.{or_parts}
use Rattle.std.proofs.lemmas.List.Folds.{list_any-append}
use Rattle.pg_logic.specs.Declarations.{Name, NamedFunction, by_recursion, by_term, Declarations, AreDeclared, name_of, names_in, names_of, clash}
use Rattle.pg_spelling.specs.Named.{live, predicate_names, declared_names}
use Rattle.pg_spelling.specs.Back.{AllDiffer, LiveDiffer, NoneAmong}
use Rattle.pg_spelling.proofs.Fresh.{or_from}

any-first : (p : Name → Bool) (xs ys : List Name) → list_any p (xs ++ ys) ≡ false → list_any p xs ≡ false
any-first p xs ys e = (or_parts _ _ (sym (list_any-append p xs ys) ∙ e)).0

differ-first : (xs ys : List Name) → AllDiffer (xs ++ ys) → AllDiffer xs
differ-first [] ys h = tt
differ-first (x ∷ xs) ys h = (any-first (bytes_eq x) xs ys h.0, differ-first xs ys h.1)

-- ---- fewer names: of each function its own, and behind them zs in place of ys

own-any : (p : Name → Bool) (fs : List NamedFunction) (ys zs : List Name) → (list_any p ys ≡ false → list_any p zs ≡ false)
    → list_any p (flat_map names_in fs ++ ys) ≡ false → list_any p (map name_of fs ++ zs) ≡ false
own-any p [] ys zs k h = k h
own-any p (by_recursion name n params base step zero_name succ_name ∷ fs) ys zs k h =
    let q = or_parts _ _ h in
    or_from _ _ q.0 (own-any p fs ys zs k (or_parts _ _ (or_parts _ _ q.1).1).1)
own-any p (by_term name body equation_name ∷ fs) ys zs k h =
    let q = or_parts _ _ h in
    or_from _ _ q.0 (own-any p fs ys zs k (or_parts _ _ q.1).1)

own-differ : (fs : List NamedFunction) (ys zs : List Name) → ((p : Name → Bool) → list_any p ys ≡ false → list_any p zs ≡ false)
    → (AllDiffer ys → AllDiffer zs) → AllDiffer (flat_map names_in fs ++ ys) → AllDiffer (map name_of fs ++ zs)
own-differ [] ys zs fewer k h = k h
own-differ (by_recursion name n params base step zero_name succ_name ∷ fs) ys zs fewer k h =
    (own-any (bytes_eq name) fs ys zs (fewer (bytes_eq name)) (or_parts _ _ (or_parts _ _ h.0).1).1, own-differ fs ys zs fewer k h.1.1.1)
own-differ (by_term name body equation_name ∷ fs) ys zs fewer k h =
    (own-any (bytes_eq name) fs ys zs (fewer (bytes_eq name)) (or_parts _ _ h.0).1, own-differ fs ys zs fewer k h.1.1)

-- ---- names that don't clash differ

clash-differ : (names : List Name) → clash [] names ≡ false → AllDiffer names
clash-differ [] h = tt
clash-differ (x ∷ xs) h =
    let q = or_parts _ _ h in
    (ap (list_any (bytes_eq x)) (sym (append-nil xs)) ∙ q.0, clash-differ xs q.1)

pub declared-differ : (d : Declarations) → AreDeclared d → AllDiffer (declared_names d)
declared-differ d h =
    let axioms : List Name = codes "succ_inj" ∷ codes "zero_ne_succ" ∷ [] in
    own-differ d.functions (predicate_names d ++ axioms) (predicate_names d) (λ p. any-first p (predicate_names d) axioms)
    (differ-first (predicate_names d) axioms)
    (clash-differ (names_of d) h.names_differ)

-- ---- the live names before them

differ-both : (xs ys : List Name) → AllDiffer xs → NoneAmong xs ys → AllDiffer ys → AllDiffer (xs ++ ys)
differ-both [] ys h k l = l
differ-both (x ∷ xs) ys h k l = (list_any-append (bytes_eq x) xs ys ∙ or_from _ _ h.0 k.0, differ-both xs ys h.1 k.1 l)

pub all-differ : (vars : List (Option Name)) (d : Declarations) → AreDeclared d → LiveDiffer vars d → AllDiffer (live vars ++ declared_names d)
all-differ vars d h k = differ-both (live vars) (declared_names d) k.differ k.undeclared (declared-differ d h)
