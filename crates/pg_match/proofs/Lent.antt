-- Values that are lent, as values.
use Rattle.std.proofs.Common.{◌≡◌, ℕ, zero, suc, ◌+◌, ◌-◌, [], ◌∷◌, ◌++◌, add-one, ◌<◌, List, length, Option, Some, None, true, refl, ap, sym, ◌∙◌, arith, slice_index_or, slice_set, Bor}
use Rattle.std.specs.Prelude.{slice_get, option_map, if◌then◌else◌, nat_lt}
use Rattle.std.proofs.lemmas.Bool.{lt-ltb}
use Rattle.std.proofs.lemmas.List.{map-set, length-map}
use Rattle.std.proofs.lemmas.Option.{slice_get-map, slice_get-get_or}
use Rattle.pg_logic.specs.Tree.{is_tight}
use Rattle.pg_terms.specs.declared.term.Term.{Term}
use Rattle.pg_terms.specs.View.{term}
use Rattle.pg_match.specs.Walks.{lend, lent, nones, put, put_at, if_so}

-- a closed subject is the value of a hole that has none
pub put_new : (vs : List (Option (Bor Term))) (i : ℕ) (s : Bor Term) (d : Option (Bor Term)) → i < length vs → slice_index_or vs (length vs - 1 - i) d ≡ None →
    is_tight 0 (term s.now) ≡ true → put_at (lent vs) i (term s.now) ≡ Some (lent (slice_set vs (length vs - 1 - i) (Some s)))
put_new vs i s d lt none closed =
    let k = length vs - 1 - i in
    let long : length (lent vs) ≡ length vs = length-map vs lend in
    let there : slice_get (lent vs) k ≡ Some None = slice_get-map lend vs k ∙ ap (option_map lend) (slice_get-get_or vs k d (omega (arith, lt)) ∙ ap Some none) in
    ap (λ n. if nat_lt i n then put (lent vs) (n - 1 - i) (slice_get (lent vs) (n - 1 - i)) (term s.now) else None) long
    ∙ ap (λ b. if b then put (lent vs) k (slice_get (lent vs) k) (term s.now) else None) (lt-ltb i (length vs) lt)
    ∙ ap (λ o. put (lent vs) k o (term s.now)) there
    ∙ ap (λ b. if_so b (slice_set (lent vs) k (Some (term s.now)))) closed
    ∙ ap Some (sym (map-set lend vs k (Some s)))

-- one hole more
pub none_more : (n : ℕ) (vs : List (Option (Bor Term))) (new : List (Option (Bor Term))) → lent vs ≡ nones n → new ≡ vs ++ None ∷ [] → lent new ≡ nones (n + 1)
none_more n vs new e is = ap lent is ∙ pushed vs ∙ ap (λ l. l ++ None ∷ []) e ∙ more n ∙ ap nones (sym (add-one n))
  where
    pushed : (vs : List (Option (Bor Term))) → lent (vs ++ None ∷ []) ≡ lent vs ++ None ∷ []
    pushed [] = refl
    pushed (v ∷ vs) = ap (λ l. lend v ∷ l) (pushed vs)

    more : (n : ℕ) → nones n ++ None ∷ [] ≡ nones (suc n)
    more zero = refl
    more (suc n) = ap (λ l. None ∷ l) (more n)
