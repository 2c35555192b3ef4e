-- When lists are the worlds and the levels of a game.
use Rattle.std.proofs.Common.{◌≡◌, ℕ, zero, suc, ◌<◌, ◌≤◌, Bool, true, List, [], ◌∷◌, length, map, ap, sym, refl, ◌∙◌, arith}
use Rattle.std.specs.Prelude.{Vec, slice_index_or, nat_lt}
use Rattle.std.specs.List.{list_all}
use Rattle.std.specs.declared.alloc.Global.{Global}
use Rattle.std.proofs.lemmas.Bool.{and_from, and_parts, eq-eqb, false≢true, lt-ltb, ltb-true, or_left, or_right}
use Rattle.std.proofs.lemmas.List.{length-map}
use Rattle.pg_worlds.specs.Flags.{has}
use Rattle.pg_worlds.specs.Worlds.{worlds_of, IsGraph}
use Rattle.pg_worlds.specs.declared.course.LevelItems.{LevelItems}
use Rattle.pg_worlds.specs.Course.{Level}
use Rattle.pg_worlds.specs.View.{level_of}
use Rattle.pg_worlds.proofs.Reached.{all_has}

-- a needed world is below the count, where each row was tested
pub rows_below : (n : ℕ) (rows : List (Vec ℕ Global)) → list_all (λ row. list_all (λ v. nat_lt v n) row.items) rows ≡ true
    → (w v : ℕ) → has (slice_index_or (map (λ (row : Vec ℕ Global). row.items) rows) w []) v ≡ true → v < n
rows_below n [] all w v e = absurd (false≢true e)
rows_below n (row ∷ rows) all zero v e = ltb-true v n (all_has row.items (λ v. nat_lt v n) (and_parts (list_all (λ v. nat_lt v n) row.items) _ all).0 v e)
rows_below n (row ∷ rows) all (suc w) v e = rows_below n rows (and_parts (list_all (λ v. nat_lt v n) row.items) _ all).1 w v e

-- a list passes where each of its numbers does
pub all_from : (test : ℕ → Bool) (xs : List ℕ) → ((x : ℕ) → has xs x ≡ true → test x ≡ true) → list_all test xs ≡ true
all_from test [] each = refl
all_from test (y ∷ ys) each =
    and_from _ _ (each y (or_left _ (has ys y) (eq-eqb y y refl))) (all_from test ys (λ x e. each x (or_right _ (has ys x) e)))

-- and back
pub rows_pass : (n : ℕ) (rows : List (Vec ℕ Global)) → ((w v : ℕ) → has (slice_index_or (map (λ (row : Vec ℕ Global). row.items) rows) w []) v ≡ true → v < n)
    → list_all (λ row. list_all (λ v. nat_lt v n) row.items) rows ≡ true
rows_pass n [] each = refl
rows_pass n (row ∷ rows) each =
    and_from _ _ (all_from (λ v. nat_lt v n) row.items (λ v e. lt-ltb v n (each zero v e))) (rows_pass n rows (λ w. each (suc w)))

-- lists of one length, at most 64, are a graph where each row passes
pub graph_from : (levels : List ℕ) (rows : List (Vec ℕ Global)) → length levels ≡ length rows → length rows ≤ 64
    → list_all (λ row. list_all (λ v. nat_lt v (length rows)) row.items) rows ≡ true → IsGraph (worlds_of levels (map (λ v. v.items) rows))
graph_from levels rows same most all =
    let long : length (map (λ (row : Vec ℕ Global). row.items) rows) ≡ length rows = length-map rows (λ (row : Vec ℕ Global). row.items) in
    record {
      one_length = same ∙ sym long;
      at_most = omega (arith, long);
      in_range = λ w v e. let l : v < length rows = rows_below (length rows) rows all w v e in omega (arith, long);
    }

-- and each row of a graph passes
pub graph_rows : (levels : List ℕ) (rows : List (Vec ℕ Global)) → IsGraph (worlds_of levels (map (λ v. v.items) rows))
    → list_all (λ row. list_all (λ v. nat_lt v (length rows)) row.items) rows ≡ true
graph_rows levels rows graph =
    let long : length (map (λ (row : Vec ℕ Global). row.items) rows) ≡ length rows = length-map rows (λ (row : Vec ℕ Global). row.items) in
    rows_pass (length rows) rows (λ w v e. omega (arith, long, graph.in_range w v e))

pub worlds_of_levels : (items : List LevelItems) → map (λ (l : Level). l.world) (map level_of items) ≡ map (λ (i : LevelItems). i.world) items
worlds_of_levels [] = refl
worlds_of_levels (i ∷ is) = ap (λ ws. i.world ∷ ws) (worlds_of_levels is)
