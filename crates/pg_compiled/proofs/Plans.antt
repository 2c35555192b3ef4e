-- The plan of a game whose worlds and levels fit together.
use Rattle.std.proofs.Common.{◌≡◌, ◌≢◌, ◌∙◌, ℕ, zero, suc, ◌+◌, ◌<◌, ◌≤◌, Bool, true, false, ◌||◌, List, [], ◌∷◌, ◌++◌, length, map, refl, sym, ap, subst, arith, inl, inr, if◌then◌else◌}
use Rattle.std.proofs.lemmas.List.{length-map, length-append, map-append}
use Rattle.std.specs.Prelude.{◌==◌, filter, flat_map, replicate, slice_index}
use Rattle.pg_worlds.specs.Flags.{has}
use Rattle.pg_worlds.specs.Worlds.{Worlds, needs_of, IsGraph, IsWorldOrder, world_of_each}
use Rattle.pg_worlds.specs.Course.{Level as PlanLevel}
use Rattle.pg_worlds.proofs.OneOrder.{one_order}
use Rattle.pg_gametext.specs.Game.{Game, WorldText, Need, Level}
use Rattle.pg_compiled.specs.Plan.{needs_from, needs_of_worlds, graph_of, levels_of_world, arranged, Theorem, level_of, levels_from, theorems, axiom_count, plan_of}
use Rattle.pg_compiled.specs.Whole.{AreBelow, IsWhole, PlanLaw}
use Rattle.pg_compiled.proofs.Available.{never, either, equal_of}

-- ---- the graph

count_same : (ns : List Need) (k : ℕ) (ws : List WorldText) → length (needs_of_worlds ns k ws) ≡ length ws
count_same ns k [] = refl
count_same ns k (w ∷ ws) = ap suc (count_same ns (k + 1) ws)

-- what a world needs is one of so many
needed_below : (n w v : ℕ) (ns : List Need) → AreBelow n ns → has (needs_from ns w) v ≡ true → v < n
needed_below n w v [] below e = never e
needed_below n w v (m ∷ ms) below e =
    elim (m.after == w) as (λ b. has (if b then m.before ∷ needs_from ms w else needs_from ms w) v ≡ true → v < n) [
      | true ↦ λ e. elim (either (m.before == v) (has (needs_from ms w) v) e) [
        | inl here ↦ subst (λ x. x < n) (equal_of m.before v here) below.0
        | inr later ↦ needed_below n w v ms below.1 later
      ]
      | false ↦ λ e. needed_below n w v ms below.1 e
    ] e

range : (n k w v : ℕ) (ns : List Need) (ws : List WorldText) (a : List ℕ) → AreBelow n ns → has (needs_of (record { levels = a; needs = needs_of_worlds ns k ws }) w) v ≡ true → v < n
range n k w v ns [] a below e = never e
range n k zero v ns (t ∷ ts) a below e = needed_below n k v ns below e
range n k (suc w) v ns (t ∷ ts) a below e = range n (k + 1) w v ns ts a below e

graph : (g : Game) → IsWhole g → IsGraph (graph_of g)
graph g whole =
    let same : length (needs_of_worlds g.needs 0 g.worlds) ≡ length g.worlds = count_same g.needs 0 g.worlds in
    record {
      one_length = length-map g.worlds (λ (t : WorldText). t.levels) ∙ sym same;
      at_most = omega (arith, same, whole.worlds);
      in_range = λ w v e. omega (arith, same, range (length g.worlds) 0 w v g.needs g.worlds (graph_of g).levels whole.needs e);
    }

-- ---- the worlds of the levels

worlds_from : (ts : List Theorem) (own : ℕ) (ls : List Level) → map (λ (l : PlanLevel). l.world) (levels_from ts own ls) ≡ map (λ (l : Level). l.world) ls
worlds_from ts own [] = refl
worlds_from ts own (l ∷ ls) = ap (λ xs. l.world ∷ xs) (worlds_from ts (own + 1) ls)

length_from : (ts : List Theorem) (own : ℕ) (ls : List Level) → length (levels_from ts own ls) ≡ length ls
length_from ts own [] = refl
length_from ts own (l ∷ ls) = ap suc (length_from ts (own + 1) ls)

-- the levels of a world have its number
own_world : (ls : List Level) (w : ℕ) → map (λ (l : Level). l.world) (levels_of_world ls w) ≡ replicate (length (levels_of_world ls w)) w
own_world [] w = refl
own_world (l ∷ ls) w =
    elim (l.world == w) as (λ b. (l.world == w) ≡ b → map (λ (x : Level). x.world) (if b then l ∷ levels_of_world ls w else levels_of_world ls w) ≡ replicate (length (if b then l ∷ levels_of_world ls w else levels_of_world ls w)) w) [
      | true ↦ λ e. ap (λ x. x ∷ map (λ (y : Level). y.world) (levels_of_world ls w)) (equal_of l.world w e) ∙ ap (λ xs. w ∷ xs) (own_world ls w)
      | false ↦ λ e. own_world ls w
    ] refl

-- each world of the order with its levels
each_world : (g : Game) (order : List ℕ) → ((i : ℕ) → i < length order → slice_index order i < length g.worlds) → IsWhole g
    → map (λ (l : Level). l.world) (flat_map (levels_of_world g.levels) order) ≡ flat_map (λ w. replicate (slice_index (graph_of g).levels w) w) order
each_world g [] below whole = refl
each_world g (w ∷ ws) below whole =
    let mine : map (λ (l : Level). l.world) (levels_of_world g.levels w) ≡ replicate (slice_index (graph_of g).levels w) w =
    own_world g.levels w ∙ ap (λ n. replicate n w) (whole.counted w (below 0 (omega arith))) in
    map-append (λ (l : Level). l.world) (levels_of_world g.levels w) (flat_map (levels_of_world g.levels) ws)
    ∙ (ap (λ xs. xs ++ map (λ (l : Level). l.world) (flat_map (levels_of_world g.levels) ws)) mine
    ∙ ap (λ xs. replicate (slice_index (graph_of g).levels w) w ++ xs) (each_world g ws (λ i h. below (suc i) (omega (arith, h))) whole))

-- ---- how many levels there are

-- how often a number stands in a list
abbrev times : ℕ → List ℕ → ℕ
times w [] = 0
times w (x ∷ xs) = if w == x then suc (times w xs) else times w xs

none_then : (w : ℕ) (xs : List ℕ) → ((i : ℕ) → i < length xs → w ≢ slice_index xs i) → times w xs ≡ 0
none_then w [] apart = refl
none_then w (x ∷ xs) apart =
    elim (w == x) as (λ b. (w == x) ≡ b → (if b then suc (times w xs) else times w xs) ≡ 0) [
      | true ↦ λ e. absurd (apart 0 (omega arith) (equal_of w x e))
      | false ↦ λ e. none_then w xs (λ i h. apart (suc i) (omega (arith, h)))
    ] refl

once : (w : ℕ) (xs : List ℕ) → ((i j : ℕ) → i < j → j < length xs → slice_index xs i ≢ slice_index xs j) → times w xs ≤ 1
once w [] apart = omega arith
once w (x ∷ xs) apart =
    elim (w == x) as (λ b. (w == x) ≡ b → (if b then suc (times w xs) else times w xs) ≤ 1) [
      | true ↦ λ e. omega (arith, none_then w xs (λ i h same. apart 0 (suc i) (omega arith) (omega (arith, h)) (sym (equal_of w x e) ∙ same)))
      | false ↦ λ e. once w xs (λ i j h k. apart (suc i) (suc j) (omega (arith, h)) (omega (arith, k)))
    ] refl

no_levels : (order : List ℕ) → length (flat_map (levels_of_world []) order) ≡ 0
no_levels [] = refl
no_levels (w ∷ ws) = no_levels ws

-- one level more stands in the order as often as its world
one_level : (l : Level) (ls : List Level) (order : List ℕ) → length (flat_map (levels_of_world (l ∷ ls)) order) ≡ times l.world order + length (flat_map (levels_of_world ls) order)
one_level l ls [] = omega arith
one_level l ls (w ∷ ws) =
    length-append (levels_of_world (l ∷ ls) w) (flat_map (levels_of_world (l ∷ ls)) ws)
    ∙ elim (l.world == w) as (λ b. length (if b then l ∷ levels_of_world ls w else levels_of_world ls w) + length (flat_map (levels_of_world (l ∷ ls)) ws)
    ≡ (if b then suc (times l.world ws) else times l.world ws) + length (levels_of_world ls w ++ flat_map (levels_of_world ls) ws)) [
      | true ↦ omega (arith, one_level l ls ws, length-append (levels_of_world ls w) (flat_map (levels_of_world ls) ws))
      | false ↦ omega (arith, one_level l ls ws, length-append (levels_of_world ls w) (flat_map (levels_of_world ls) ws))
    ]

few_levels : (ls : List Level) (order : List ℕ) → ((i j : ℕ) → i < j → j < length order → slice_index order i ≢ slice_index order j) → length (flat_map (levels_of_world ls) order) ≤ length ls
few_levels [] order apart = omega (arith, no_levels order)
few_levels (l ∷ ls) order apart = omega (arith, one_level l ls order, once l.world order apart, few_levels ls order apart)

-- ---- the law

pub plan-law : PlanLaw
plan-law order g whole ordered =
    let one = one_order (graph_of g) order ordered in
    let same : length (needs_of_worlds g.needs 0 g.worlds) ≡ length g.worlds = count_same g.needs 0 g.worlds in
    let below : (i : ℕ) → i < length order → slice_index order i < length g.worlds = λ i h. omega (arith, same, (one.0 i h).0) in
    record {
      graph = graph g whole;
      ordered = ordered;
      by_world = worlds_from (theorems order g) (axiom_count g) (arranged order g) ∙ each_world g order below whole;
      numbered = omega (arith, length_from (theorems order g) (axiom_count g) (arranged order g), few_levels g.levels order one.1, whole.levels);
    }
