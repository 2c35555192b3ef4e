-- The first measure that is over its limit, part by part.
use Rattle.std.proofs.Common.{◌≡◌, ℕ, zero, suc, get_or, drop, drop-cons, ◌+◌, ◌-◌, ◌^◌, ◌<◌, ◌≤◌, List, [], ◌∷◌, ◌++◌, length, map, Bool, true, false, Option, Some, None, refl, arith, ap, sym, ◌∙◌, length-append}
use Rattle.std.specs.Prelude.{min, sum, flat_map, nat_lt, option_map, if◌then◌else◌}
use Rattle.std.specs.Option.{option_or}
use Rattle.std.proofs.lemmas.Bool.Decides.{nat_tests}
use Rattle.std.proofs.lemmas.Grind.{flat_map-append}
use Rattle.std.proofs.lemmas.List.Concat.{flat_map-cons}
use Rattle.std.proofs.lemmas.List.Sums.{sum-map, sum_by-cons, sum_by-append}
use Rattle.std.specs.List.{sum_by}
use Rattle.pg_logic.specs.Tree.{Fm, nodes_of, height_of}
use Rattle.pg_moves.specs.Goals.{Goal, Hyp}
use Rattle.pg_moves.specs.Causes.{Cause, Nodes, Height, Variables, Hypotheses, State, TooLarge, TooMany}
use Rattle.pg_moves.specs.Measures.{over, first_over, formulas, formula_measures, live_vars, live_hyps, goal_measures, goal_nodes, all_nodes, block_measures, first_large}
use Rattle.pg_terms.specs.View.{formula}
use Rattle.pg_goal.specs.declared.goal.Hyp as hyps
use Rattle.pg_goal.specs.View.{hyp_of}
use Rattle.pg_reduction.specs.declared.cause.Cause as rust
use Rattle.pg_reduction.specs.Limits.{told, Tells, hyp_formula}
use Rattle.pg_reduction.specs.View.{cause_of}

first-cons : (c : Option Cause) (cs : List (Option Cause)) → first_over (c ∷ cs) ≡ option_or c (first_over cs)
first-cons None cs = refl
first-cons (Some x) cs = refl

or-assoc : (a b c : Option Cause) → option_or (option_or a b) c ≡ option_or a (option_or b c)
or-assoc None b c = refl
or-assoc (Some x) b c = refl

or-none : (a : Option Cause) → option_or a None ≡ a
or-none None = refl
or-none (Some x) = refl

pub first-append : (cs ds : List (Option Cause)) → first_over (cs ++ ds) ≡ option_or (first_over cs) (first_over ds)
first-append [] ds = refl
first-append (c ∷ cs) ds =
    first-cons c (cs ++ ds) ∙ ap (option_or c) (first-append cs ds) ∙ sym (or-assoc c (first_over cs) (first_over ds)) ∙ ap (λ x. option_or x (first_over ds)) (sym (first-cons c cs))

first-two : (a b : Option Cause) → first_over (a ∷ b ∷ []) ≡ option_or a b
first-two a b = first-cons a (b ∷ []) ∙ ap (option_or a) (first-cons b [] ∙ or-none b)

-- the first of two that are told
told-or : (a b : Option Cause) → option_map told (option_or a b) ≡ option_or (option_map told a) (option_map told b)
told-or None b = refl
told-or (Some x) b = refl

over-if : (b c : Bool) (x y : Cause) → b ≡ c → told y ≡ x → (if b then Some x else None) ≡ option_map told (if c then Some y else None)
over-if true true x y e t = ap Some (sym t)
over-if false false x y e t = refl
over-if true false x y e t = absurd (cc)
over-if false true x y e t = absurd (cc)

lt-min : (limit n m : ℕ) → limit < m → nat_lt limit (min n m) ≡ nat_lt limit n
lt-min limit n m h = grind (arith, nat_tests)

-- a number that stays at its type's end m is over a limit below m where the number is
over-min : (limit n m : ℕ) (c : ℕ → Cause) → limit < m → told (c n) ≡ c (min n m) → over limit (min n m) (c (min n m)) ≡ option_map told (over limit n (c n))
over-min limit n m c h t = over-if (nat_lt limit (min n m)) (nat_lt limit n) (c (min n m)) (c n) (lt-min limit n m h) t

-- a number that is told as it is
over-same : (limit n : ℕ) (c : Cause) → told c ≡ c → over limit n c ≡ option_map told (over limit n c)
over-same limit n c t = over-if (nat_lt limit n) (nat_lt limit n) c c refl t

-- ---- a formula, a goal, a block

pub formula-told : (a : Fm) → option_or (over 4096 (min (nodes_of a) (2 ^ 64 - 1)) (TooLarge Nodes (min (nodes_of a) (2 ^ 64 - 1)))) (over 256 (min (height_of a) (2 ^ 32 - 1)) (TooLarge Height (min (height_of a) (2 ^ 32 - 1))))
    ≡ option_map told (first_over (formula_measures a))
formula-told a =
    ap (λ x. option_or x (over 256 (min (height_of a) (2 ^ 32 - 1)) (TooLarge Height (min (height_of a) (2 ^ 32 - 1))))) (over-min 4096 (nodes_of a) (2 ^ 64 - 1) (TooLarge Nodes) (omega arith) refl)
    ∙ ap (option_or (option_map told (over 4096 (nodes_of a) (TooLarge Nodes (nodes_of a))))) (over-min 256 (height_of a) (2 ^ 32 - 1) (TooLarge Height) (omega arith) refl)
    ∙ sym (told-or (over 4096 (nodes_of a) (TooLarge Nodes (nodes_of a))) (over 256 (height_of a) (TooLarge Height (height_of a))))
    ∙ ap (option_map told) (sym (first-two (over 4096 (nodes_of a) (TooLarge Nodes (nodes_of a))) (over 256 (height_of a) (TooLarge Height (height_of a)))))

-- the hypotheses' formulas are measured before the target
goal-measures : (g : Goal) (hs : List Fm) → map (λ (h : Hyp). h.formula) g.hyps ≡ hs → flat_map formula_measures (formulas g) ≡ flat_map formula_measures hs ++ (formula_measures g.target ++ [])
goal-measures g hs e = ap (λ xs. flat_map formula_measures (xs ++ g.target ∷ [])) e ∙ flat_map-append formula_measures hs (g.target ∷ []) ∙ ap (λ xs. flat_map formula_measures hs ++ xs) (flat_map-cons formula_measures g.target [])

append-none : (cs : List (Option Cause)) → first_over (cs ++ []) ≡ first_over cs
append-none cs = first-append cs [] ∙ or-none (first_over cs)

pub goal-told : (g : Goal) (hs : List Fm) (v h : ℕ) → map (λ (h : Hyp). h.formula) g.hyps ≡ hs → v ≡ live_vars g → h ≡ live_hyps g →
    option_or (option_or (option_or (over 64 v (TooLarge Variables v)) (over 64 h (TooLarge Hypotheses h))) (option_map told (first_over (flat_map formula_measures hs)))) (option_map told (first_over (formula_measures g.target)))
    ≡ option_map told (first_over (goal_measures g))
goal-told g hs v h e ev eh =
    let a = over 64 (live_vars g) (TooLarge Variables (live_vars g)) in
    let b = over 64 (live_hyps g) (TooLarge Hypotheses (live_hyps g)) in
    let c = first_over (flat_map formula_measures hs) in
    let d = first_over (formula_measures g.target) in
    let all-of : first_over (goal_measures g) ≡ option_or a (option_or b (option_or c d)) =
    first-cons a (b ∷ flat_map formula_measures (formulas g)) ∙ ap (option_or a) (first-cons b (flat_map formula_measures (formulas g))
    ∙ ap (option_or b) (ap first_over (goal-measures g hs e) ∙ first-append (flat_map formula_measures hs) (formula_measures g.target ++ []) ∙ ap (option_or c) (append-none (formula_measures g.target)))) in
    ap (λ v. option_or (option_or (option_or (over 64 v (TooLarge Variables v)) (over 64 h (TooLarge Hypotheses h))) (option_map told c)) (option_map told d)) ev
    ∙ ap (λ h. option_or (option_or (option_or a (over 64 h (TooLarge Hypotheses h))) (option_map told c)) (option_map told d)) eh
    ∙ ap (λ x. option_or (option_or (option_or x b) (option_map told c)) (option_map told d)) (over-same 64 (live_vars g) (TooLarge Variables (live_vars g)) refl)
    ∙ ap (λ x. option_or (option_or (option_or (option_map told a) x) (option_map told c)) (option_map told d)) (over-same 64 (live_hyps g) (TooLarge Hypotheses (live_hyps g)) refl)
    ∙ ap (λ x. option_or (option_or x (option_map told c)) (option_map told d)) (sym (told-or a b))
    ∙ ap (λ x. option_or x (option_map told d)) (sym (told-or (option_or a b) c))
    ∙ sym (told-or (option_or (option_or a b) c) d)
    ∙ ap (option_map told) (or-assoc (option_or a b) c d ∙ or-assoc a b (option_or c d) ∙ sym all-of)

pub many-told : (n : ℕ) → over 64 (min n (2 ^ 64 - 1)) (TooMany (min (min n (2 ^ 64 - 1)) (2 ^ 32 - 1))) ≡ option_map told (over 64 n (TooMany n))
many-told n =
    let e : min (min n (2 ^ 64 - 1)) (2 ^ 32 - 1) ≡ min n (2 ^ 32 - 1) = omega arith in
    over-if (nat_lt 64 (min n (2 ^ 64 - 1))) (nat_lt 64 n) (TooMany (min (min n (2 ^ 64 - 1)) (2 ^ 32 - 1))) (TooMany n) (lt-min 64 n (2 ^ 64 - 1) (omega arith)) (ap TooMany (sym e))

pub block-told : (gs : List Goal) (n : ℕ) → n ≡ min (all_nodes gs) (2 ^ 64 - 1) →
    option_or (option_map told (over 64 (length gs) (TooMany (length gs)))) (over 65536 n (TooLarge State n)) ≡ option_map told (first_over (block_measures gs))
block-told gs n e =
    let a = over 64 (length gs) (TooMany (length gs)) in
    let b = over 65536 (all_nodes gs) (TooLarge State (all_nodes gs)) in
    ap (λ n. option_or (option_map told a) (over 65536 n (TooLarge State n))) e
    ∙ ap (option_or (option_map told a)) (over-min 65536 (all_nodes gs) (2 ^ 64 - 1) (TooLarge State) (omega arith) refl)
    ∙ sym (told-or a b) ∙ ap (option_map told) (sym (first-two a b))

-- ---- parts of lists

dropped : {X : Type 0} (xs : List X) (i : ℕ) (x : X) → i < length xs → x ≡ get_or xs i x → drop i xs ≡ x ∷ drop (i + 1) xs
dropped xs i x lt e = let q : suc i ≡ i + 1 = omega arith in drop-cons xs i x lt ∙ ap (λ y. y ∷ drop (suc i) xs) (sym e) ∙ ap (λ k. x ∷ drop k xs) q

-- the first that is large among those from number i on
pub first-dropped : {X Y : Type 0} (v : X → Y) (f : Y → List (Option Cause)) (xs : List X) (i : ℕ) (x : X) → i < length xs → x ≡ get_or xs i x →
    first_over (flat_map f (map v (drop i xs))) ≡ option_or (first_over (f (v x))) (first_over (flat_map f (map v (drop (i + 1) xs))))
first-dropped v f xs i x lt e =
    ap (λ l. first_over (flat_map f (map v l))) (dropped xs i x lt e) ∙ ap first_over (flat_map-cons f (v x) (map v (drop (i + 1) xs))) ∙ first-append (f (v x)) (flat_map f (map v (drop (i + 1) xs)))

sum-cons : {Y : Type 0} (f : Y → ℕ) (y : Y) (ys : List Y) → sum (map f (y ∷ ys)) ≡ f y + sum (map f ys)
sum-cons f y ys = sum-map f (y ∷ ys) ∙ sum_by-cons f y ys ∙ ap (λ n. f y + n) (sym (sum-map f ys))

sum-append : {Y : Type 0} (f : Y → ℕ) (xs ys : List Y) → sum (map f (xs ++ ys)) ≡ sum (map f xs) + sum (map f ys)
sum-append f xs ys =
    sum-map f (xs ++ ys) ∙ sum_by-append f xs ys ∙ ap (λ n. n + sum_by f ys) (sym (sum-map f xs)) ∙ ap (λ n. sum (map f xs) + n) (sym (sum-map f ys))

pub sum-dropped : {X Y : Type 0} (v : X → Y) (f : Y → ℕ) (xs : List X) (i : ℕ) (x : X) → i < length xs → x ≡ get_or xs i x →
    sum (map f (map v (drop i xs))) ≡ f (v x) + sum (map f (map v (drop (i + 1) xs)))
sum-dropped v f xs i x lt e = ap (λ l. sum (map f (map v l))) (dropped xs i x lt e) ∙ sum-cons f (v x) (map v (drop (i + 1) xs))

-- a count that stays at its type's end goes on: n so far, a more, and b behind
pub kept : (n a b m w : ℕ) → w ≡ min (n + min a m) m → min (w + b) m ≡ min (n + (a + b)) m
kept n a b m w e = omega arith

-- the nodes of the new goals and of the others
pub nodes-together : (new rest : List Goal) (x y w m : ℕ) → x ≡ min (all_nodes new) m → y ≡ min (all_nodes rest) m → w ≡ min (x + y) m → w ≡ min (all_nodes (new ++ rest)) m
nodes-together new rest x y w m ex ey e = let s = sum-append goal_nodes new rest in omega arith

-- a goal's nodes
pub goal-nodes : (g : Goal) (hs : List Fm) (x y w m : ℕ) → map (λ (h : Hyp). h.formula) g.hyps ≡ hs → x ≡ min (sum (map nodes_of hs)) m → y ≡ min (nodes_of g.target) m → w ≡ min (x + y) m → w ≡ min (goal_nodes g) m
goal-nodes g hs x y w m is ex ey e =
    let s : goal_nodes g ≡ sum (map nodes_of hs) + (nodes_of g.target + 0) =
    ap (λ xs. sum (map nodes_of (xs ++ g.target ∷ []))) is ∙ sum-append nodes_of hs (g.target ∷ []) ∙ ap (λ n. sum (map nodes_of hs) + n) (sum-cons nodes_of g.target []) in
    omega arith

-- ---- what the calls tell

map-or : (x y : Option rust.Cause) → option_map cause_of (option_or x y) ≡ option_or (option_map cause_of x) (option_map cause_of y)
map-or None y = refl
map-or (Some x) y = refl

-- the parts of an answer are the defined ones
parts : (a b : Option Cause) (x y r : Option rust.Cause) → option_map cause_of x ≡ a → option_map cause_of y ≡ b → r ≡ option_or x y → option_map cause_of r ≡ option_or a b
parts a b x y r ex ey er = ap (option_map cause_of) er ∙ map-or x y ∙ ap (λ a. option_or a (option_map cause_of y)) ex ∙ ap (option_or a) ey

pub large-formula : (a : Fm) (s h : ℕ) (x y r : Option rust.Cause) → s ≡ min (nodes_of a) (2 ^ 64 - 1) → h ≡ min (height_of a) (2 ^ 32 - 1) →
    option_map cause_of x ≡ over 4096 s (TooLarge Nodes s) → option_map cause_of y ≡ over 256 h (TooLarge Height h) → r ≡ option_or x y → Tells (first_over (formula_measures a)) r
large-formula a s h x y r es eh ex ey er =
    parts (over 4096 (min (nodes_of a) (2 ^ 64 - 1)) (TooLarge Nodes (min (nodes_of a) (2 ^ 64 - 1)))) (over 256 (min (height_of a) (2 ^ 32 - 1)) (TooLarge Height (min (height_of a) (2 ^ 32 - 1)))) x y r
    (ex ∙ ap (λ s. over 4096 s (TooLarge Nodes s)) es) (ey ∙ ap (λ h. over 256 h (TooLarge Height h)) eh) er ∙ formula-told a

pub large-goal : (g : Goal) (hs : List Fm) (v h : ℕ) (w x xw y xy z r : Option rust.Cause) → map (λ (h : Hyp). h.formula) g.hyps ≡ hs → v ≡ live_vars g → h ≡ live_hyps g →
    option_map cause_of w ≡ over 64 v (TooLarge Variables v) → option_map cause_of x ≡ over 64 h (TooLarge Hypotheses h) → xw ≡ option_or w x → Tells (first_over (flat_map formula_measures hs)) y → xy ≡ option_or xw y →
    Tells (first_over (formula_measures g.target)) z → r ≡ option_or xy z → Tells (first_over (goal_measures g)) r
large-goal g hs v h w x xw y xy z r e ev eh ew ex exw ey exy ez er =
    parts _ _ xy z r (parts _ _ xw y xy (parts _ _ w x xw ew ex exw) ey exy) ez er ∙ goal-told g hs v h e ev eh

pub large-block : (gs : List Goal) (n : ℕ) (x y r : Option rust.Cause) → n ≡ min (all_nodes gs) (2 ^ 64 - 1) → Tells (over 64 (length gs) (TooMany (length gs))) x →
    option_map cause_of y ≡ over 65536 n (TooLarge State n) → r ≡ option_or x y → Tells (first_over (block_measures gs)) r
large-block gs n x y r e ex ey er = parts _ _ x y r ex ey er ∙ block-told gs n e

-- the new goals, and then the block
pub large-both : (new gs : List Goal) (x y r : Option rust.Cause) → Tells (first_over (flat_map goal_measures new)) x → Tells (first_over (block_measures gs)) y → r ≡ option_or x y → Tells (first_large new gs) r
large-both new gs x y r ex ey er =
    parts _ _ x y r ex ey er ∙ sym (told-or (first_over (flat_map goal_measures new)) (first_over (block_measures gs))) ∙ ap (option_map told) (sym (first-append (flat_map goal_measures new) (block_measures gs)))

-- formulas of hypotheses
pub hyp-formulas : (hs : List hyps.Hyp) → map (λ (h : Hyp). h.formula) (map hyp_of hs) ≡ map hyp_formula hs
hyp-formulas [] = refl
hyp-formulas (h ∷ hs) = ap (λ l. formula h.formula ∷ l) (hyp-formulas hs)

told-none : (a : Option Cause) → None ≡ option_map told a → a ≡ None
told-none None e = refl
told-none (Some c) e = absurd (cc)

-- nothing is large so far
pub goes-on : (a b c : Option Cause) → c ≡ option_or a b → None ≡ option_map told a → c ≡ b
goes-on a b c e n = e ∙ ap (λ a. option_or a b) (told-none a n)

-- this one is large
pub found-large : (a b c : Option Cause) (x : rust.Cause) → c ≡ option_or a b → Some (cause_of x) ≡ option_map told a → Tells c (Some x)
found-large None b c x e t = absurd (cc)
found-large (Some y) b c x e t = t ∙ ap (option_map told) (sym e)

drop-past : {X : Type 0} (xs : List X) (i : ℕ) → length xs ≤ i → drop i xs ≡ []
drop-past [] zero h = refl
drop-past [] (suc i) h = refl
drop-past (x ∷ xs) zero h = absurd (omega arith)
drop-past (x ∷ xs) (suc i) h = drop-past xs i (omega arith)

-- all is counted
pub sum-done : {X Y : Type 0} (v : X → Y) (f : Y → ℕ) (xs : List X) (i n m w : ℕ) → length xs ≤ i → n ≤ m → min (n + sum (map f (map v (drop i xs)))) m ≡ w → n ≡ w
sum-done v f xs i n m w past le e =
    let z : sum (map f (map v (drop i xs))) ≡ 0 = ap (λ l. sum (map f (map v l))) (drop-past xs i past) in
    omega arith

many-together : (count n : ℕ) (x : Option rust.Cause) → count ≡ min n (2 ^ 64 - 1) → Tells (over 64 count (TooMany count)) x → Tells (over 64 n (TooMany n)) x
many-together count n x e t =
    t ∙ ap (λ k. option_map told (over 64 k (TooMany k))) e
    ∙ sym (over-if (nat_lt 64 (min n (2 ^ 64 - 1))) (nat_lt 64 (min n (2 ^ 64 - 1))) (TooMany (min (min n (2 ^ 64 - 1)) (2 ^ 32 - 1))) (TooMany (min n (2 ^ 64 - 1))) refl refl)
    ∙ many-told n

-- a block of the new goals and of the others
pub large-together : (new rest : List Goal) (count nodes : ℕ) (x y r : Option rust.Cause) → count ≡ min (length rest + length new) (2 ^ 64 - 1) → nodes ≡ min (all_nodes (new ++ rest)) (2 ^ 64 - 1) →
    Tells (over 64 count (TooMany count)) x → option_map cause_of y ≡ over 65536 nodes (TooLarge State nodes) → r ≡ option_or x y → Tells (first_over (block_measures (new ++ rest))) r
large-together new rest count nodes x y r ec en ex ey er =
    let e : count ≡ min (length (new ++ rest)) (2 ^ 64 - 1) = ec ∙ ap (λ n. min n (2 ^ 64 - 1)) (let q = length-append new rest in omega arith) in
    large-block (new ++ rest) nodes x y r en (many-together count (length (new ++ rest)) x e ex) ey er
