-- One more won level.
use Rattle.std.proofs.Common.{◌≡◌, ℕ, zero, suc, ◌<◌, Bool, true, false, cond, ◌||◌, List, [], ◌∷◌, ◌++◌, length, get_or, set, take, refl, sym, ap, ◌∙◌, arith, ◌+◌, add-one}
use Rattle.std.specs.List.{list_any}
use Rattle.std.proofs.lemmas.List.{append-nil}
use Rattle.std.proofs.lemmas.List.Folds.{list_any-append}
use Rattle.pg_worlds.specs.declared.tactic_name.TacticName.{TacticName}
use Rattle.pg_worlds.specs.Course.{Level, Plan, level_at, no_level}
use Rattle.pg_worlds.specs.Inventory.{Inventory, joined, unlocked, unlocked_by, unlocked_by_all, won_levels}

pub same_inventory : (a b : Inventory) → ((t : TacticName) → a.tactic t ≡ b.tactic t) → ((k : ℕ) → a.theorem k ≡ b.theorem k) → a ≡ b
same_inventory a b moves theorems = λ i. record { tactic = λ t. moves t i; theorem = λ k. theorems k i }

first_won : (b f rest : Bool) → (f || rest) ≡ (cond b (f || rest) rest || f)
first_won true true rest = refl
first_won true false true = refl
first_won true false false = refl
first_won false true true = refl
first_won false true false = refl
first_won false false true = refl
first_won false false false = refl

or_assoc : (a b c : Bool) → (a || (b || c)) ≡ ((a || b) || c)
or_assoc true b c = refl
or_assoc false b c = refl

any-cond : (f : Level → Bool) (b : Bool) (l : Level) (ls : List Level) → list_any f (cond b (l ∷ ls) ls) ≡ cond b (f l || list_any f ls) (list_any f ls)
any-cond f true l ls = refl
any-cond f false l ls = refl

-- what holds of some level of those that were won or of the one that is won besides
any_more : (f : Level → Bool) (ls : List Level) (won : List Bool) (k : ℕ) → k < length ls → length won ≡ length ls → list_any f (won_levels ls (set won k true)) ≡ (list_any f (won_levels ls won) || f (get_or ls k no_level))
any_more f [] won k h e = absurd (omega arith)
any_more f (l ∷ ls) [] k h e = absurd (omega arith)
any_more f (l ∷ ls) (b ∷ bs) zero h e = first_won b (f l) (list_any f (won_levels ls bs)) ∙ ap (λ x. x || f l) (sym (any-cond f b l (won_levels ls bs)))
any_more f (l ∷ ls) (true ∷ bs) (suc k) h e = ap (λ x. f l || x) (any_more f ls bs k (omega arith) (omega arith)) ∙ or_assoc (f l) _ _
any_more f (l ∷ ls) (false ∷ bs) (suc k) h e = any_more f ls bs k (omega arith) (omega arith)

pub won_more : (p : Plan) (won : List Bool) (k : ℕ) → k < length p.levels → length won ≡ length p.levels → joined (unlocked p won) (unlocked_by (level_at p k)) ≡ unlocked p (set won k true)
won_more p won k h e =
    same_inventory _ _
    (λ t. sym (any_more (λ l. (unlocked_by l).tactic t) p.levels won k h e))
    (λ n. sym (any_more (λ l. (unlocked_by l).theorem n) p.levels won k h e))

-- the own statement first or last
pub own_last : (a own news : Bool) → ((a || news) || (own || false)) ≡ (a || (own || news))
own_last true own news = refl
own_last false true true = refl
own_last false true false = refl
own_last false false true = refl
own_last false false false = refl

-- ---- the levels are looked at one after the other

won_levels_more : (ls : List Level) (bs : List Bool) (i : ℕ) → i < length ls → i < length bs
    → won_levels (take (suc i) ls) (take (suc i) bs) ≡ won_levels (take i ls) (take i bs) ++ cond (get_or bs i false) (get_or ls i no_level ∷ []) []
won_levels_more [] bs i h e = absurd (omega arith)
won_levels_more (l ∷ ls) [] i h e = absurd (omega arith)
won_levels_more (l ∷ ls) (true ∷ bs) zero h e = refl
won_levels_more (l ∷ ls) (false ∷ bs) zero h e = refl
won_levels_more (l ∷ ls) (true ∷ bs) (suc i) h e = ap (λ v. l ∷ v) (won_levels_more ls bs i (omega arith) (omega arith))
won_levels_more (l ∷ ls) (false ∷ bs) (suc i) h e = won_levels_more ls bs i (omega arith) (omega arith)

or-false : (a b : Bool) → (a || (b || false)) ≡ (a || b)
or-false true b = refl
or-false false true = refl
or-false false false = refl

unlocked_push : (ls : List Level) (l : Level) → unlocked_by_all (ls ++ l ∷ []) ≡ joined (unlocked_by_all ls) (unlocked_by l)
unlocked_push ls l =
    same_inventory _ _
    (λ t. list_any-append (λ v. (unlocked_by v).tactic t) ls (l ∷ []) ∙ or-false _ _)
    (λ n. list_any-append (λ v. (unlocked_by v).theorem n) ls (l ∷ []) ∙ or-false _ _)

pub unlocked_more : (ls : List Level) (bs : List Bool) (i : ℕ) (a : Inventory) → i < length ls → i < length bs → get_or bs i false ≡ true
    → a ≡ unlocked_by_all (won_levels (take i ls) (take i bs)) → joined a (unlocked_by (get_or ls i no_level)) ≡ unlocked_by_all (won_levels (take (i + 1) ls) (take (i + 1) bs))
unlocked_more ls bs i a h e won so_far =
    ap (λ x. joined x (unlocked_by (get_or ls i no_level))) so_far
    ∙ sym (unlocked_push (won_levels (take i ls) (take i bs)) (get_or ls i no_level))
    ∙ ap (λ b. unlocked_by_all (won_levels (take i ls) (take i bs) ++ cond b (get_or ls i no_level ∷ []) [])) (sym won)
    ∙ ap unlocked_by_all (sym (won_levels_more ls bs i h e))
    ∙ ap (λ n. unlocked_by_all (won_levels (take n ls) (take n bs))) (sym (add-one i))

pub unlocked_same : (ls : List Level) (bs : List Bool) (i : ℕ) → i < length ls → i < length bs → get_or bs i false ≡ false
    → unlocked_by_all (won_levels (take i ls) (take i bs)) ≡ unlocked_by_all (won_levels (take (i + 1) ls) (take (i + 1) bs))
unlocked_same ls bs i h e down =
    ap unlocked_by_all (sym (append-nil _))
    ∙ ap (λ b. unlocked_by_all (won_levels (take i ls) (take i bs) ++ cond b (get_or ls i no_level ∷ []) [])) (sym down)
    ∙ ap unlocked_by_all (sym (won_levels_more ls bs i h e))
    ∙ ap (λ n. unlocked_by_all (won_levels (take n ls) (take n bs))) (sym (add-one i))
