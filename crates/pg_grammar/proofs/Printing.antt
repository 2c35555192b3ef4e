-- What is printed is a shape of that meaning, so it reads back.
use Rattle.std.proofs.Common.{◌≡◌, ℕ, ◌≤◌, Bool, true, false, ◌||◌, List, [], ◌∷◌, nat_lt, sym as flip, ◌∙◌, ap, ap₂, refl, subst, arith}
use Rattle.std.proofs.lemmas.Bool.Decides.{nat_tests}
use Rattle.pg_grammar.specs.Shapes.{Op, Equal, left_min, right_min, Shape, Named, Paren, Next, App, Neg, Binary, strength, can_apply, closed, IsShape}
use Rattle.pg_grammar.specs.Printing.{Join, Arrow, Either, Both, Equals, AtMost, Below, Sum, Product, Raised, sign_of, Tree, Trees, Ended, Also, chain, Call, Number, Never, After, Node, Bind, denied, with_arg, joined_by, meaning, is_quant, operand, joined, negated, node_shape, applied, unplaced, shape_of, shapes_of}
use Rattle.pg_grammar.specs.Laws.{PrintingLaw}
use Rattle.pg_grammar.proofs.Table.{left-fits, right-fits}
use Rattle.pg_grammar.proofs.Sound.{by_test}

or_left : (a b : Bool) → (a || b) ≡ false → a ≡ false
or_left true b h = cc
or_left false b h = refl

or_right : (a b : Bool) → (a || b) ≡ false → b ≡ false
or_right true b h = cc
or_right false b h = h

-- a printed shape is good, means its tree, and ends in an open quantifier only if it is one
record Printed (s : Shape) (t : Tree) : Type 0 where
  good : IsShape s
  means : meaning s ≡ t
  ends : is_quant s ≡ false → closed s ≡ true

record Fits (min : ℕ) (s : Shape) (t : Tree) : Type 0 where
  good : IsShape s
  means : meaning s ≡ t
  strong : min ≤ strength s
  ends : closed s ≡ true

operand-fits : (min : ℕ) (s : Shape) (t : Tree) → min ≤ 101 → Printed s t → Fits min (operand min s) t
operand-fits min s t le p =
    by_test (λ x. Fits min x t) (is_quant s || nat_lt (strength s) min) (Paren 0 s) s
    (λ h. record { good = p.good; means = p.means; strong = le; ends = refl })
    (λ h. let weak : nat_lt (strength s) min ≡ false = or_right (is_quant s) (nat_lt (strength s) min) h in
    record { good = p.good; means = p.means; strong = grind (arith, nat_tests, weak); ends = p.ends (or_left (is_quant s) (nat_lt (strength s) min) h) })

sign-means : (j : Join) (x y : Tree) → joined_by (sign_of j) x y ≡ Node j x y
sign-means Arrow x y = refl
sign-means Either x y = refl
sign-means Both x y = refl
sign-means Equals x y = refl
sign-means AtMost x y = refl
sign-means Below x y = refl
sign-means Sum x y = refl
sign-means Product x y = refl
sign-means Raised x y = refl

joined-prints : (j : Join) (l r : Shape) (x y : Tree) → Printed l x → Printed r y → Printed (joined (sign_of j) l r) (Node j x y)
joined-prints j l r x y p q =
    let op : Op = sign_of j in
    let a : Fits (left_min op) (operand (left_min op) l) x = operand-fits (left_min op) l x (omega (arith, left-fits op)) p in
    let b : Fits (right_min op) (operand (right_min op) r) y = operand-fits (right_min op) r y (omega (arith, right-fits op)) q in
    record { good = (a.strong, b.strong, a.good, b.good, a.ends); means = ap₂ (joined_by op) a.means b.means ∙ sign-means j x y; ends = λ h. b.ends }

neg-prints : (l : Shape) (x : Tree) → Printed l x → Printed (Neg 0 (operand 40 l)) (denied x)
neg-prints l x p =
    let a : Fits 40 (operand 40 l) x = operand-fits 40 l x (omega arith) p in
    record { good = (a.strong, a.good); means = ap denied a.means; ends = λ h. a.ends }

negated-prints : (l : Shape) (x : Tree) → Printed l x → Printed (negated l) (denied x)
negated-prints (Binary at Equal a b) x p = record { good = p.good; means = ap denied p.means; ends = p.ends }
negated-prints s x p = neg-prints s x p

node-prints : (j : Join) (l r : Shape) (x y : Tree) → Printed l x → Printed r y → Printed (node_shape j l y r) (Node j x y)
node-prints Arrow l r x Never p q = negated-prints l x p
node-prints j l r x y p q = joined-prints j l r x y p q

-- ---- applications

chain-nil : (ts : Trees) → chain ts Ended ≡ ts
chain-nil Ended = refl
chain-nil (Also t ts) = ap (Also t) (chain-nil ts)

chain_assoc : (a b c : Trees) → chain (chain a b) c ≡ chain a (chain b c)
chain_assoc Ended b c = refl
chain_assoc (Also t a) b c = ap (Also t) (chain_assoc a b c)

abbrev AllPrint : List Shape → Trees → Type 0
AllPrint [] Ended = Unit {0}
AllPrint [] (Also t ts) = ⊥
AllPrint (s ∷ ss) Ended = ⊥
AllPrint (s ∷ ss) (Also t ts) = Printed s t × AllPrint ss ts

-- a tree that takes arguments behind those that it has
record Takes (head : Trees → Tree) : Type 0 where
  more : (ts : Trees) (t : Tree) → with_arg (head ts) t ≡ head (chain ts (Also t Ended))

-- what has arguments behind it
record Applies (s : Shape) (t : Tree) : Type 0 where
  good : IsShape s
  means : meaning s ≡ t
  can : can_apply s ≡ true
  ends : closed s ≡ true

applied-prints : (head : Trees → Tree) → Takes head → (s : Shape) (before : Trees) (ss : List Shape) (ts : Trees) → Applies s (head before) → AllPrint ss ts → Printed (applied s ss) (head (chain before ts))
applied-prints head k s before [] Ended a h = record { good = a.good; means = a.means ∙ ap head (flip (chain-nil before)); ends = λ q. a.ends }
applied-prints head k s before [] (Also t ts) a h = absurd h
applied-prints head k s before (x ∷ ss) Ended a h = absurd h
applied-prints head k s before (x ∷ ss) (Also t ts) a h =
    let b : Fits 101 (operand 101 x) t = operand-fits 101 x t (omega arith) h.0 in
    let P : Trees → Type 0 = λ l. Printed (applied s (x ∷ ss)) (head l) in
    subst P (chain_assoc before (Also t Ended) ts)
    (applied-prints head k (App s (operand 101 x)) (chain before (Also t Ended)) ss ts
    (record { good = (a.can, b.strong, a.good, b.good); means = ap₂ with_arg a.means b.means ∙ k.more before t; can = refl; ends = refl }) h.1)

mutual
  prints : (t : Tree) → Printed (shape_of t) t
  prints (Call f ts) =
      applied-prints (Call f) (record { more = λ a b. refl }) (Named (unplaced f)) Ended (shapes_of ts) ts (record { good = tt; means = refl; can = refl; ends = refl }) (all-print ts)
  prints (Number n) = record { good = tt; means = refl; ends = λ h. refl }
  prints Never = record { good = tt; means = refl; ends = λ h. refl }
  prints (After t ts) =
      let a : Fits 101 (operand 101 (shape_of t)) t = operand-fits 101 (shape_of t) t (omega arith) (prints t) in
      applied-prints (After t) (record { more = λ b c. refl }) (Next 0 (operand 101 (shape_of t))) Ended (shapes_of ts) ts
      (record { good = (a.strong, a.good); means = ap (λ x. After x Ended) a.means; can = refl; ends = refl }) (all-print ts)
  prints (Node j l r) = node-prints j (shape_of l) (shape_of r) l r (prints l) (prints r)
  prints (Bind q x t) = let p : Printed (shape_of t) t = prints t in record { good = p.good; means = ap (Bind q x) p.means; ends = λ h. cc }

  all-print : (ts : Trees) → AllPrint (shapes_of ts) ts
  all-print Ended = tt
  all-print (Also t ts) = (prints t, all-print ts)

pub printing-law : PrintingLaw
printing-law t = let p : Printed (shape_of t) t = prints t in record { shape = p.good; means = p.means }
