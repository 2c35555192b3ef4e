-- Nothing that a shape is and means depends on places.
use Rattle.std.proofs.Common.{◌≡◌, ℕ, suc, ◌+◌, ◌≤◌, Bool, true, false, cond, ◌||◌, ◌==◌, List, [], ◌∷◌, ◌++◌, length, map, sym, ◌∙◌, ap, ap₂, refl, subst}
use Rattle.std.specs.Prelude.{Option, Some, None, option_map, nat_lt}
use Rattle.std.specs.Option.{option_or}
use Rattle.pg_logic.specs.Tree.{succ, Fm, imp, eq, and, or}
use Rattle.pg_grammar.specs.Shapes.{Op, Implies, Or, And, Equal, NotEqual, LessEqual, Less, Plus, Times, Power, Quantifier, Word, Sym, Colon, NatSign, Group, Bracket, Binders, Plain, Typed, Grouped, names, Shape, Named, Numeral, Falsum, Paren, Next, App, Neg, Quant, Binary, IsShape, strength, can_apply, closed, left_min, right_min}
use Rattle.pg_grammar.specs.Nesting.{depths, right_depth, level_with, bracket_depths, all_bracket_depths, binder_depths}
use Rattle.pg_grammar.specs.Printing.{Join, Arrow, Either, Both, Equals, AtMost, Below, Sum, Product, Raised, Tree, Trees, Ended, Also, Call, Number, Never, After, Node, Bind, group_words, bracket_words, binder_words, is_quant, operand, joined, negated, node_shape, applied, unplaced, one_name, shape_of, shapes_of}
use Rattle.pg_meaning.specs.Scope.{Scope, under, in_body, name_needs, number_needs, sign_needs}
use Rattle.pg_meaning.specs.Faults.{Sort, TermSort, FormulaSort, Fault, Expected, Unknown, Arity, operand_sort, sort, beginning, misfit, use_fault, head_fault, own_fault, own_or, parts_fault, first_fault}
use Rattle.pg_meaning.specs.Meaning.{term_of, formula_of, applied as applied_term, holds_at, denied, sign_term, sign_formula, bound_by, quantified}
use Rattle.pg_spelling.specs.Written.{op_text, quantifier_text, bracket_text, brackets_text, binders_text, written}
use Rattle.pg_spelling.specs.Placed.{placed_word, placed_words, placed_group, placed_bracket, placed_brackets, placed_binders, placed, placeless_group, placeless_bracket, placeless_binders, placeless, AreAlike, PlaceLaw}

-- ---- placed and without places

words-again : (at : ℕ) (xs : List Word) → map (placed_word 0) (placed_words at xs) ≡ map (placed_word 0) xs
words-again at [] = refl
words-again at (x ∷ xs) = ap (λ ys. placed_word 0 x ∷ ys) (words-again (at + 1 + length x.text) xs)

group-again : (at : ℕ) (g : Group) → placeless_group (placed_group at g) ≡ placeless_group g
group-again at g = ap (λ ys. record { first = placed_word 0 g.first; others = ys }) (words-again (at + length g.first.text) g.others)

bracket-again : (at : ℕ) (b : Bracket) → placeless_bracket (placed_bracket at b) ≡ placeless_bracket b
bracket-again at b = ap (λ g. record { at = 0; names = g }) (group-again (at + 1) b.names)

brackets-again : (at : ℕ) (bs : List Bracket) → map placeless_bracket (placed_brackets at bs) ≡ map placeless_bracket bs
brackets-again at [] = refl
brackets-again at (b ∷ bs) = ap₂ (λ x xs. x ∷ xs) (bracket-again at b) (brackets-again (at + length (bracket_text b) + 1) bs)

binders-again : (at : ℕ) (b : Binders) → placeless_binders (placed_binders at b) ≡ placeless_binders b
binders-again at (Plain g) = ap Plain (group-again at g)
binders-again at (Typed g) = ap Typed (group-again at g)
binders-again at (Grouped bs b) = ap₂ Grouped (brackets-again at bs) (bracket-again (at + length (brackets_text bs)) b)

placed-again : (at : ℕ) (s : Shape) → placeless (placed at s) ≡ placeless s
placed-again at (Named x) = refl
placed-again at (Numeral n) = refl
placed-again at (Falsum old) = refl
placed-again at (Paren old s) = ap (Paren 0) (placed-again (at + 1) s)
placed-again at (Next old s) = ap (Next 0) (placed-again (at + 5) s)
placed-again at (App f s) = ap₂ App (placed-again at f) (placed-again (at + length (written f) + 1) s)
placed-again at (Neg old s) = ap (Neg 0) (placed-again (at + 3) s)
placed-again at (Quant old q b s) =
    ap₂ (Quant 0 q) (binders-again (at + length (quantifier_text q) + 1) b) (placed-again (at + length (quantifier_text q) + 1 + length (binders_text b) + 2) s)
placed-again at (Binary old op l r) = ap₂ (Binary 0 op) (placed-again at l) (placed-again (at + length (written l) + 1 + length (op_text op) + 1) r)

-- ---- the printed shape

quant-same : (s : Shape) → is_quant (placeless s) ≡ is_quant s
quant-same (Quant at q b s) = refl
quant-same s = refl

strength-same : (s : Shape) → strength (placeless s) ≡ strength s
strength-same (Named x) = refl
strength-same (Numeral n) = refl
strength-same (Falsum at) = refl
strength-same (Paren at s) = refl
strength-same (Next at s) = refl
strength-same (App f s) = refl
strength-same (Neg at s) = refl
strength-same (Quant at q b s) = refl
strength-same (Binary at op l r) = refl

placeless-held : (b : Bool) (s : Shape) → placeless (cond b (Paren 0 s) s) ≡ cond b (Paren 0 (placeless s)) (placeless s)
placeless-held true s = refl
placeless-held false s = refl

placeless-operand : (min : ℕ) (s : Shape) → placeless (operand min s) ≡ operand min (placeless s)
placeless-operand min s =
    placeless-held (is_quant s || nat_lt (strength s) min) s
    ∙ ap₂ (λ q n. cond (q || nat_lt n min) (Paren 0 (placeless s)) (placeless s)) (sym (quant-same s)) (sym (strength-same s))

placeless-joined : (op : Op) (l r : Shape) → placeless (joined op l r) ≡ joined op (placeless l) (placeless r)
placeless-joined op l r = ap₂ (Binary 0 op) (placeless-operand (left_min op) l) (placeless-operand (right_min op) r)

negated-op : (op : Op) (at : ℕ) (l r : Shape) → placeless (negated (Binary at op l r)) ≡ negated (placeless (Binary at op l r))
negated-op Equal at l r = refl
negated-op Implies at l r = ap (Neg 0) (placeless-operand 40 (Binary at Implies l r))
negated-op Or at l r = ap (Neg 0) (placeless-operand 40 (Binary at Or l r))
negated-op And at l r = ap (Neg 0) (placeless-operand 40 (Binary at And l r))
negated-op NotEqual at l r = ap (Neg 0) (placeless-operand 40 (Binary at NotEqual l r))
negated-op LessEqual at l r = ap (Neg 0) (placeless-operand 40 (Binary at LessEqual l r))
negated-op Less at l r = ap (Neg 0) (placeless-operand 40 (Binary at Less l r))
negated-op Plus at l r = ap (Neg 0) (placeless-operand 40 (Binary at Plus l r))
negated-op Times at l r = ap (Neg 0) (placeless-operand 40 (Binary at Times l r))
negated-op Power at l r = ap (Neg 0) (placeless-operand 40 (Binary at Power l r))

placeless-negated : (s : Shape) → placeless (negated s) ≡ negated (placeless s)
placeless-negated (Binary at op l r) = negated-op op at l r
placeless-negated (Named x) = refl
placeless-negated (Numeral n) = refl
placeless-negated (Falsum at) = refl
placeless-negated (Paren at s) = refl
placeless-negated (Next at s) = refl
placeless-negated (App f s) = refl
placeless-negated (Neg at s) = ap (Neg 0) (placeless-operand 40 (Neg at s))
placeless-negated (Quant at q b s) = refl

placeless-arrow : (t : Tree) (l r : Shape) → placeless (node_shape Arrow l t r) ≡ node_shape Arrow (placeless l) t (placeless r)
placeless-arrow Never l r = placeless-negated l
placeless-arrow (Call f ts) l r = placeless-joined Implies l r
placeless-arrow (Number n) l r = placeless-joined Implies l r
placeless-arrow (After t ts) l r = placeless-joined Implies l r
placeless-arrow (Node join t u) l r = placeless-joined Implies l r
placeless-arrow (Bind q x t) l r = placeless-joined Implies l r

placeless-node : (join : Join) (t : Tree) (l r : Shape) → placeless (node_shape join l t r) ≡ node_shape join (placeless l) t (placeless r)
placeless-node Arrow t l r = placeless-arrow t l r
placeless-node Either t l r = placeless-joined Or l r
placeless-node Both t l r = placeless-joined And l r
placeless-node Equals t l r = placeless-joined Equal l r
placeless-node AtMost t l r = placeless-joined LessEqual l r
placeless-node Below t l r = placeless-joined Less l r
placeless-node Sum t l r = placeless-joined Plus l r
placeless-node Product t l r = placeless-joined Times l r
placeless-node Raised t l r = placeless-joined Power l r

placeless-applied : (f : Shape) (ss : List Shape) → placeless (applied f ss) ≡ applied (placeless f) (map placeless ss)
placeless-applied f [] = refl
placeless-applied f (s ∷ ss) = placeless-applied (App f (operand 101 s)) ss ∙ ap (λ x. applied (App (placeless f) x) (map placeless ss)) (placeless-operand 101 s)

mutual
  printed-placeless : (t : Tree) → placeless (shape_of t) ≡ shape_of t
  printed-placeless (Call f ts) = placeless-applied (Named (unplaced f)) (shapes_of ts) ∙ ap (applied (Named (unplaced f))) (all-placeless ts)
  printed-placeless (Number n) = refl
  printed-placeless Never = refl
  printed-placeless (After t ts) =
      placeless-applied (Next 0 (operand 101 (shape_of t))) (shapes_of ts)
      ∙ ap₂ (λ s ss. applied (Next 0 s) ss) (placeless-operand 101 (shape_of t) ∙ ap (operand 101) (printed-placeless t)) (all-placeless ts)
  printed-placeless (Node join l r) = placeless-node join r (shape_of l) (shape_of r) ∙ ap₂ (λ x y. node_shape join x r y) (printed-placeless l) (printed-placeless r)
  printed-placeless (Bind q x t) = ap (Quant 0 q (one_name x)) (printed-placeless t)

  all-placeless : (ts : Trees) → map placeless (shapes_of ts) ≡ shapes_of ts
  all-placeless Ended = refl
  all-placeless (Also t ts) = ap₂ (λ x xs. x ∷ xs) (printed-placeless t) (all-placeless ts)

-- ---- shapes

can-apply-same : (s : Shape) → can_apply (placeless s) ≡ can_apply s
can-apply-same (Named x) = refl
can-apply-same (Numeral n) = refl
can-apply-same (Falsum at) = refl
can-apply-same (Paren at s) = refl
can-apply-same (Next at s) = refl
can-apply-same (App f s) = refl
can-apply-same (Neg at s) = refl
can-apply-same (Quant at q b s) = refl
can-apply-same (Binary at op l r) = refl

closed-same : (s : Shape) → closed (placeless s) ≡ closed s
closed-same (Named x) = refl
closed-same (Numeral n) = refl
closed-same (Falsum at) = refl
closed-same (Paren at s) = refl
closed-same (Next at s) = refl
closed-same (App f s) = refl
closed-same (Neg at s) = closed-same s
closed-same (Quant at q b s) = refl
closed-same (Binary at op l r) = closed-same r

shape-down : (s : Shape) → IsShape s → IsShape (placeless s)
shape-down (Named x) h = tt
shape-down (Numeral n) h = tt
shape-down (Falsum at) h = tt
shape-down (Paren at s) h = shape-down s h
shape-down (Next at s) h = (subst (λ n. 101 ≤ n) (sym (strength-same s)) h.0, shape-down s h.1)
shape-down (App f s) h = (can-apply-same f ∙ h.0, subst (λ n. 101 ≤ n) (sym (strength-same s)) h.1, shape-down f h.2, shape-down s h.3)
shape-down (Neg at s) h = (subst (λ n. 40 ≤ n) (sym (strength-same s)) h.0, shape-down s h.1)
shape-down (Quant at q b s) h = shape-down s h
shape-down (Binary at op l r) h =
    (subst (λ n. left_min op ≤ n) (sym (strength-same l)) h.0, subst (λ n. right_min op ≤ n) (sym (strength-same r)) h.1, shape-down l h.2, shape-down r h.3, closed-same l ∙ h.4)

shape-up : (s : Shape) → IsShape (placeless s) → IsShape s
shape-up (Named x) h = tt
shape-up (Numeral n) h = tt
shape-up (Falsum at) h = tt
shape-up (Paren at s) h = shape-up s h
shape-up (Next at s) h = (subst (λ n. 101 ≤ n) (strength-same s) h.0, shape-up s h.1)
shape-up (App f s) h = (sym (can-apply-same f) ∙ h.0, subst (λ n. 101 ≤ n) (strength-same s) h.1, shape-up f h.2, shape-up s h.3)
shape-up (Neg at s) h = (subst (λ n. 40 ≤ n) (strength-same s) h.0, shape-up s h.1)
shape-up (Quant at q b s) h = shape-up s h
shape-up (Binary at op l r) h =
    (subst (λ n. left_min op ≤ n) (strength-same l) h.0, subst (λ n. right_min op ≤ n) (strength-same r) h.1, shape-up l h.2, shape-up r h.3, sym (closed-same l) ∙ h.4)

-- ---- nesting

names-depths : (d : ℕ) (xs : List Word) (more : List Sym) → level_with d (names (map (placed_word 0) xs) ++ more) ≡ level_with d (names xs ++ more)
names-depths d [] more = refl
names-depths d (x ∷ xs) more = ap (λ ds. d ∷ ds) (names-depths d xs more)

plain-depths : (d : ℕ) (xs : List Word) → level_with d (names (map (placed_word 0) xs)) ≡ level_with d (names xs)
plain-depths d [] = refl
plain-depths d (x ∷ xs) = ap (λ ds. d ∷ ds) (plain-depths d xs)

bracket-depths : (d : ℕ) (b : Bracket) → bracket_depths d (placeless_bracket b) ≡ bracket_depths d b
bracket-depths d b = ap (λ ds. d ∷ (suc d ∷ ds ++ d ∷ [])) (names-depths (suc d) b.names.others (Colon ∷ NatSign ∷ []))

brackets-depths : (d : ℕ) (bs : List Bracket) → all_bracket_depths d (map placeless_bracket bs) ≡ all_bracket_depths d bs
brackets-depths d [] = refl
brackets-depths d (b ∷ bs) = ap₂ (λ x y. x ++ y) (bracket-depths d b) (brackets-depths d bs)

binders-depths : (d : ℕ) (b : Binders) → binder_depths d (placeless_binders b) ≡ binder_depths d b
binders-depths d (Plain g) = ap (λ ds. d ∷ ds) (plain-depths d g.others)
binders-depths d (Typed g) = ap (λ ds. d ∷ ds) (names-depths d g.others (Colon ∷ NatSign ∷ []))
binders-depths d (Grouped bs b) = ap₂ (λ x y. x ++ y) (brackets-depths d bs) (bracket-depths d b)

depths-same : (d : ℕ) (s : Shape) → depths d (placeless s) ≡ depths d s
depths-same d (Named x) = refl
depths-same d (Numeral n) = refl
depths-same d (Falsum at) = refl
depths-same d (Paren at s) = ap (λ ds. d ∷ (ds ++ d ∷ [])) (depths-same (suc d) s)
depths-same d (Next at s) = ap (λ ds. d ∷ ds) (depths-same d s)
depths-same d (App f s) = ap₂ (λ x y. x ++ y) (depths-same d f) (depths-same d s)
depths-same d (Neg at s) = ap (λ ds. d ∷ ds) (depths-same (suc d) s)
depths-same d (Quant at q b s) = ap₂ (λ x y. d ∷ (x ++ suc d ∷ y)) (binders-depths (suc d) b) (depths-same (suc d) s)
depths-same d (Binary at op l r) = ap₂ (λ x y. x ++ d ∷ y) (depths-same d l) (depths-same (right_depth op d) r)

-- ---- names of binders

map-both : {X Y : Type 0} (f : X → Y) (xs ys : List X) → map f (xs ++ ys) ≡ map f xs ++ map f ys
map-both f [] ys = refl
map-both f (x ∷ xs) ys = ap (λ zs. f x ∷ zs) (map-both f xs ys)

brackets-words : (bs : List Bracket) → bracket_words (map placeless_bracket bs) ≡ map (placed_word 0) (bracket_words bs)
brackets-words [] = refl
brackets-words (b ∷ bs) = ap (λ ws. group_words (placeless_group b.names) ++ ws) (brackets-words bs) ∙ sym (map-both (placed_word 0) (group_words b.names) (bracket_words bs))

binders-words : (b : Binders) → binder_words (placeless_binders b) ≡ map (placed_word 0) (binder_words b)
binders-words (Plain g) = refl
binders-words (Typed g) = refl
binders-words (Grouped bs b) =
    ap (λ ws. ws ++ group_words (placeless_group b.names)) (brackets-words bs) ∙ sym (map-both (placed_word 0) (bracket_words bs) (group_words b.names))

under-same : (c : Scope) (xs : List Word) → under c (map (placed_word 0) xs) ≡ under c xs
under-same c [] = refl
under-same c (x ∷ xs) = under-same (record { vars = c.vars; binders = x.text ∷ c.binders; declared = c.declared }) xs

body-same : (c : Scope) (b : Binders) → in_body c (placeless_binders b) ≡ in_body c b
body-same c b = ap (under c) (binders-words b) ∙ under-same c (binder_words b)

bound-same : (q : Quantifier) (xs : List Word) (a : Fm) → bound_by q (map (placed_word 0) xs) a ≡ bound_by q xs a
bound-same q [] a = refl
bound-same q (x ∷ xs) a = ap (quantified q x.text) (bound-same q xs a)

-- ---- meaning

term-same : (c : Scope) (s : Shape) → term_of c (placeless s) ≡ term_of c s
term-same c (Named x) = refl
term-same c (Numeral n) = refl
term-same c (Falsum at) = refl
term-same c (Paren at s) = term-same c s
term-same c (Next at s) = ap succ (term-same c s)
term-same c (App f s) = ap₂ applied_term (term-same c f) (term-same c s)
term-same c (Neg at s) = refl
term-same c (Quant at q b s) = refl
term-same c (Binary at op l r) = ap₂ (sign_term c op) (term-same c l) (term-same c r)

joined-same : (c : Scope) (op : Op) (at : ℕ) (l r : Shape) → formula_of c (placeless l) ≡ formula_of c l → formula_of c (placeless r) ≡ formula_of c r
    → formula_of c (Binary 0 op (placeless l) (placeless r)) ≡ formula_of c (Binary at op l r)
joined-same c Implies at l r h k = ap₂ imp h k
joined-same c Or at l r h k = ap₂ or h k
joined-same c And at l r h k = ap₂ and h k
joined-same c Equal at l r h k = ap₂ eq (term-same c l) (term-same c r)
joined-same c NotEqual at l r h k = ap₂ (λ x y. denied (eq x y)) (term-same c l) (term-same c r)
joined-same c LessEqual at l r h k = ap₂ (sign_formula c LessEqual) (term-same c l) (term-same c r)
joined-same c Less at l r h k = ap₂ (sign_formula c Less) (term-same c l) (term-same c r)
joined-same c Plus at l r h k = refl
joined-same c Times at l r h k = refl
joined-same c Power at l r h k = refl

formula-same : (c : Scope) (s : Shape) → formula_of c (placeless s) ≡ formula_of c s
formula-same c (Named x) = refl
formula-same c (Numeral n) = refl
formula-same c (Falsum at) = refl
formula-same c (Paren at s) = formula-same c s
formula-same c (Next at s) = refl
formula-same c (App f s) = ap₂ holds_at (formula-same c f) (term-same c s)
formula-same c (Neg at s) = ap denied (formula-same c s)
formula-same c (Quant at q b s) =
    ap (λ xs. bound_by q xs (formula_of (in_body c (placeless_binders b)) (placeless s))) (binders-words b)
    ∙ bound-same q (binder_words b) (formula_of (in_body c (placeless_binders b)) (placeless s))
    ∙ ap (λ d. bound_by q (binder_words b) (formula_of d (placeless s))) (body-same c b)
    ∙ ap (bound_by q (binder_words b)) (formula-same (in_body c b) s)
formula-same c (Binary at op l r) = joined-same c op at l r (formula-same c l) (formula-same c r)

-- ---- faults

-- a fault without its place
nowhere : Fault → Fault
nowhere (Expected at) = Expected 0
nowhere (Unknown at) = Unknown 0
nowhere (Arity at has needs) = Arity 0 has needs

abbrev lost : Option Fault → Option Fault
lost o = option_map nowhere o

lost-or : (a b : Option Fault) → lost (option_or a b) ≡ option_or (lost a) (lost b)
lost-or None b = refl
lost-or (Some f) b = refl

sort-same : (c : Scope) (s : Shape) → sort c (placeless s) ≡ sort c s
sort-same c (Named x) = refl
sort-same c (Numeral n) = refl
sort-same c (Falsum at) = refl
sort-same c (Paren at s) = sort-same c s
sort-same c (Next at s) = refl
sort-same c (App f s) = sort-same c f
sort-same c (Neg at s) = refl
sort-same c (Quant at q b s) = refl
sort-same c (Binary at op l r) = refl

begins-nowhere : (s : Shape) → beginning (placeless s) ≡ 0
begins-nowhere (Named x) = refl
begins-nowhere (Numeral n) = refl
begins-nowhere (Falsum at) = refl
begins-nowhere (Paren at s) = refl
begins-nowhere (Next at s) = refl
begins-nowhere (App f s) = begins-nowhere f
begins-nowhere (Neg at s) = refl
begins-nowhere (Quant at q b s) = refl
begins-nowhere (Binary at op l r) = begins-nowhere l

misfit-lost : (want : Sort) (o : Option Sort) (at : ℕ) → misfit want o 0 ≡ lost (misfit want o at)
unfolding nowhere
misfit-lost TermSort None at = refl
misfit-lost FormulaSort None at = refl
misfit-lost TermSort (Some TermSort) at = refl
misfit-lost TermSort (Some FormulaSort) at = refl
misfit-lost FormulaSort (Some TermSort) at = refl
misfit-lost FormulaSort (Some FormulaSort) at = refl

use-lost : (at has : ℕ) (o : Option ℕ) → use_fault 0 has o ≡ lost (use_fault at has o)
unfolding nowhere
use-lost at has None = refl
use-lost at has (Some needs) = by_test (has == needs)
  where
    by_test : (b : Bool) → cond b None (Some (Arity 0 has needs)) ≡ lost (cond b None (Some (Arity at has needs)))
    by_test true = refl
    by_test false = refl

head-lost : (c : Scope) (n : ℕ) (s : Shape) → head_fault c n (placeless s) ≡ lost (head_fault c n s)
head-lost c n (Named x) = use-lost x.at n (name_needs c x.text)
head-lost c n (Numeral x) = use-lost x.at n (number_needs c x.text)
head-lost c n (Falsum at) = refl
head-lost c n (Paren at s) = head-lost c n s
head-lost c n (Next at s) = use-lost at (n + 1) (Some 1)
head-lost c n (App f s) = head-lost c (n + 1) f
head-lost c n (Neg at s) = refl
head-lost c n (Quant at q b s) = refl
head-lost c n (Binary at op l r) = use-lost at 2 (sign_needs c op)

own-lost : (c : Scope) (want : Sort) (s : Shape) → own_fault c want (placeless s) ≡ lost (own_fault c want s)
own-lost c want s =
    ap₂ (λ o at. option_or (misfit want o at) (head_fault c 0 (placeless s))) (sort-same c s) (begins-nowhere s)
    ∙ ap₂ option_or (misfit-lost want (sort c s) (beginning s)) (head-lost c 0 s)
    ∙ sym (lost-or (misfit want (sort c s) (beginning s)) (head_fault c 0 s))

or-lost : (c : Scope) (want : Sort) (s : Shape) (o p : Option Fault) → o ≡ lost p → own_or c want (placeless s) o ≡ lost (own_or c want s p)
or-lost c want s o p h = ap₂ option_or (own-lost c want s) h ∙ sym (lost-or (own_fault c want s) p)

parts-lost : (c : Scope) (s : Shape) → parts_fault c (placeless s) ≡ lost (parts_fault c s)
parts-lost c (Named x) = refl
parts-lost c (Numeral n) = refl
parts-lost c (Falsum at) = refl
parts-lost c (Paren at s) = parts-lost c s
parts-lost c (Next at s) = or-lost c TermSort s _ _ (parts-lost c s)
parts-lost c (App f s) =
    ap₂ option_or (parts-lost c f) (or-lost c TermSort s _ _ (parts-lost c s)) ∙ sym (lost-or (parts_fault c f) (own_or c TermSort s (parts_fault c s)))
parts-lost c (Neg at s) = or-lost c FormulaSort s _ _ (parts-lost c s)
parts-lost c (Quant at q b s) =
    ap (λ d. own_or d FormulaSort (placeless s) (parts_fault d (placeless s))) (body-same c b) ∙ or-lost (in_body c b) FormulaSort s _ _ (parts-lost (in_body c b) s)
parts-lost c (Binary at op l r) =
    ap₂ option_or (or-lost c (operand_sort op) l _ _ (parts-lost c l)) (or-lost c (operand_sort op) r _ _ (parts-lost c r))
    ∙ sym (lost-or (own_or c (operand_sort op) l (parts_fault c l)) (own_or c (operand_sort op) r (parts_fault c r)))

first-lost : (c : Scope) (want : Sort) (s : Shape) → first_fault c want (placeless s) ≡ lost (first_fault c want s)
first-lost c want s = or-lost c want s _ _ (parts-lost c s)

none-lost : (o : Option Fault) → lost o ≡ None → o ≡ None
none-lost None h = refl
none-lost (Some f) h = cc

-- ---- the law

alike : (s t : Shape) → placeless s ≡ placeless t → AreAlike s t
alike s t e = record {
  shape = λ h. shape-up t (subst IsShape e (shape-down s h));
  nesting = λ d. sym (depths-same d s) ∙ ap (depths d) e ∙ depths-same d t;
  term = λ c. sym (term-same c s) ∙ ap (term_of c) e ∙ term-same c t;
  formula = λ c. sym (formula-same c s) ∙ ap (formula_of c) e ∙ formula-same c t;
  faultless = λ c want h.
      none-lost (first_fault c want t) (sym (first-lost c want t) ∙ ap (first_fault c want) (sym e) ∙ first-lost c want s ∙ ap lost h);
}

pub place-law : PlaceLaw
place-law = record { placed_again = placed-again; printed = printed-placeless; alike = alike }
