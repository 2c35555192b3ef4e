-- How strong printed trees are, and what their parts are.
use Rattle.std.proofs.Common.{◌≡◌, ℕ, ◌<◌, Bool, true, false, cond, List, [], ◌∷◌, ◌++◌, length, codes, refl, ap, sym, ◌∙◌, arith, append_assoc, append-nil}
use Rattle.std.specs.Prelude.{Option, Some, None, option_map, ◌==◌, Result, Ok, Err, OnOk, IfOk}
use Rattle.std.proofs.lemmas.Bool.{false≢true}
use Rattle.pg_logic.specs.Tree.{Tm, Tms, none, arg, Fm, falsum, eq, pred, and, or, imp, all, ex}
use Rattle.pg_logic.specs.Declarations.{Name}
use Rattle.pg_grammar.specs.Shapes.{Op, Implies, Or, And, Equal, NotEqual, LessEqual, Less, Plus, Times, Power, Shape, Named, Numeral, Falsum, Paren, Next, App, Neg, Quant, Binary, level, left_min, right_min}
use Rattle.pg_grammar.specs.Printing.{Join, Arrow, Either, Both, Equals, AtMost, Below, Sum, Product, Raised, sign_of, Tree, Ended, Call, Number, operand, joined, negated, applied, unplaced, shape_of, shapes_of}
use Rattle.std.specs.Str.{bytes_eq}
use Rattle.pg_terms.specs.declared.term.Term.{Term}
use Rattle.pg_terms.specs.View.{term, args}
use Rattle.pg_meaning.specs.Scope.{Scope}
use Rattle.pg_spelling.specs.Named.{name_at, predicate_names, named, named_all, named_formula, at_arguments, alone, between, begins_with_digit, sign_in, sign_named}
use Rattle.pg_spelling.specs.Written.{written}
use Rattle.pg_spelling.proofs.Back.{arrow-other}
use Rattle.pg_syntax.specs.Places.{weight, operand_text, is_falsum, is_equation}
use Rattle.pg_syntax.specs.Texts.{arguments_text}

-- ---- applications

weight-applied : (f x : Shape) (xs : List Shape) → weight (applied (App f x) xs) ≡ 100
weight-applied f x [] = refl
weight-applied f x (y ∷ ys) = weight-applied (App f x) (operand 101 y) ys

tail_text : List Shape → List ℕ
tail_text [] = []
tail_text (x ∷ xs) = codes " " ++ (operand_text 101 x ++ tail_text xs)

written-applied : (f : Shape) (xs : List Shape) → written (applied f xs) ≡ written f ++ tail_text xs
unfolding tail_text
written-applied f [] = sym (append-nil (written f))
written-applied f (x ∷ xs) = written-applied (App f (operand 101 x)) xs ∙ append_assoc (written f) (32 ∷ operand_text 101 x) (tail_text xs)

tail-arguments : (s : Scope) (ts : Tms) → tail_text (shapes_of (named_all s ts)) ≡ arguments_text s ts
unfolding tail_text
tail-arguments s none = refl
tail-arguments s (arg t ts) = ap (λ l. 32 ∷ (operand_text 101 (shape_of (named s t)) ++ l)) (tail-arguments s ts)

pub written-call : (s : Scope) (name : Name) (ts : Tms) → written (shape_of (Call name (named_all s ts))) ≡ name ++ arguments_text s ts
written-call s name ts = written-applied (Named (unplaced name)) (shapes_of (named_all s ts)) ∙ ap (λ l. name ++ l) (tail-arguments s ts)

written-alone : (name : Name) → written (shape_of (alone name)) ≡ name ++ []
written-alone name = by_digit (begins_with_digit name)
  where
    by_digit : (b : Bool) → written (shape_of (cond b (Number name) (Call name Ended))) ≡ name ++ []
    by_digit true = sym (append-nil name)
    by_digit false = sym (append-nil name)

-- a name before its arguments, where it isn't a sign between two
pub written-before : (s : Scope) (name : Name) (ts : Tms) → ((a b : Tm) → ts ≡ arg a (arg b none) → sign_named name ≡ None)
    → written (shape_of (at_arguments name (named_all s ts))) ≡ name ++ arguments_text s ts
written-before s name none h = written-alone name
written-before s name (arg a none) h = written-call s name (arg a none)
written-before s name (arg a (arg b none)) h =
    ap (λ o. written (shape_of (between o name (named s a) (named s b)))) (h a b refl) ∙ written-call s name (arg a (arg b none))
written-before s name (arg a (arg b (arg c ts))) h = written-call s name (arg a (arg b (arg c ts)))

-- ---- signs

-- no name is an arrow's, nor that of =
abbrev IsPlain : Option Join → Type 0
IsPlain None = Unit {0}
IsPlain (Some Arrow) = ⊥
IsPlain (Some Equals) = ⊥
IsPlain (Some j) = Unit {0}

abbrev ArePlain : List (Name × Join) → Type 0
ArePlain [] = Unit {0}
ArePlain (row ∷ rows) = IsPlain (Some row.1) × ArePlain rows

plain-in : (rows : List (Name × Join)) (name : Name) → ArePlain rows → IsPlain (sign_in rows name)
plain-in [] name h = tt
plain-in (row ∷ rows) name h = pick (bytes_eq name row.0) (Some row.1) (sign_in rows name) h.0 (plain-in rows name h.1)
  where
    pick : (b : Bool) (x y : Option Join) → IsPlain x → IsPlain y → IsPlain (cond b x y)
    pick true x y p q = p
    pick false x y p q = q

plain-named : (name : Name) → IsPlain (sign_named name)
plain-named name = plain-in ((codes "+", Sum) ∷ (codes "*", Product) ∷ (codes "^", Raised) ∷ (226 ∷ 137 ∷ 164 ∷ [], AtMost) ∷ (codes "<", Below) ∷ []) name (tt, (tt, (tt, (tt, (tt, tt)))))

sign-between : (o : Option Join) (x : Op) (name : Name) (a b : Tree) → IsPlain o → Some x ≡ option_map sign_of o → shape_of (between o name a b) ≡ joined x (shape_of a) (shape_of b)
sign-between None x name a b p is = cc
sign-between (Some Arrow) x name a b p is = absurd p
sign-between (Some Either) x name a b p is = let f : x ≡ sign_of Either = cc in ap (λ o. joined o (shape_of a) (shape_of b)) (sym f)
sign-between (Some Both) x name a b p is = let f : x ≡ sign_of Both = cc in ap (λ o. joined o (shape_of a) (shape_of b)) (sym f)
sign-between (Some Equals) x name a b p is = absurd p
sign-between (Some AtMost) x name a b p is = let f : x ≡ sign_of AtMost = cc in ap (λ o. joined o (shape_of a) (shape_of b)) (sym f)
sign-between (Some Below) x name a b p is = let f : x ≡ sign_of Below = cc in ap (λ o. joined o (shape_of a) (shape_of b)) (sym f)
sign-between (Some Sum) x name a b p is = let f : x ≡ sign_of Sum = cc in ap (λ o. joined o (shape_of a) (shape_of b)) (sym f)
sign-between (Some Product) x name a b p is = let f : x ≡ sign_of Product = cc in ap (λ o. joined o (shape_of a) (shape_of b)) (sym f)
sign-between (Some Raised) x name a b p is = let f : x ≡ sign_of Raised = cc in ap (λ o. joined o (shape_of a) (shape_of b)) (sym f)

pub shape-sign : (s : Scope) (name : Name) (a b : Tm) (x : Op) → Some x ≡ option_map sign_of (sign_named name)
    → shape_of (at_arguments name (named_all s (arg a (arg b none)))) ≡ joined x (shape_of (named s a)) (shape_of (named s b))
shape-sign s name a b x is = sign-between (sign_named name) x name (named s a) (named s b) (plain-named name) is

pub no_sign : (name : Name) → None ≡ option_map sign_of (sign_named name) → sign_named name ≡ None
no_sign name is = none (sign_named name) is
  where
    none : (o : Option Join) → None ≡ option_map sign_of o → o ≡ None
    none None is = refl
    none (Some j) is = cc

pub written-no_sign : (s : Scope) (name : Name) (ts : Tms) → None ≡ option_map sign_of (sign_named name) → written (shape_of (at_arguments name (named_all s ts))) ≡ name ++ arguments_text s ts
written-no_sign s name ts is = written-before s name ts (λ a b e. no_sign name is)

-- another number of arguments than 2
pub written-other : (s : Scope) (name : Name) (ts : List Term) → (length ts ≡ 2 → ⊥) → written (shape_of (at_arguments name (named_all s (args ts)))) ≡ name ++ arguments_text s (args ts)
written-other s name [] h = written-alone name
written-other s name (a ∷ []) h = written-call s name (args (a ∷ []))
written-other s name (a ∷ b ∷ []) h = absurd (h refl)
written-other s name (a ∷ b ∷ d ∷ ts) h = written-call s name (args (a ∷ b ∷ d ∷ ts))

-- ---- weights

weight-call : (s : Scope) (name : Name) (t : Tm) (ts : Tms) → weight (shape_of (Call name (named_all s (arg t ts)))) ≡ 100
weight-call s name t ts = weight-applied (Named (unplaced name)) (operand 101 (shape_of (named s t))) (shapes_of (named_all s ts))

pub weight-other : (s : Scope) (name : Name) (ts : List Term) → (length ts ≡ 0 → ⊥) → (length ts ≡ 2 → ⊥) → weight (shape_of (at_arguments name (named_all s (args ts)))) ≡ 100
weight-other s name [] h k = absurd (h refl)
weight-other s name (a ∷ []) h k = weight-call s name (term a) none
weight-other s name (a ∷ b ∷ []) h k = absurd (k refl)
weight-other s name (a ∷ b ∷ d ∷ ts) h k = weight-call s name (term a) (args (b ∷ d ∷ ts))

pub weight-sign : (s : Scope) (name : Name) (ts : List Term) (x : Op) → length ts ≡ 2 → Some x ≡ option_map sign_of (sign_named name)
    → weight (shape_of (at_arguments name (named_all s (args ts)))) ≡ level x
weight-sign s name [] x e is = absurd (omega (arith, e))
weight-sign s name (a ∷ []) x e is = absurd (omega (arith, e))
weight-sign s name (a ∷ b ∷ []) x e is = ap weight (shape-sign s name (term a) (term b) x is)
weight-sign s name (a ∷ b ∷ d ∷ ts) x e is = absurd (omega (arith, e))

pub weight-no_sign : (s : Scope) (name : Name) (ts : List Term) → length ts ≡ 2 → None ≡ option_map sign_of (sign_named name)
    → weight (shape_of (at_arguments name (named_all s (args ts)))) ≡ 100
weight-no_sign s name [] e is = absurd (omega (arith, e))
weight-no_sign s name (a ∷ []) e is = absurd (omega (arith, e))
weight-no_sign s name (a ∷ b ∷ []) e is = ap (λ o. weight (shape_of (between o name (named s (term a)) (named s (term b))))) (no_sign name is) ∙ weight-call s name (term a) (args (b ∷ []))
weight-no_sign s name (a ∷ b ∷ d ∷ ts) e is = absurd (omega (arith, e))

-- ---- the table

pub left_some : (x : Op) → 0 < left_min x
left_some Implies = omega arith
left_some Or = omega arith
left_some And = omega arith
left_some Equal = omega arith
left_some NotEqual = omega arith
left_some LessEqual = omega arith
left_some Less = omega arith
left_some Plus = omega arith
left_some Times = omega arith
left_some Power = omega arith

pub right_some : (x : Op) → 0 < right_min x
right_some Implies = omega arith
right_some Or = omega arith
right_some And = omega arith
right_some Equal = omega arith
right_some NotEqual = omega arith
right_some LessEqual = omega arith
right_some Less = omega arith
right_some Plus = omega arith
right_some Times = omega arith
right_some Power = omega arith

pub ruleset table = (left_some, right_some)

-- ---- clauses

pub on_ok : {A E : Type 0} (r : Result A E) (P Q : Type 0) → (P → Q) → OnOk r P → OnOk r Q
on_ok (Ok x) P Q f h = f h
on_ok (Err e) P Q f h = tt

pub same_text : {A E : Type 0} (r : Result A E) (new old a b : List ℕ) → a ≡ b → OnOk r (new ≡ old ++ a) → OnOk r (new ≡ old ++ b)
same_text r new old a b e h = on_ok r (new ≡ old ++ a) (new ≡ old ++ b) (λ x. x ∙ ap (λ t. old ++ t) e) h

pub not_zero : (n : ℕ) → (n == 0) ≡ false → n ≡ 0 → ⊥
not_zero n h e = absurd (false≢true (sym h ∙ ap (λ k. k == 0) e))

-- two pieces, one behind the other
pub behind : (old one new more whole : List ℕ) → new ≡ old ++ one → whole ≡ one ++ more → new ++ more ≡ old ++ whole
behind old one new more whole e w = ap (λ x. x ++ more) e ∙ append_assoc old one more ∙ ap (λ x. old ++ x) (sym w)

pub if_ok : {A E : Type 0} (r : Result A E) (P Q : A → Type 0) → ((x : A) → P x → Q x) → IfOk r P → IfOk r Q
if_ok (Ok x) P Q f h = f x h
if_ok (Err e) P Q f h = tt

-- ---- negations

negated-negated : (l : Shape) → negated (negated l) ≡ Neg 0 (operand 40 (negated l))
negated-negated (Named x) = refl
negated-negated (Numeral n) = refl
negated-negated (Falsum at) = refl
negated-negated (Paren at s) = refl
negated-negated (Next at s) = refl
negated-negated (App f s) = refl
negated-negated (Neg at s) = refl
negated-negated (Quant at q b s) = refl
negated-negated (Binary at Implies l r) = refl
negated-negated (Binary at Or l r) = refl
negated-negated (Binary at And l r) = refl
negated-negated (Binary at Equal l r) = refl
negated-negated (Binary at NotEqual l r) = refl
negated-negated (Binary at LessEqual l r) = refl
negated-negated (Binary at Less l r) = refl
negated-negated (Binary at Plus l r) = refl
negated-negated (Binary at Times l r) = refl
negated-negated (Binary at Power l r) = refl

abbrev IsOther : Shape → Type 0
IsOther s = negated s ≡ Neg 0 (operand 40 s)

other-applied : (f x : Shape) (xs : List Shape) → IsOther (applied (App f x) xs)
other-applied f x [] = refl
other-applied f x (y ∷ ys) = other-applied (App f x) (operand 101 y) ys

other-between : (o : Option Join) (name : Name) (a b : Tree) → IsPlain o → IsOther (shape_of (between o name a b))
other-between None name a b p = refl
other-between (Some Arrow) name a b p = absurd p
other-between (Some Either) name a b p = refl
other-between (Some Both) name a b p = refl
other-between (Some Equals) name a b p = absurd p
other-between (Some AtMost) name a b p = refl
other-between (Some Below) name a b p = refl
other-between (Some Sum) name a b p = refl
other-between (Some Product) name a b p = refl
other-between (Some Raised) name a b p = refl

other-alone : (name : Name) → IsOther (shape_of (alone name))
other-alone name = by_digit (begins_with_digit name)
  where
    by_digit : (b : Bool) → IsOther (shape_of (cond b (Number name) (Call name Ended)))
    by_digit true = refl
    by_digit false = refl

other-call : (s : Scope) (name : Name) (ts : Tms) → IsOther (shape_of (at_arguments name (named_all s ts)))
other-call s name none = other-alone name
other-call s name (arg a none) = refl
other-call s name (arg a (arg b none)) = other-between (sign_named name) name (named s a) (named s b) (plain-named name)
other-call s name (arg a (arg b (arg d ts))) = other-applied (App (Named (unplaced name)) (operand 101 (shape_of (named s a)))) (operand 101 (shape_of (named s b))) (shapes_of (named_all s (arg d ts)))

other-arrow : (s : Scope) (a b : Fm) → IsOther (shape_of (named_formula s (imp a b)))
other-arrow s a falsum = negated-negated (shape_of (named_formula s a))
other-arrow s a (eq t u) = refl
other-arrow s a (pred p ts) = ap negated (arrow-other s a (pred p ts) (λ e. cc)) ∙ ap (λ x. Neg 0 (operand 40 x)) (sym (arrow-other s a (pred p ts) (λ e. cc)))
other-arrow s a (and c d) = refl
other-arrow s a (or c d) = refl
other-arrow s a (imp c d) = refl
other-arrow s a (all x c) = refl
other-arrow s a (ex x c) = refl

-- what is no equation is denied by ¬
pub denied-other : (s : Scope) (a : Fm) → ((t u : Tm) → a ≡ eq t u → ⊥) → negated (shape_of (named_formula s a)) ≡ Neg 0 (operand 40 (shape_of (named_formula s a)))
denied-other s falsum h = refl
denied-other s (eq t u) h = absurd (h t u refl)
denied-other s (pred p ts) h = other-call s (name_at (predicate_names s.declared) p) ts
denied-other s (and c d) h = refl
denied-other s (or c d) h = refl
denied-other s (imp c d) h = other-arrow s c d
denied-other s (all x c) h = refl
denied-other s (ex x c) h = refl

pub denied-whole : (s : Scope) (a b : Fm) → is_falsum b ≡ true → is_equation a ≡ false → shape_of (named_formula s (imp a b)) ≡ Neg 0 (operand 40 (shape_of (named_formula s a)))
denied-whole s a falsum is h = denied-other s a (λ t u e. absurd (false≢true (sym h ∙ ap is_equation e)))
denied-whole s a (eq t u) is h = cc
denied-whole s a (pred p ts) is h = cc
denied-whole s a (and c d) is h = cc
denied-whole s a (or c d) is h = cc
denied-whole s a (imp c d) is h = cc
denied-whole s a (all x c) is h = cc
denied-whole s a (ex x c) is h = cc

pub unequal-whole : (s : Scope) (a b : Fm) (x y : Tm) → is_falsum b ≡ true → a ≡ eq x y → shape_of (named_formula s (imp a b)) ≡ joined NotEqual (shape_of (named s x)) (shape_of (named s y))
unequal-whole s a falsum x y is e = ap (λ f. negated (shape_of (named_formula s f))) e
unequal-whole s a (eq t u) x y is h = cc
unequal-whole s a (pred p ts) x y is h = cc
unequal-whole s a (and c d) x y is h = cc
unequal-whole s a (or c d) x y is h = cc
unequal-whole s a (imp c d) x y is h = cc
unequal-whole s a (all z c) x y is h = cc
unequal-whole s a (ex z c) x y is h = cc
