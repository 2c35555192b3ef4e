-- What is printed means the same again.
use Rattle.std.proofs.Common.{◌≡◌, ℕ, zero, suc, ◌+◌, ◌^◌, ◌<◌, Bool, true, false, cond, ◌||◌, List, [], ◌∷◌, ◌++◌, length, codes, refl, ap, ap₂, sym, ◌∙◌, subst, append-nil, arith}
use Rattle.std.specs.Prelude.{⊤, Option, Some, None, option_map, unwrap_or, nat_lt, slice_get, ◌==◌}
use Rattle.std.specs.Option.{IfSome, option_or}
use Rattle.std.specs.Str.{bytes_eq}
use Rattle.std.proofs.lemmas.Bool.{and_parts, and_from, false≢true, ltb-true, eqb-true, eq-eqb}
use Rattle.std.proofs.lemmas.Option.{slice_get-map, MatchOption-at_some}
use Rattle.pg_logic.specs.Tree.{Tm, free, bound, nought, succ, app, Tms, none, arg, Fm, falsum, eq, pred, and, or, imp, all, ex, same, same_all, same_formula, nodes_of}
use Rattle.pg_logic.specs.Declarations.{Name, NamedFunction, by_recursion, by_term, NamedPredicate, Declarations, AreDeclared, name_of, arity_of, function_of, predicate_of, signature_of}
use Rattle.pg_logic.specs.Signature as logic
use Rattle.pg_logic.specs.Signature.{fits, fits_term, fits_terms, count, takes, holds_of}
use Rattle.pg_grammar.specs.Shapes.{Op, Implies, Or, And, Equal, LessEqual, Less, Plus, Times, Power, Shape, Named, Numeral, Paren, App, Neg, Binary, left_min, right_min, strength}
use Rattle.pg_grammar.specs.Printing.{Join, Arrow, Either, Both, Equals, AtMost, Below, Sum, Product, Raised, sign_of, Ended, Call, Number, is_quant, operand, joined, negated, node_shape, applied, unplaced, shape_of, shapes_of}
use Rattle.pg_meaning.specs.Scope.{Scope, outermost, Binder, Variable, Function, Predicate, function_named, predicate_named, looked_up, function_needs, predicate_needs, thing_needs, name_needs, sign_needs, sign_text, is_zero}
use Rattle.pg_meaning.specs.Faults.{sign_sort, operand_sort, Sort, TermSort, FormulaSort, Fault, thing_sort, sort, use_fault, head_fault, own_or, parts_fault, misfit, beginning}
use Rattle.pg_meaning.specs.Meaning.{thing_term, thing_formula, term_of, formula_of, with_last, holds_at, denied, function_term, predicate_formula}
use Rattle.pg_meaning.specs.Meaning as meaning
use Rattle.pg_meaning.specs.Live.{is_named, is_live, are_live, is_live_formula}
use Rattle.pg_spelling.specs.Fresh.{fresh, is_taken}
use Rattle.pg_spelling.specs.Named.{under, function_names, predicate_names, declared_names, taken, name_at, live_name, sign_in, sign_named, begins_with_digit, alone, between, at_arguments, named, named_all, named_formula}
use Rattle.pg_spelling.specs.Occurring.{EachFunction, EachFunctions, EachSymbol}
use Rattle.pg_spelling.specs.Back.{AllDiffer, CanName, CanTell, IsFunctionName, IsPredicateName, LiveDiffer, renamed, BackLaw, TermBackLaw}
use Rattle.pg_grammar.proofs.Printing.{printing-law}
use Rattle.pg_spelling.proofs.Fresh.{by_bool, fresh-law}
use Rattle.pg_spelling.proofs.Places.{IsApart, apart-under, apart-outermost, place-named, equal}
use Rattle.pg_spelling.proofs.Differ.{declared-differ, all-differ}

-- ---- shapes that mean something

-- a shape of this sort without a fault, and what it means
record Means {V : Type 0} (s : Scope) (want : Sort) (value : Shape → V) (S : Shape) (v : V) : Type 0 where
  sorted : sort s S ≡ Some want
  head : head_fault s 0 S ≡ None
  parts : parts_fault s S ≡ None
  means : value S ≡ v

abbrev IsTerm : Scope → Shape → Tm → Type 0
IsTerm s S t = Means s TermSort (term_of s) S t

abbrev IsFormula : Scope → Shape → Fm → Type 0
IsFormula s S a = Means s FormulaSort (formula_of s) S a

or_none : (a b : Option Fault) → a ≡ None → b ≡ None → option_or a b ≡ None
or_none a b e f = ap (λ o. option_or o b) e ∙ f

term-faultless : (s : Scope) (S : Shape) (t : Tm) → IsTerm s S t → own_or s TermSort S (parts_fault s S) ≡ None
term-faultless s S t m = or_none _ _ (or_none _ _ (ap (λ o. misfit TermSort o (beginning S)) m.sorted) m.head) m.parts

formula-faultless : (s : Scope) (S : Shape) (a : Fm) → IsFormula s S a → own_or s FormulaSort S (parts_fault s S) ≡ None
formula-faultless s S a m = or_none _ _ (or_none _ _ (ap (λ o. misfit FormulaSort o (beginning S)) m.sorted) m.head) m.parts

-- parentheses
held : (b : Bool) (P : Shape → Type 0) (S : Shape) → P (Paren 0 S) → P S → P (cond b (Paren 0 S) S)
held true P S p q = p
held false P S p q = q

term-operand : (s : Scope) (min : ℕ) (S : Shape) (t : Tm) → IsTerm s S t → IsTerm s (operand min S) t
term-operand s min S t m = held (is_quant S || nat_lt (strength S) min) (λ x. IsTerm s x t) S (record { sorted = m.sorted; head = m.head; parts = m.parts; means = m.means }) m

formula-operand : (s : Scope) (min : ℕ) (S : Shape) (a : Fm) → IsFormula s S a → IsFormula s (operand min S) a
formula-operand s min S a m = held (is_quant S || nat_lt (strength S) min) (λ x. IsFormula s x a) S (record { sorted = m.sorted; head = m.head; parts = m.parts; means = m.means }) m

-- ---- applications

-- so many arguments
use_right : (n k : ℕ) → n ≡ k → use_fault 0 n (Some k) ≡ None
use_right n k e = let is : (n == k) ≡ true = eq-eqb n k e in rw is refl

-- arguments behind others
behind : Tms → Tms → Tms
behind none us = us
behind (arg t ts) us = arg t (behind ts us)

behind-last : (ts : Tms) (t : Tm) (us : Tms) → behind (with_last ts t) us ≡ behind ts (arg t us)
unfolding behind
behind-last none t us = refl
behind-last (arg x ts) t us = ap (arg x) (behind-last ts t us)

behind-none : (ts : Tms) → behind ts none ≡ ts
unfolding behind
behind-none none = refl
behind-none (arg t ts) = ap (arg t) (behind-none ts)

count-last : (ts : Tms) (t : Tm) → count (with_last ts t) ≡ count ts + 1
count-last none t = refl
count-last (arg x ts) t = ap (λ n. n + 1) (count-last ts t)

abbrev AllTerms : Scope → List Shape → Tms → Type 0
AllTerms s [] none = Unit {0}
AllTerms s [] (arg t ts) = ⊥
AllTerms s (S ∷ Ss) none = ⊥
AllTerms s (S ∷ Ss) (arg t ts) = IsTerm s S t × AllTerms s Ss ts

-- how values take arguments
record Takes {V : Type 0} (s : Scope) (value : Shape → V) (make : Tms → V) : Type 0 where
  add : V → Tm → V
  applies : (f x : Shape) → value (App f x) ≡ add (value f) (term_of s x)
  last : (ts : Tms) (t : Tm) → add (make ts) t ≡ make (with_last ts t)

-- what has these arguments and needs so many
record Heads {V : Type 0} (s : Scope) (want : Sort) (value : Shape → V) (make : Tms → V) (needs : ℕ) (S : Shape) (before : Tms) : Type 0 where
  sorted : sort s S ≡ Some want
  head : (n : ℕ) → head_fault s n S ≡ use_fault 0 (n + count before) (Some needs)
  parts : parts_fault s S ≡ None
  means : value S ≡ make before

applied-means : {V : Type 0} (s : Scope) (want : Sort) (value : Shape → V) (make : Tms → V) (needs : ℕ) → Takes s value make → (S : Shape) (before : Tms) (Ss : List Shape) (ts : Tms)
    → Heads s want value make needs S before → AllTerms s Ss ts → count before + count ts ≡ needs → Means s want value (applied S Ss) (make (behind before ts))
applied-means s want value make needs k S before [] none h a e =
    record {
      sorted = h.sorted;
      head = h.head 0 ∙ use_right (0 + count before) needs (omega (arith, e));
      parts = h.parts;
      means = h.means ∙ ap make (sym (behind-none before));
    }
applied-means s want value make needs k S before [] (arg t ts) h a e = absurd a
applied-means s want value make needs k S before (X ∷ Ss) none h a e = absurd a
applied-means {V} s want value make needs k S before (X ∷ Ss) (arg t ts) h a e =
    let m : IsTerm s (operand 101 X) t = term-operand s 101 X t a.0 in
    let P : V → Type 0 = λ v. Means s want value (applied S (X ∷ Ss)) v in
    subst P (ap make (behind-last before t ts))
    (applied-means s want value make needs k (App S (operand 101 X)) (with_last before t) Ss ts
    (record {
      sorted = h.sorted;
      head = λ n. h.head (n + 1) ∙ ap (λ i. use_fault 0 i (Some needs)) (let q : n + 1 + count before ≡ n + (count before + 1) = omega arith in q ∙ ap (λ i. n + i) (sym (count-last before t)));
      parts = or_none _ _ h.parts (term-faultless s (operand 101 X) t m);
      means = k.applies S (operand 101 X) ∙ ap₂ k.add h.means m.means ∙ k.last before t;
    }) a.1 (omega (arith, e, count-last before t)))

term-takes : (s : Scope) (f : ℕ) → Takes s (term_of s) (app f)
term-takes s f = record { add = meaning.applied; applies = λ g x. refl; last = λ ts t. refl }

formula-takes : (s : Scope) (p : ℕ) → Takes s (formula_of s) (pred p)
formula-takes s p = record { add = holds_at; applies = λ g x. refl; last = λ ts t. refl }

-- ---- what is declared

own_arity : (f : NamedFunction) → logic.function_arity (function_of f) ≡ arity_of f
own_arity (by_recursion name n params base step zero_name succ_name) = refl
own_arity (by_term name body equation_name) = refl

-- a function that takes so many arguments
pub record Declared (d : Declarations) (f n : ℕ) : Type 0 where
  pub one : NamedFunction
  pub is : slice_get d.functions f ≡ Some one
  pub arity : arity_of one ≡ n

pub declared : (d : Declarations) (f n : ℕ) → takes (slice_get (signature_of d).functions f) n ≡ true → Declared d f n
declared d f n h = go (slice_get d.functions f) refl (sym (ap (λ o. takes o n) (slice_get-map function_of d.functions f)) ∙ h)
  where
    go : (o : Option NamedFunction) → slice_get d.functions f ≡ o → takes (option_map function_of o) n ≡ true → Declared d f n
    go None e h = absurd (false≢true h)
    go (Some g) e h = record { one = g; is = e; arity = sym (own_arity g) ∙ eqb-true _ _ h }

-- what is claimed of it
pub of-declared : {d : Declarations} {f n : ℕ} (P : NamedFunction → Type 0) (g : Declared d f n) → IfSome (slice_get d.functions f) P → P g.one
of-declared P g h = MatchOption-at_some ⊤ P g.one g.is h

pub record Told (d : Declarations) (p n : ℕ) : Type 0 where
  pub one : NamedPredicate
  pub is : slice_get d.predicates p ≡ Some one
  pub arity : one.arity ≡ n

pub told : (d : Declarations) (p n : ℕ) → holds_of (slice_get (signature_of d).predicates p) n ≡ true → Told d p n
told d p n h = go (slice_get d.predicates p) refl (sym (ap (λ o. holds_of o n) (slice_get-map predicate_of d.predicates p)) ∙ h)
  where
    go : (o : Option NamedPredicate) → slice_get d.predicates p ≡ o → holds_of (option_map predicate_of o) n ≡ true → Told d p n
    go None e h = absurd (false≢true h)
    go (Some q) e h = record { one = q; is = e; arity = eqb-true _ _ h }

pub of-told : {d : Declarations} {p n : ℕ} (Q : NamedPredicate → Type 0) (q : Told d p n) → IfSome (slice_get d.predicates p) Q → Q q.one
of-told Q q h = MatchOption-at_some ⊤ Q q.one q.is h

pub name-get : (names : List Name) (i : ℕ) (x : Name) → slice_get names i ≡ Some x → name_at names i ≡ x
name-get [] i x e = cc
name-get (y ∷ ys) zero x e = cc
name-get (y ∷ ys) (suc i) x e = name-get ys i x e

-- ---- signs

-- the name of a sign is its text
abbrev IsText : Name → Option Join → Type 0
IsText name None = Unit {0}
IsText name (Some j) = name ≡ sign_text (sign_of j)

abbrev AreTexts : List (Name × Join) → Type 0
AreTexts [] = Unit {0}
AreTexts (row ∷ rows) = (row.0 ≡ sign_text (sign_of row.1)) × AreTexts rows

text-in : (rows : List (Name × Join)) (name : Name) → AreTexts rows → IsText name (sign_in rows name)
text-in [] name h = tt
text-in (row ∷ rows) name h =
    by_bool (λ b. bytes_eq name row.0 ≡ b → IsText name (cond b (Some row.1) (sign_in rows name))) (bytes_eq name row.0)
    (λ _ e. equal name row.0 e ∙ h.0) (λ _ e. text-in rows name h.1) refl

text-named : (name : Name) → IsText name (sign_named name)
text-named name = text-in ((codes "+", Sum) ∷ (codes "*", Product) ∷ (codes "^", Raised) ∷ (226 ∷ 137 ∷ 164 ∷ [], AtMost) ∷ (codes "<", Below) ∷ []) name (refl, (refl, (refl, (refl, (refl, tt)))))

-- ---- what is known of a place

record Ready (s : Scope) : Type 0 where
  apart : IsApart s
  differ : AllDiffer (declared_names s.declared)

second : (xs ys : List Name) → AllDiffer (xs ++ ys) → AllDiffer (ys ++ [])
second [] ys h = subst AllDiffer (sym (append-nil ys)) h
second (x ∷ xs) ys h = second xs ys h.1

pub named-function : (s : Scope) (f : ℕ) (one : NamedFunction) → slice_get s.declared.functions f ≡ Some one → slice_get (function_names s.declared) f ≡ Some (name_of one)
named-function s f one is = slice_get-map name_of s.declared.functions f ∙ ap (option_map name_of) is

pub named-predicate : (s : Scope) (p : ℕ) (one : NamedPredicate) → slice_get s.declared.predicates p ≡ Some one → slice_get (predicate_names s.declared) p ≡ Some one.name
named-predicate s p one is = slice_get-map (λ (q : NamedPredicate). q.name) s.declared.predicates p ∙ ap (option_map (λ (q : NamedPredicate). q.name)) is

place-function : (s : Scope) → Ready s → (f : ℕ) (one : NamedFunction) → slice_get s.declared.functions f ≡ Some one → function_named s.declared (name_of one) ≡ Some f
place-function s r f one is = place-named name_of s.declared.functions (predicate_names s.declared) f (name_of one) r.differ (named-function s f one is)

place-predicate : (s : Scope) → Ready s → (p : ℕ) (one : NamedPredicate) → slice_get s.declared.predicates p ≡ Some one → predicate_named s.declared one.name ≡ Some p
place-predicate s r p one is =
    place-named (λ (q : NamedPredicate). q.name) s.declared.predicates [] p one.name (second (function_names s.declared) (predicate_names s.declared) r.differ) (named-predicate s p one is)

needs-function : (s : Scope) (f n : ℕ) (one : NamedFunction) → slice_get s.declared.functions f ≡ Some one → arity_of one ≡ n → function_needs s.declared f ≡ n
needs-function s f n one is e = ap (λ o. unwrap_or (option_map arity_of o) 0) is ∙ e

needs-predicate : (s : Scope) (p n : ℕ) (one : NamedPredicate) → slice_get s.declared.predicates p ≡ Some one → one.arity ≡ n → predicate_needs s.declared p ≡ n
needs-predicate s p n one is e = ap (λ o. unwrap_or (option_map (λ (q : NamedPredicate). q.arity) o) 0) is ∙ e

-- ---- a name before its arguments

call-term : (s : Scope) → Ready s → (f : ℕ) (one : NamedFunction) (ts : Tms) → slice_get s.declared.functions f ≡ Some one → arity_of one ≡ count ts → AllTerms s (shapes_of (named_all s ts)) ts
    → IsTerm s (shape_of (Call (name_of one) (named_all s ts))) (app f ts)
unfolding behind
call-term s r f one ts is e each =
    let found : looked_up s (name_of one) ≡ Some (Function f) = r.apart.function f (name_of one) (named-function s f one is) in
    let needs : name_needs s (name_of one) ≡ Some (count ts) = ap (option_map (thing_needs s.declared)) found ∙ ap Some (needs-function s f (count ts) one is e) in
    applied-means s TermSort (term_of s) (app f) (count ts) (term-takes s f) (Named (unplaced (name_of one))) none (shapes_of (named_all s ts)) ts
    (record {
      sorted = ap (option_map thing_sort) found;
      head = λ n. let z : n ≡ n + 0 = omega arith in ap₂ (λ i o. use_fault 0 i o) z needs;
      parts = refl;
      means = ap thing_term found;
    }) each (omega arith)

call-formula : (s : Scope) → Ready s → (p : ℕ) (one : NamedPredicate) (ts : Tms) → slice_get s.declared.predicates p ≡ Some one → one.arity ≡ count ts → AllTerms s (shapes_of (named_all s ts)) ts
    → IsFormula s (shape_of (Call one.name (named_all s ts))) (pred p ts)
unfolding behind
call-formula s r p one ts is e each =
    let found : looked_up s one.name ≡ Some (Predicate p) = r.apart.predicate p one.name (named-predicate s p one is) in
    let needs : name_needs s one.name ≡ Some (count ts) = ap (option_map (thing_needs s.declared)) found ∙ ap Some (needs-predicate s p (count ts) one is e) in
    applied-means s FormulaSort (formula_of s) (pred p) (count ts) (formula-takes s p) (Named (unplaced one.name)) none (shapes_of (named_all s ts)) ts
    (record {
      sorted = ap (option_map thing_sort) found;
      head = λ n. let z : n ≡ n + 0 = omega arith in ap₂ (λ i o. use_fault 0 i o) z needs;
      parts = refl;
      means = ap thing_formula found;
    }) each (omega arith)

-- ---- a name alone

numeral-term : (s : Scope) → Ready s → (f : ℕ) (one : NamedFunction) → slice_get s.declared.functions f ≡ Some one → arity_of one ≡ 0 → is_zero (name_of one) ≡ false
    → IsTerm s (Numeral (unplaced (name_of one))) (app f none)
numeral-term s r f one is e other =
    let place : function_named s.declared (name_of one) ≡ Some f = place-function s r f one is in
    record {
      sorted = refl;
      head =
          ap (λ b. use_fault 0 0 (cond b (Some 0) (option_map (function_needs s.declared) (function_named s.declared (name_of one))))) other
          ∙ ap (λ o. use_fault 0 0 (option_map (function_needs s.declared) o)) place ∙ use_right 0 (function_needs s.declared f) (sym (needs-function s f 0 one is e));
      parts = refl;
      means = ap (λ b. cond b nought (function_term (function_named s.declared (name_of one)) none)) other ∙ ap (λ o. function_term o none) place;
    }

alone-term : (s : Scope) → Ready s → (f : ℕ) (one : NamedFunction) → slice_get s.declared.functions f ≡ Some one → arity_of one ≡ 0 → IsFunctionName one → IsTerm s (shape_of (alone (name_of one))) (app f none)
alone-term s r f one is e allowed = go (sign_named (name_of one)) (begins_with_digit (name_of one)) allowed
  where
    go : (o : Option Join) (b : Bool) → CanName o b (name_of one) (arity_of one) → IsTerm s (shape_of (cond b (Number (name_of one)) (Call (name_of one) Ended))) (app f none)
    go o false can = call-term s r f one none is e tt
    go None true can = numeral-term s r f one is e can.1
    go (Some Sum) true can = absurd (omega (arith, e, can))
    go (Some Product) true can = absurd (omega (arith, e, can))
    go (Some Raised) true can = absurd (omega (arith, e, can))
    go (Some Arrow) true can = absurd can
    go (Some Either) true can = absurd can
    go (Some Both) true can = absurd can
    go (Some Equals) true can = absurd can
    go (Some AtMost) true can = absurd can
    go (Some Below) true can = absurd can

alone-formula : (s : Scope) → Ready s → (p : ℕ) (one : NamedPredicate) → slice_get s.declared.predicates p ≡ Some one → one.arity ≡ 0 → IsPredicateName one → IsFormula s (shape_of (alone one.name)) (pred p none)
alone-formula s r p one is e allowed = go (sign_named one.name) (begins_with_digit one.name) allowed
  where
    go : (o : Option Join) (b : Bool) → CanTell o b one.arity → IsFormula s (shape_of (cond b (Number one.name) (Call one.name Ended))) (pred p none)
    go o false can = call-formula s r p one none is e tt
    go None true can = absurd can
    go (Some AtMost) true can = absurd (omega (arith, e, can))
    go (Some Below) true can = absurd (omega (arith, e, can))
    go (Some Arrow) true can = absurd can
    go (Some Either) true can = absurd can
    go (Some Both) true can = absurd can
    go (Some Equals) true can = absurd can
    go (Some Sum) true can = absurd can
    go (Some Product) true can = absurd can
    go (Some Raised) true can = absurd can

-- ---- a sign between two terms

two_faultless : (s : Scope) (op : Op) (l r : Shape) (a b : Tm) → operand_sort op ≡ TermSort → IsTerm s l a → IsTerm s r b
    → parts_fault s (joined op l r) ≡ None
two_faultless s op l r a b so m k =
    ap (λ want. option_or (own_or s want (operand (left_min op) l) (parts_fault s (operand (left_min op) l))) (own_or s want (operand (right_min op) r) (parts_fault s (operand (right_min op) r)))) so
    ∙ or_none _ _ (term-faultless s (operand (left_min op) l) a (term-operand s (left_min op) l a m)) (term-faultless s (operand (right_min op) r) b (term-operand s (right_min op) r b k))

sign-term : (s : Scope) (op : Op) (f : ℕ) (l r : Shape) (a b : Tm) → sign_sort op ≡ TermSort → operand_sort op ≡ TermSort → sign_needs s op ≡ Some 2 → function_named s.declared (sign_text op) ≡ Some f
    → IsTerm s l a → IsTerm s r b → IsTerm s (joined op l r) (app f (arg a (arg b none)))
sign-term s op f l r a b so oo needs place m k =
    record {
      sorted = ap Some so;
      head = ap (use_fault 0 2) needs ∙ use_right 2 2 refl;
      parts = two_faultless s op l r a b oo m k;
      means =
          ap (λ o. function_term o (meaning.two (term_of s (operand (left_min op) l)) (term_of s (operand (right_min op) r)))) place
          ∙ ap₂ (λ x y. app f (arg x (arg y none))) ((term-operand s (left_min op) l a m).means) ((term-operand s (right_min op) r b k).means);
    }

function-sign : (s : Scope) → Ready s → (f : ℕ) (one : NamedFunction) (op : Op) → slice_get s.declared.functions f ≡ Some one → arity_of one ≡ 2 → name_of one ≡ sign_text op
    → (function_named s.declared (sign_text op) ≡ Some f) × (option_map (function_needs s.declared) (function_named s.declared (sign_text op)) ≡ Some 2)
function-sign s r f one op is e text =
    let place : function_named s.declared (sign_text op) ≡ Some f = ap (function_named s.declared) (sym text) ∙ place-function s r f one is in
    (place, ap (option_map (function_needs s.declared)) place ∙ ap Some (needs-function s f 2 one is e))

predicate-sign : (s : Scope) → Ready s → (p : ℕ) (one : NamedPredicate) (op : Op) → slice_get s.declared.predicates p ≡ Some one → one.arity ≡ 2 → one.name ≡ sign_text op
    → (predicate_named s.declared (sign_text op) ≡ Some p) × (option_map (predicate_needs s.declared) (predicate_named s.declared (sign_text op)) ≡ Some 2)
predicate-sign s r p one op is e text =
    let place : predicate_named s.declared (sign_text op) ≡ Some p = ap (predicate_named s.declared) (sym text) ∙ place-predicate s r p one is in
    (place, ap (option_map (predicate_needs s.declared)) place ∙ ap Some (needs-predicate s p 2 one is e))

two-term : (s : Scope) → Ready s → (f : ℕ) (one : NamedFunction) (a b : Tm) → slice_get s.declared.functions f ≡ Some one → arity_of one ≡ 2 → IsFunctionName one
    → IsTerm s (shape_of (named s a)) a → IsTerm s (shape_of (named s b)) b → IsTerm s (shape_of (between (sign_named (name_of one)) (name_of one) (named s a) (named s b))) (app f (arg a (arg b none)))
two-term s r f one a b is e allowed m k = go (sign_named (name_of one)) (begins_with_digit (name_of one)) allowed (text-named (name_of one))
  where
    go : (o : Option Join) (d : Bool) → CanName o d (name_of one) (arity_of one) → IsText (name_of one) o → IsTerm s (shape_of (between o (name_of one) (named s a) (named s b))) (app f (arg a (arg b none)))
    go None d can text = call-term s r f one (arg a (arg b none)) is e (m, (k, tt))
    go (Some Sum) d can text = let q = function-sign s r f one Plus is e text in sign-term s Plus f (shape_of (named s a)) (shape_of (named s b)) a b refl refl q.1 q.0 m k
    go (Some Product) d can text = let q = function-sign s r f one Times is e text in sign-term s Times f (shape_of (named s a)) (shape_of (named s b)) a b refl refl q.1 q.0 m k
    go (Some Raised) d can text = let q = function-sign s r f one Power is e text in sign-term s Power f (shape_of (named s a)) (shape_of (named s b)) a b refl refl q.1 q.0 m k
    go (Some Arrow) d can text = absurd can
    go (Some Either) d can text = absurd can
    go (Some Both) d can text = absurd can
    go (Some Equals) d can text = absurd can
    go (Some AtMost) d can text = absurd can
    go (Some Below) d can text = absurd can

at-most : (s : Scope) (p : ℕ) (l r : Shape) (a b : Tm) → predicate_named s.declared (sign_text LessEqual) ≡ Some p → sign_needs s LessEqual ≡ Some 2 → IsTerm s l a → IsTerm s r b
    → IsFormula s (joined LessEqual l r) (pred p (arg a (arg b none)))
at-most s p l r a b place needs m k =
    record {
      sorted = refl;
      head = ap (use_fault 0 2) needs ∙ use_right 2 2 refl;
      parts = two_faultless s LessEqual l r a b refl m k;
      means =
          ap (λ o. predicate_formula o (meaning.two (term_of s (operand 51 l)) (term_of s (operand 51 r)))) place
          ∙ ap₂ (λ x y. pred p (arg x (arg y none))) ((term-operand s 51 l a m).means) ((term-operand s 51 r b k).means);
    }

below : (s : Scope) (p : ℕ) (l r : Shape) (a b : Tm) → predicate_named s.declared (sign_text Less) ≡ Some p → sign_needs s Less ≡ Some 2 → IsTerm s l a → IsTerm s r b
    → IsFormula s (joined Less l r) (pred p (arg a (arg b none)))
below s p l r a b place needs m k =
    record {
      sorted = refl;
      head = ap (use_fault 0 2) needs ∙ use_right 2 2 refl;
      parts = two_faultless s Less l r a b refl m k;
      means =
          ap (λ o. predicate_formula o (meaning.two (term_of s (operand 51 l)) (term_of s (operand 51 r)))) place
          ∙ ap₂ (λ x y. pred p (arg x (arg y none))) ((term-operand s 51 l a m).means) ((term-operand s 51 r b k).means);
    }

two-formula : (s : Scope) → Ready s → (p : ℕ) (one : NamedPredicate) (a b : Tm) → slice_get s.declared.predicates p ≡ Some one → one.arity ≡ 2 → IsPredicateName one
    → IsTerm s (shape_of (named s a)) a → IsTerm s (shape_of (named s b)) b → IsFormula s (shape_of (between (sign_named one.name) one.name (named s a) (named s b))) (pred p (arg a (arg b none)))
two-formula s r p one a b is e allowed m k = go (sign_named one.name) (begins_with_digit one.name) allowed (text-named one.name)
  where
    go : (o : Option Join) (d : Bool) → CanTell o d one.arity → IsText one.name o → IsFormula s (shape_of (between o one.name (named s a) (named s b))) (pred p (arg a (arg b none)))
    go None d can text = call-formula s r p one (arg a (arg b none)) is e (m, (k, tt))
    go (Some AtMost) d can text = let q = predicate-sign s r p one LessEqual is e text in at-most s p (shape_of (named s a)) (shape_of (named s b)) a b q.0 q.1 m k
    go (Some Below) d can text = let q = predicate-sign s r p one Less is e text in below s p (shape_of (named s a)) (shape_of (named s b)) a b q.0 q.1 m k
    go (Some Arrow) d can text = absurd can
    go (Some Either) d can text = absurd can
    go (Some Both) d can text = absurd can
    go (Some Equals) d can text = absurd can
    go (Some Sum) d can text = absurd can
    go (Some Product) d can text = absurd can
    go (Some Raised) d can text = absurd can

-- ---- functions and predicates at arguments

at-term : (s : Scope) → Ready s → (f : ℕ) (one : NamedFunction) (ts : Tms) → slice_get s.declared.functions f ≡ Some one → arity_of one ≡ count ts → IsFunctionName one → AllTerms s (shapes_of (named_all s ts)) ts
    → IsTerm s (shape_of (at_arguments (name_of one) (named_all s ts))) (app f ts)
at-term s r f one none is e allowed each = alone-term s r f one is e allowed
at-term s r f one (arg a none) is e allowed each = call-term s r f one (arg a none) is e each
at-term s r f one (arg a (arg b none)) is e allowed each = two-term s r f one a b is e allowed each.0 each.1.0
at-term s r f one (arg a (arg b (arg d ts))) is e allowed each = call-term s r f one (arg a (arg b (arg d ts))) is e each

at-formula : (s : Scope) → Ready s → (p : ℕ) (one : NamedPredicate) (ts : Tms) → slice_get s.declared.predicates p ≡ Some one → one.arity ≡ count ts → IsPredicateName one → AllTerms s (shapes_of (named_all s ts)) ts
    → IsFormula s (shape_of (at_arguments one.name (named_all s ts))) (pred p ts)
at-formula s r p one none is e allowed each = alone-formula s r p one is e allowed
at-formula s r p one (arg a none) is e allowed each = call-formula s r p one (arg a none) is e each
at-formula s r p one (arg a (arg b none)) is e allowed each = two-formula s r p one a b is e allowed each.0 each.1.0
at-formula s r p one (arg a (arg b (arg d ts))) is e allowed each = call-formula s r p one (arg a (arg b (arg d ts))) is e each

-- ---- terms

free-term : (s : Scope) → Ready s → (i : ℕ) (o : Option (Option Name)) → slice_get s.vars i ≡ o → is_named o ≡ true → IsTerm s (Named (unplaced (live_name o))) (free i)
free-term s r i None e h = absurd (false≢true h)
free-term s r i (Some None) e h = absurd (false≢true h)
free-term s r i (Some (Some x)) e h =
    let found : looked_up s x ≡ Some (Variable i) = r.apart.variable i x e in
    record {
      sorted = ap (option_map thing_sort) found;
      head = ap (λ o. use_fault 0 0 (option_map (thing_needs s.declared) o)) found;
      parts = refl;
      means = ap thing_term found;
    }

bound-term : (s : Scope) → Ready s → (i : ℕ) → i < length s.binders → IsTerm s (Named (unplaced (name_at s.binders i))) (bound i)
bound-term s r i lt =
    let found : looked_up s (name_at s.binders i) ≡ Some (Binder i) = r.apart.binder i lt in
    record {
      sorted = ap (option_map thing_sort) found;
      head = ap (λ o. use_fault 0 0 (option_map (thing_needs s.declared) o)) found;
      parts = refl;
      means = ap thing_term found;
    }

mutual
  term-back : (s : Scope) → Ready s → (n : ℕ) (t : Tm) → fits_term (signature_of s.declared).functions n (length s.binders) t ≡ true → is_live s.vars t ≡ true → EachFunction IsFunctionName s.declared t
      → IsTerm s (shape_of (named s t)) t
  term-back s r n (free i) h l k = free-term s r i (slice_get s.vars i) refl l
  term-back s r n (bound i) h l k = bound-term s r i (ltb-true _ _ h)
  term-back s r n nought h l k = record { sorted = refl; head = refl; parts = refl; means = refl }
  term-back s r n (succ t) h l k =
      let m : IsTerm s (operand 101 (shape_of (named s t))) t = term-operand s 101 (shape_of (named s t)) t (term-back s r n t h l k) in
      record { sorted = refl; head = refl; parts = term-faultless s (operand 101 (shape_of (named s t))) t m; means = ap succ m.means }
  term-back s r n (app f ts) h l k =
      let p = and_parts _ _ h in
      let d : Declared s.declared f (count ts) = declared s.declared f (count ts) p.0 in
      let x : name_at (function_names s.declared) f ≡ name_of d.one = name-get (function_names s.declared) f (name_of d.one) (named-function s f d.one d.is) in
      let P : Name → Type 0 = λ y. IsTerm s (shape_of (at_arguments y (named_all s ts))) (app f ts) in
      subst P (sym x) (at-term s r f d.one ts d.is d.arity (of-declared IsFunctionName d k.0) (terms-back s r n ts p.1 l k.1))

  terms-back : (s : Scope) → Ready s → (n : ℕ) (ts : Tms) → fits_terms (signature_of s.declared).functions n (length s.binders) ts ≡ true → are_live s.vars ts ≡ true → EachFunctions IsFunctionName s.declared ts
      → AllTerms s (shapes_of (named_all s ts)) ts
  terms-back s r n none h l k = tt
  terms-back s r n (arg t ts) h l k =
      let p = and_parts _ _ h in
      let q = and_parts _ _ l in
      (term-back s r n t p.0 q.0 k.0, terms-back s r n ts p.1 q.1 k.1)

-- ---- room for fresh names

-- at each binder the names that are taken are so few that a number of 64 bits makes one free
abbrev pub HasRoom : Scope → Fm → Type 0
HasRoom s (and a b) = HasRoom s a × HasRoom s b
HasRoom s (or a b) = HasRoom s a × HasRoom s b
HasRoom s (imp a b) = HasRoom s a × HasRoom s b
HasRoom s (all x a) = (length (taken s) + 1 < 2 ^ 64) × HasRoom (under (fresh (taken s) x) s) a
HasRoom s (ex x a) = (length (taken s) + 1 < 2 ^ 64) × HasRoom (under (fresh (taken s) x) s) a
HasRoom s a = Unit {0}

some-node : (a : Fm) → 0 < nodes_of a
some-node falsum = omega arith
some-node (eq a b) = omega arith
some-node (pred p ts) = omega arith
some-node (and a b) = omega arith
some-node (or a b) = omega arith
some-node (imp a b) = omega arith
some-node (all x a) = omega arith
some-node (ex x a) = omega arith

pub has-room : (s : Scope) (a : Fm) → length (taken s) + nodes_of a < 2 ^ 64 → HasRoom s a
has-room s falsum h = tt
has-room s (eq a b) h = tt
has-room s (pred p ts) h = tt
has-room s (and a b) h = (has-room s a (omega (arith, h)), has-room s b (omega (arith, h)))
has-room s (or a b) h = (has-room s a (omega (arith, h)), has-room s b (omega (arith, h)))
has-room s (imp a b) h = (has-room s a (omega (arith, h)), has-room s b (omega (arith, h)))
has-room s (all x a) h = (omega (arith, h, some-node a), has-room (under (fresh (taken s) x) s) a (omega (arith, h)))
has-room s (ex x a) h = (omega (arith, h, some-node a), has-room (under (fresh (taken s) x) s) a (omega (arith, h)))

-- ---- formulas

below-binder : (s : Scope) (y : Name) → Ready s → is_taken (taken s) y ≡ false → Ready (under y s)
below-binder s y r e = record { apart = apart-under s y r.apart e; differ = r.differ }

joined-formula : (s : Scope) (op : Op) (l r : Shape) (a b c : Fm) → sign_sort op ≡ FormulaSort → operand_sort op ≡ FormulaSort → sign_needs s op ≡ Some 2
    → IsFormula s l a → IsFormula s r b → ((x y : Shape) → formula_of s x ≡ a → formula_of s y ≡ b → formula_of s (Binary 0 op x y) ≡ c) → IsFormula s (joined op l r) c
joined-formula s op l r a b c so oo needs m k means =
    let ml : IsFormula s (operand (left_min op) l) a = formula-operand s (left_min op) l a m in
    let mr : IsFormula s (operand (right_min op) r) b = formula-operand s (right_min op) r b k in
    record {
      sorted = ap Some so;
      head = ap (use_fault 0 2) needs ∙ use_right 2 2 refl;
      parts =
          ap (λ want. option_or (own_or s want (operand (left_min op) l) (parts_fault s (operand (left_min op) l))) (own_or s want (operand (right_min op) r) (parts_fault s (operand (right_min op) r)))) oo
          ∙ or_none _ _ (formula-faultless s (operand (left_min op) l) a ml) (formula-faultless s (operand (right_min op) r) b mr);
      means = means (operand (left_min op) l) (operand (right_min op) r) ml.means mr.means;
    }

neg-formula : (s : Scope) (l : Shape) (a : Fm) → IsFormula s l a → IsFormula s (Neg 0 (operand 40 l)) (denied a)
neg-formula s l a m =
    let k : IsFormula s (operand 40 l) a = formula-operand s 40 l a m in
    record { sorted = refl; head = refl; parts = formula-faultless s (operand 40 l) a k; means = ap denied k.means }

negated-formula : (s : Scope) (l : Shape) (a : Fm) → IsFormula s l a → IsFormula s (negated l) (denied a)
negated-formula s (Binary at Equal x y) a m = record { sorted = refl; head = m.head; parts = m.parts; means = ap denied m.means }
negated-formula s l a m = neg-formula s l a m

equal-formula : (s : Scope) (l r : Shape) (a b : Tm) → IsTerm s l a → IsTerm s r b → IsFormula s (joined Equal l r) (eq a b)
equal-formula s l r a b m k =
    record {
      sorted = refl;
      head = refl;
      parts = two_faultless s Equal l r a b refl m k;
      means = ap₂ eq ((term-operand s 51 l a m).means) ((term-operand s 51 r b k).means);
    }

-- only False has its tree
pub arrow-other : (s : Scope) (a b : Fm) → (b ≡ falsum → ⊥) → shape_of (named_formula s (imp a b)) ≡ joined Implies (shape_of (named_formula s a)) (shape_of (named_formula s b))
arrow-other s a falsum h = absurd (h refl)
arrow-other s a (eq t u) h = refl
arrow-other s a (pred p none) h = go (begins_with_digit (name_at (predicate_names s.declared) p))
  where
    go : (c : Bool) → node_shape Arrow (shape_of (named_formula s a)) (cond c (Number (name_at (predicate_names s.declared) p)) (Call (name_at (predicate_names s.declared) p) Ended)) (shape_of (cond c (Number (name_at (predicate_names s.declared) p)) (Call (name_at (predicate_names s.declared) p) Ended)))
        ≡ joined Implies (shape_of (named_formula s a)) (shape_of (cond c (Number (name_at (predicate_names s.declared) p)) (Call (name_at (predicate_names s.declared) p) Ended)))
    go true = refl
    go false = refl
arrow-other s a (pred p (arg t none)) h = refl
arrow-other s a (pred p (arg t (arg u none))) h = go (sign_named (name_at (predicate_names s.declared) p))
  where
    go : (o : Option Join) → node_shape Arrow (shape_of (named_formula s a)) (between o (name_at (predicate_names s.declared) p) (named s t) (named s u)) (shape_of (between o (name_at (predicate_names s.declared) p) (named s t) (named s u)))
        ≡ joined Implies (shape_of (named_formula s a)) (shape_of (between o (name_at (predicate_names s.declared) p) (named s t) (named s u)))
    go None = refl
    go (Some j) = refl
arrow-other s a (pred p (arg t (arg u (arg v ts)))) h = refl
arrow-other s a (and c d) h = refl
arrow-other s a (or c d) h = refl
arrow-other s a (imp c d) h = refl
arrow-other s a (all x c) h = refl
arrow-other s a (ex x c) h = refl

arrow-formula : (s : Scope) (a b c d : Fm) → (b ≡ falsum → ⊥) → IsFormula s (shape_of (named_formula s a)) c → IsFormula s (shape_of (named_formula s b)) d → IsFormula s (shape_of (named_formula s (imp a b))) (imp c d)
arrow-formula s a b c d other m k =
    let P : Shape → Type 0 = λ x. IsFormula s x (imp c d) in
    subst P (sym (arrow-other s a b other)) (joined-formula s Implies (shape_of (named_formula s a)) (shape_of (named_formula s b)) c d (imp c d) refl refl refl m k (λ x y e f. ap₂ imp e f))

formula-back : (s : Scope) → Ready s → (n : ℕ) (a : Fm) → fits (signature_of s.declared) n (length s.binders) a ≡ true → is_live_formula s.vars a ≡ true → HasRoom s a → EachSymbol IsFunctionName IsPredicateName s.declared a
    → IsFormula s (shape_of (named_formula s a)) (renamed s a)
formula-back s r n falsum h l room k = record { sorted = refl; head = refl; parts = refl; means = refl }
formula-back s r n (eq a b) h l room k =
    let p = and_parts _ _ h in
    let q = and_parts _ _ l in
    equal-formula s (shape_of (named s a)) (shape_of (named s b)) a b (term-back s r n a p.0 q.0 k.0) (term-back s r n b p.1 q.1 k.1)
formula-back s r n (pred p ts) h l room k =
    let q = and_parts _ _ h in
    let d : Told s.declared p (count ts) = told s.declared p (count ts) q.0 in
    let x : name_at (predicate_names s.declared) p ≡ d.one.name = name-get (predicate_names s.declared) p d.one.name (named-predicate s p d.one d.is) in
    let P : Name → Type 0 = λ y. IsFormula s (shape_of (at_arguments y (named_all s ts))) (pred p ts) in
    subst P (sym x) (at-formula s r p d.one ts d.is d.arity (of-told IsPredicateName d k.0) (terms-back s r n ts q.1 l k.1))
formula-back s r n (and a b) h l room k =
    let p = and_parts _ _ h in
    let q = and_parts _ _ l in
    joined-formula s And (shape_of (named_formula s a)) (shape_of (named_formula s b)) (renamed s a) (renamed s b) (and (renamed s a) (renamed s b)) refl refl refl
    (formula-back s r n a p.0 q.0 room.0 k.0) (formula-back s r n b p.1 q.1 room.1 k.1) (λ x y e f. ap₂ and e f)
formula-back s r n (or a b) h l room k =
    let p = and_parts _ _ h in
    let q = and_parts _ _ l in
    joined-formula s Or (shape_of (named_formula s a)) (shape_of (named_formula s b)) (renamed s a) (renamed s b) (or (renamed s a) (renamed s b)) refl refl refl
    (formula-back s r n a p.0 q.0 room.0 k.0) (formula-back s r n b p.1 q.1 room.1 k.1) (λ x y e f. ap₂ or e f)
formula-back s r n (imp a falsum) h l room k =
    let p = and_parts _ _ h in
    let q = and_parts _ _ l in
    negated-formula s (shape_of (named_formula s a)) (renamed s a) (formula-back s r n a p.0 q.0 room.0 k.0)
formula-back s r n (imp a b) h l room k =
    let p = and_parts _ _ h in
    let q = and_parts _ _ l in
    arrow-formula s a b (renamed s a) (renamed s b) (λ e. cc) (formula-back s r n a p.0 q.0 room.0 k.0) (formula-back s r n b p.1 q.1 room.1 k.1)
formula-back s r n (all x a) h l room k =
    let y : Name = fresh (taken s) x in
    let m : IsFormula (under y s) (shape_of (named_formula (under y s) a)) (renamed (under y s) a) =
    formula-back (under y s) (below-binder s y r ((fresh-law (taken s) x room.0).free)) n a (deeper h) l room.1 k in
    record { sorted = refl; head = refl; parts = formula-faultless (under y s) (shape_of (named_formula (under y s) a)) (renamed (under y s) a) m; means = ap (all y) m.means }
  where
    deeper : fits (signature_of s.declared) n (length s.binders + 1) a ≡ true → fits (signature_of s.declared) n (suc (length s.binders)) a ≡ true
    deeper e = let k : length s.binders + 1 ≡ suc (length s.binders) = omega arith in ap (λ d. fits (signature_of s.declared) n d a) (sym k) ∙ e
formula-back s r n (ex x a) h l room k =
    let y : Name = fresh (taken s) x in
    let m : IsFormula (under y s) (shape_of (named_formula (under y s) a)) (renamed (under y s) a) =
    formula-back (under y s) (below-binder s y r ((fresh-law (taken s) x room.0).free)) n a (deeper h) l room.1 k in
    record { sorted = refl; head = refl; parts = formula-faultless (under y s) (shape_of (named_formula (under y s) a)) (renamed (under y s) a) m; means = ap (ex y) m.means }
  where
    deeper : fits (signature_of s.declared) n (length s.binders + 1) a ≡ true → fits (signature_of s.declared) n (suc (length s.binders)) a ≡ true
    deeper e = let k : length s.binders + 1 ≡ suc (length s.binders) = omega arith in ap (λ d. fits (signature_of s.declared) n d a) (sym k) ∙ e

-- ---- the same up to names

mutual
  same-term : (t : Tm) → same t t ≡ true
  same-term (free i) = eq-eqb i i refl
  same-term (bound i) = eq-eqb i i refl
  same-term nought = refl
  same-term (succ t) = same-term t
  same-term (app f ts) = and_from _ _ (eq-eqb f f refl) (same-terms ts)

  same-terms : (ts : Tms) → same_all ts ts ≡ true
  same-terms none = refl
  same-terms (arg t ts) = and_from _ _ (same-term t) (same-terms ts)

same-renamed : (s : Scope) (a : Fm) → same_formula a (renamed s a) ≡ true
same-renamed s falsum = refl
same-renamed s (eq a b) = and_from _ _ (same-term a) (same-term b)
same-renamed s (pred p ts) = and_from _ _ (eq-eqb p p refl) (same-terms ts)
same-renamed s (and a b) = and_from _ _ (same-renamed s a) (same-renamed s b)
same-renamed s (or a b) = and_from _ _ (same-renamed s a) (same-renamed s b)
same-renamed s (imp a b) = and_from _ _ (same-renamed s a) (same-renamed s b)
same-renamed s (all x a) = same-renamed (under (fresh (taken s) x) s) a
same-renamed s (ex x a) = same-renamed (under (fresh (taken s) x) s) a

-- ---- the laws

ready : (vars : List (Option Name)) (d : Declarations) → AreDeclared d → LiveDiffer vars d → Ready (outermost vars d)
ready vars d h k = record { apart = apart-outermost vars d (all-differ vars d h k); differ = declared-differ d h }

pub term-back-law : TermBackLaw
term-back-law vars d t h c =
    let s : Scope = outermost vars d in
    let m : IsTerm s (shape_of (named s t)) t = term-back s (ready vars d h c.live) (length vars) t c.fitting c.living c.named in
    record { shape = (printing-law (named s t)).shape; faultless = term-faultless s (shape_of (named s t)) t m; means = m.means }

pub back-law : BackLaw
back-law vars d a h c =
    let s : Scope = outermost vars d in
    let m : IsFormula s (shape_of (named_formula s a)) (renamed s a) = formula-back s (ready vars d h c.live) (length vars) a c.fitting c.living (has-room s a c.small) c.named in
    record {
      shape = (printing-law (named_formula s a)).shape;
      faultless = formula-faultless s (shape_of (named_formula s a)) (renamed s a) m;
      means = m.means;
      same = same-renamed s a;
    }
