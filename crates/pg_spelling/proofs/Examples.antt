-- What the laws of printing ask can be met: ∀ x, x + 0 = x; a binder that a variable's name makes fresh; a number and ≤; 0 = 0
-- where ^ has one parameter but does not occur.
use Rattle.std.proofs.Common.{◌≡◌, ℕ, zero, suc, ◌≤◌, List, [], ◌∷◌, codes, sym, refl, subst, arith}
use Rattle.std.specs.Prelude.{true, Some, slice_get, take}
use Rattle.std.specs.Str.{encode_utf8_all, all_scalars}
use Rattle.std.proofs.lemmas.Str.{chars-encodes}
use Rattle.std.proofs.lemmas.List.Elements.{All-nil, All-cons}
use Rattle.pg_base.specs.declared.token.TokenKind.TheVariants as kind
use Rattle.pg_base.specs.Layout.{IsToken}
use Rattle.pg_logic.specs.Tree.{free, bound, nought, succ, app, none, arg, Fm, eq, pred, all, ex}
use Rattle.pg_logic.specs.Declarations.{Name, by_recursion, by_term, Declarations, AreDeclared, HasParameters, arity_of, arity_limit, signature_of}
use Rattle.pg_logic.specs.Signature.{fits, FitsFunction, before_predicate, StandsAfter}
use Rattle.pg_grammar.specs.Printing.{shape_of}
use Rattle.pg_meaning.specs.Scope.{outermost}
use Rattle.pg_spelling.specs.Named.{named_formula}
use Rattle.pg_spelling.specs.Back.{CanReadTerm, ReadsBack}
use Rattle.pg_spelling.specs.TextBack.{IsNameToken, IsNumberToken, IsTextOf, CanWriteFormula}
use Rattle.pg_spelling.proofs.Back.{back-law}
use Rattle.pg_spelling.proofs.TextBack.{text-law}

-- what holds of one, at place 0, holds of each of a list of one
of-one : {X : Type 0} (P : ℕ → X → Type 0) (x : X) → P 0 x → (k : ℕ) (y : X) → slice_get (x ∷ []) k ≡ Some y → P k y
of-one P x h zero y e = let same : x ≡ y = cc in subst (P 0) same h
of-one P x h (suc k) y e = absurd cc

of-none : {X : Type 0} (P : ℕ → X → Type 0) (k : ℕ) (y : X) → slice_get [] k ≡ Some y → P k y
of-none P k y e = absurd cc

-- the one live name
of-name : (P : Name → Type 0) (x : Name) → P x → (i : ℕ) (y : Name) → slice_get (Some x ∷ []) i ≡ Some (Some y) → P y
of-name P x h zero y e = let same : x ≡ y = cc in subst P same h
of-name P x h (suc i) y e = absurd cc

-- ---- texts of tokens

token-of : (cs : List ℕ) → all_scalars cs ≡ true → IsToken kind.Name cs [] → IsNameToken (encode_utf8_all cs)
token-of cs s h = ((cs, (s, refl)), subst (λ x. IsToken kind.Name x []) (sym (chars-encodes cs s)) h)

x-token : IsNameToken (codes "x")
unfolding lib.Utf8.encode
x-token = token-of (codes "x") refl ((refl, refl, refl), refl, omega arith, refl)

-- α, as two bytes
abbrev pub alpha : Name
alpha = 206 ∷ 177 ∷ []

alpha-token : IsNameToken alpha
unfolding lib.Utf8.encode
alpha-token = token-of (codes "α") refl ((refl, refl, refl), refl, omega arith, refl)

one-token : IsNumberToken (codes "1")
unfolding lib.Utf8.encode
one-token = ((codes "1", (refl, refl)), subst (λ x. IsToken kind.Number x []) (sym (chars-encodes (codes "1") refl)) ((omega arith, refl), refl, omega arith))

-- ---- ∀ x, x + 0 = x

abbrev pub sums : Declarations
sums = record { functions = by_recursion (codes "+") 2 (codes "n" ∷ codes "m" ∷ []) (free 0) (succ (free 2)) (codes "add_zero") (codes "add_succ") ∷ []; predicates = [] }

pub sums-declared : AreDeclared sums
sums-declared = record {
  declared = record {
    functions = of-one (λ k f. FitsFunction (take k (signature_of sums).functions) f) _ (omega arith, refl, refl);
    predicates = of-none _;
    order = of-none _;
  };
  names_differ = refl;
  parameters = All-cons HasParameters _ [] (omega arith, refl) (All-nil HasParameters);
  function_arities = All-cons (λ f. arity_of f ≤ arity_limit) _ [] (omega arith) (All-nil (λ f. arity_of f ≤ arity_limit));
  predicate_arities = All-nil (λ p. p.arity ≤ arity_limit);
  function_room = omega arith;
  predicate_room = omega arith;
}

abbrev pub add_zero : Fm
add_zero = all (codes "x") (eq (app 0 (arg (bound 0) (arg nought none))) (bound 0))

pub add_zero-writes : CanWriteFormula [] sums add_zero
add_zero-writes = record {
  reads = record {
    live = record { differ = tt; undeclared = tt };
    named = ((refl, (tt, (tt, tt))), tt);
    fitting = refl;
    living = refl;
    small = omega arith;
  };
  live = λ i x e. absurd cc;
  texts = ((tt, (tt, (tt, tt))), tt);
  binders = (x-token, omega arith, tt);
}

pub add_zero-back : ReadsBack (outermost [] sums) add_zero
add_zero-back = back-law [] sums add_zero sums-declared add_zero-writes.reads

pub add_zero-text : IsTextOf (shape_of (named_formula (outermost [] sums) add_zero)) (encode_utf8_all (codes "∀ x, x + 0 = x"))
unfolding lib.Utf8.encode
add_zero-text = text-law [] sums add_zero add_zero-writes

-- ---- ∃ α1, α1 = α, where α is a variable

abbrev pub equals_alpha : Fm
equals_alpha = ex alpha (eq (bound 0) (free 0))

pub alpha-writes : CanWriteFormula (Some alpha ∷ []) sums equals_alpha
unfolding Rattle.std.specs.Fmt.digits
alpha-writes = record {
  reads = record {
    live = record { differ = (refl, tt); undeclared = (refl, tt) };
    named = (tt, tt);
    fitting = refl;
    living = refl;
    small = omega arith;
  };
  live = of-name _ _ (alpha-token, refl);
  texts = (tt, tt);
  binders = (alpha-token, omega arith, tt);
}

pub alpha-back : ReadsBack (outermost (Some alpha ∷ []) sums) equals_alpha
alpha-back = back-law (Some alpha ∷ []) sums equals_alpha sums-declared alpha-writes.reads

pub alpha-text : IsTextOf (shape_of (named_formula (outermost (Some alpha ∷ []) sums) equals_alpha)) (encode_utf8_all (codes "∃ α1, α1 = α"))
unfolding lib.Utf8.encode Rattle.std.specs.Fmt.digits
alpha-text = text-law (Some alpha ∷ []) sums equals_alpha alpha-writes

-- ---- 1 ≤ x, where x is a variable

abbrev pub orders : Declarations
orders = record {
  functions = by_term (codes "1") (succ nought) (codes "one_eq") ∷ [];
  predicates = record { name = 226 ∷ 137 ∷ 164 ∷ []; arity = 2; functions_before = 1; body = eq (free 0) (free 1) } ∷ [];
}

pub orders-declared : AreDeclared orders
orders-declared = record {
  declared = record {
    functions = of-one (λ k f. FitsFunction (take k (signature_of orders).functions) f) _ refl;
    predicates = of-one (λ k p. fits (before_predicate (signature_of orders) k p) p.arity 0 p.body ≡ true) _ refl;
    order = of-one (λ k p. StandsAfter (signature_of orders).functions (take k (signature_of orders).predicates) p) _ (omega arith, All-nil (λ q. q.functions_before ≤ 1));
  };
  names_differ = refl;
  parameters = All-cons HasParameters _ [] tt (All-nil HasParameters);
  function_arities = All-cons (λ f. arity_of f ≤ arity_limit) _ [] (omega arith) (All-nil (λ f. arity_of f ≤ arity_limit));
  predicate_arities = All-cons (λ p. p.arity ≤ arity_limit) _ [] (omega arith) (All-nil (λ p. p.arity ≤ arity_limit));
  function_room = omega arith;
  predicate_room = omega arith;
}

abbrev pub one_at_most : Fm
one_at_most = pred 0 (arg (app 0 none) (arg (free 0) none))

pub one-writes : CanWriteFormula (Some (codes "x") ∷ []) orders one_at_most
one-writes = record {
  reads = record {
    live = record { differ = (refl, tt); undeclared = (refl, tt) };
    named = (refl, (((refl, refl), tt), (tt, tt)));
    fitting = refl;
    living = refl;
    small = omega arith;
  };
  live = of-name _ _ (x-token, refl);
  texts = (tt, ((one-token, tt), (tt, tt)));
  binders = tt;
}

pub one-back : ReadsBack (outermost (Some (codes "x") ∷ []) orders) one_at_most
one-back = back-law (Some (codes "x") ∷ []) orders one_at_most orders-declared one-writes.reads

pub one-text : IsTextOf (shape_of (named_formula (outermost (Some (codes "x") ∷ []) orders) one_at_most)) (encode_utf8_all (codes "1 ≤ x"))
unfolding lib.Utf8.encode
one-text = text-law (Some (codes "x") ∷ []) orders one_at_most one-writes

-- ---- 0 = 0, where ^ has one parameter but does not occur

abbrev raises : Declarations
raises = record { functions = by_recursion (codes "^") 1 (codes "n" ∷ []) nought (free 0) (codes "raise_zero") (codes "raise_succ") ∷ []; predicates = [] }

pub raises-declared : AreDeclared raises
raises-declared = record {
  declared = record {
    functions = of-one (λ k f. FitsFunction (take k (signature_of raises).functions) f) _ (omega arith, refl, refl);
    predicates = of-none _;
    order = of-none _;
  };
  names_differ = refl;
  parameters = All-cons HasParameters _ [] (omega arith, refl) (All-nil HasParameters);
  function_arities = All-cons (λ f. arity_of f ≤ arity_limit) _ [] (omega arith) (All-nil (λ f. arity_of f ≤ arity_limit));
  predicate_arities = All-nil (λ p. p.arity ≤ arity_limit);
  function_room = omega arith;
  predicate_room = omega arith;
}

abbrev zero_is_zero : Fm
zero_is_zero = eq nought nought

pub zero-writes : CanWriteFormula [] raises zero_is_zero
zero-writes = record {
  reads = record {
    live = record { differ = tt; undeclared = tt };
    named = (tt, tt);
    fitting = refl;
    living = refl;
    small = omega arith;
  };
  live = λ i x e. absurd cc;
  texts = (tt, tt);
  binders = tt;
}

pub zero-back : ReadsBack (outermost [] raises) zero_is_zero
zero-back = back-law [] raises zero_is_zero raises-declared zero-writes.reads

pub zero-text : IsTextOf (shape_of (named_formula (outermost [] raises) zero_is_zero)) (encode_utf8_all (codes "0 = 0"))
unfolding lib.Utf8.encode
zero-text = text-law [] raises zero_is_zero zero-writes

-- the term with ^ before its one argument is left out
pub raised-out : CanReadTerm [] raises (app 0 (arg nought none)) → ⊥
raised-out h = absurd (omega (arith, h.named.0))
