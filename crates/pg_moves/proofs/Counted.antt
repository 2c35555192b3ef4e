-- The parts of a move, and the nesting of expressions.
use Rattle.std.proofs.Common.{◌≡◌, ℕ, zero, suc, ◌+◌, ◌<◌, ◌≤◌, List, [], ◌∷◌, ◌++◌, length, map, Option, Some, None, refl, arith, ap, ◌∙◌, subst, length-append}
use Rattle.std.specs.Prelude.{Result, Ok, Err}
use Rattle.std.proofs.lemmas.List.{length-map}
use Rattle.pg_base.specs.Tokens.{Word}
use Rattle.pg_logic.specs.Tree.{Fm, falsum, eq, pred, and, or, imp, all, ex}
use Rattle.pg_logic.specs.Declarations.{Name}
use Rattle.pg_script.specs.Data as script
use Rattle.pg_script.specs.Data.{Part, Expression}
use Rattle.pg_script.specs.Blocks.{steps_of}
use Rattle.pg_script.specs.Lines.{exact_at}
use Rattle.pg_script.specs.Forms.{AreArguments, no_argument, argument, IsExpression, applied, enclosed}
use Rattle.pg_script.proofs.Phrases.{exact_found}
use Rattle.pg_moves.specs.Goals.{Goal}
use Rattle.pg_moves.specs.Causes.{and_then, wanted}
use Rattle.pg_moves.specs.Lookup.{Lookup}
use Rattle.pg_moves.specs.Acts.{Intro, Witness, rewrite_act, acts_of}
use Rattle.pg_moves.specs.Expressions.{WrongArgument, Given, small, same_given, read_expression, ok_of, begins, named_given, at_argument, at_arguments, gives_within, token_count, gives}
use Rattle.pg_moves.specs.Laws.{PartsLaw, NestingLaw}

pub parts-law : PartsLaw
parts-law x script.plain = refl
parts-law x (script.exact e) = refl
parts-law x (script.intro xs) = length-map xs Intro
parts-law x (script.apply e h) = refl
parts-law x (script.rewrite rs h) = length-map rs (rewrite_act h)
parts-law x (script.split y ys) = refl
parts-law x (script.uses ps) = length-map ps Witness
parts-law x (script.symm h) = refl
parts-law x (script.have h p e) = refl
parts-law x (script.revert y) = refl
parts-law x (script.by_cases h p) = refl
parts-law x script.unknown = refl

-- ---- an expression has fewer tokens in its arguments than it has itself

arguments-long : {end depth : ℕ} {ws next : List Word} {ps : List Part} → AreArguments end depth ws next ps → token_count ps ≡ length ws
arguments-long (no_argument next) = refl
arguments-long (argument ws vs next ps a k) = let e = length-append ws vs in let e' = arguments-long k in omega (arith, e, e')

expression-long : {end depth : ℕ} {ws next : List Word} {e : Expression} → IsExpression end depth ws next e → token_count e.args < length ws
expression-long (applied depth w ws next args h a) = let q = arguments-long a in omega (arith, q)
expression-long (enclosed depth o c ws next e ho hc lt i) = let l = expression-long i in let q = length-append ws (c ∷ []) in omega (arith, l, q)

pub read-long : (p : Part) (e : Expression) → read_expression p ≡ Some e → token_count e.args < length p.tokens
read-long p e is = expression-long (exact_found p.end p.tokens e (ok (exact_at p.end p.tokens) is))
  where
    ok : {X E : Type 0} {x : X} (r : Result X E) → ok_of r ≡ Some x → r ≡ Ok x
    ok (Ok y) e = let q : y ≡ _ = cc in ap Ok q
    ok (Err c) e = absurd (cc)

-- ---- so nothing hangs on how deep expressions may be nested

pub then-same : {X Y E : Type 0} (x : Result X E) (f g : X → Result Y E) → ((a : X) → f a ≡ g a) → and_then x f ≡ and_then x g
then-same (Ok a) f g h = h a
then-same (Err c) f g h = refl

then-read : {X Y E : Type 0} (o : Option X) (c : E) (f g : X → Result Y E) → ((a : X) → o ≡ Some a → f a ≡ g a) → and_then (wanted o c) f ≡ and_then (wanted o c) g
then-read (Some a) c f g h = h a refl
then-read None c f g h = refl

module _ (l : Lookup) (g : Goal) where
  module _ (inner other : Expression → Given) where
    -- they give the same of each expression that the argument may be
    abbrev pub Alike : Part → Type 0
    Alike p = (e : Expression) → read_expression p ≡ Some e → inner e ≡ other e

    argument-same : (a : Fm) (p : Part) → Alike p → at_argument l g inner a p ≡ at_argument l g other a p
    argument-same (imp a b) p h =
        then-read (read_expression p) (WrongArgument (begins p)) (λ e. and_then (inner e) (λ c. and_then (same_given (begins p) a b c) small)) (λ e. and_then (other e) (λ c. and_then (same_given (begins p) a b c) small))
        (λ e is. ap (λ x. and_then x (λ c. and_then (same_given (begins p) a b c) small)) (h e is))
    argument-same (all x a) p h = refl
    argument-same falsum p h = refl
    argument-same (eq t u) p h = refl
    argument-same (pred q ts) p h = refl
    argument-same (and a b) p h = refl
    argument-same (or a b) p h = refl
    argument-same (ex x a) p h = refl

    pub arguments-same : (n : ℕ) (ps : List Part) (a : Fm) → token_count ps ≤ n → ((p : Part) → length p.tokens ≤ n → Alike p) → at_arguments l g inner ps a ≡ at_arguments l g other ps a
    arguments-same n [] a le h = refl
    arguments-same n (p ∷ ps) a le h =
        ap (λ x. and_then x (at_arguments l g inner ps)) (argument-same a p (h p (omega (arith, le))))
        ∙ then-same (at_argument l g other a p) (at_arguments l g inner ps) (at_arguments l g other ps) (λ b. arguments-same n ps b (omega (arith, le)) h)

  within-same : (n m : ℕ) (e : Expression) → token_count e.args < n → token_count e.args < m → gives_within n l g e ≡ gives_within m l g e
  within-same zero m e lt lt' = absurd (omega (arith, lt))
  within-same (suc n) zero e lt lt' = absurd (omega (arith, lt'))
  within-same (suc n) (suc m) e lt lt' =
      then-same (named_given l g e.name) (λ a. and_then (small a) (at_arguments l g (gives_within n l g) e.args)) (λ a. and_then (small a) (at_arguments l g (gives_within m l g) e.args))
      (λ a. then-same (small a) (at_arguments l g (gives_within n l g) e.args) (at_arguments l g (gives_within m l g) e.args)
      (λ b. arguments-same (gives_within n l g) (gives_within m l g) (token_count e.args) e.args b (omega arith)
      (λ p le e' is. let q = read-long p e' is in within-same n m e' (omega (arith, lt, le, q)) (omega (arith, lt', le, q)))))

pub nesting-law : NestingLaw
unfolding gives
nesting-law l g e deep lt = within-same l g deep (suc (token_count e.args)) e lt (omega arith)
