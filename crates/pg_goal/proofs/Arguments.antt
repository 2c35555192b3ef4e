-- What is given at one argument more.
use Rattle.std.proofs.Common.{◌≡◌, ◌≤◌, ◌<◌, ℕ, true, [], length, map, refl, ap, sym, subst, ◌∙◌, arith, rules, Some}
use Rattle.std.specs.Prelude.{Result, Ok, Err, nat_lt, if◌then◌else◌}
use Rattle.std.proofs.lemmas.Bool.{and_parts}
use Rattle.std.proofs.lemmas.Bool.Decides.{nat_tests}
use Rattle.pg_logic.specs.Tree.{Tm, Fm, all, imp, nodes_of, opened_formula, same_formula}
use Rattle.pg_logic.specs.Declarations.{Name, signature_of}
use Rattle.pg_logic.specs.Signature.{fits_term}
use Rattle.pg_logic.specs.Kernel.{Pf, alle, impe}
use Rattle.pg_logic.proofs.Fitting.{fits-opened}
use Rattle.pg_terms.specs.declared.formula.Formula.{Formula, All, the_lemmas}
use Rattle.pg_terms.specs.View.{formula}
use Rattle.pg_kernel.specs.View.{proof}
use Rattle.pg_script.specs.Data.{Part, Expression}
use Rattle.pg_moves.specs.Goals.{Goal}
use Rattle.pg_moves.specs.Lookup.{Lookup, IsAvailable}
use Rattle.pg_moves.specs.Causes.{and_then, wanted}
use Rattle.pg_moves.specs.Expressions.{WrongArgument, TooLarge, small, named_given, at_arguments, gives_within, gives, token_count, read_term, begins}
use Rattle.pg_moves.specs.Proofs.{hyp_formula}
use Rattle.pg_moves.proofs.Rules.{by_alle}
use Rattle.pg_moves.proofs.More.{gives_all_of}
use Rattle.pg_moves.proofs.Counted.{read-long, then-same, arguments-same, nesting-law}
use Rattle.pg_goal.specs.declared.expression.Place.{Place}
use Rattle.pg_goal.specs.declared.expression.Given.{Given}
use Rattle.pg_goal.specs.Conditions.{IsProved}
use Rattle.pg_goal.specs.Places.{look, spot, IsHeld}

formula-All : (x : Name) (b : Formula) → formula (All x b) ≡ all x (formula b)
formula-All x b = search (rules, the_lemmas)

-- ---- without a bound of the nesting

gives-is : (l : Lookup) (g : Goal) (e : Expression) → gives l g e ≡ and_then (named_given l g e.name) (λ a. and_then (small a) (at_arguments l g (gives l g) e.args))
unfolding gives
gives-is l g e =
    let n = token_count e.args in
    then-same (named_given l g e.name) (λ a. and_then (small a) (at_arguments l g (gives_within n l g) e.args)) (λ a. and_then (small a) (at_arguments l g (gives l g) e.args))
    (λ a. then-same (small a) (at_arguments l g (gives_within n l g) e.args) (at_arguments l g (gives l g) e.args)
    (λ b. arguments-same l g (gives_within n l g) (gives l g) n e.args b (omega arith)
    (λ p le f is. nesting-law l g f n (let q = read-long p f is in omega (arith, le, q)))))

in-turn : {X Y Z E : Type 0} (x : Result X E) (f : X → Result Y E) (g : Y → Result Z E) → and_then x (λ a. and_then (f a) g) ≡ and_then (and_then x f) g
in-turn (Ok a) f g = refl
in-turn (Err e) f g = refl

-- the name's formula at all arguments
pub gives_from : (l : Lookup) (g : Goal) (e : Expression) → gives l g e ≡ and_then (and_then (named_given l g e.name) small) (at_arguments l g (gives l g) e.args)
gives_from l g e = gives-is l g e ∙ in-turn (named_given l g e.name) small (at_arguments l g (gives l g) e.args)

-- ---- a term as argument

is-large : (n : ℕ) → 4096 < n → nat_lt 4096 n ≡ true
is-large n lt = grind (arith, nat_tests)

pub too_large : (l : Lookup) (g : Goal) (a : Fm) (p : Part) (t : Tm) (size : ℕ) → read_term l g p ≡ Some t → size ≡ nodes_of (opened_formula t a) → 4096 < size →
    and_then (wanted (read_term l g p) (WrongArgument (begins p))) (λ t. small (opened_formula t a)) ≡ Err (TooLarge size)
too_large l g a p t size read is lt =
    ap (λ o. and_then (wanted o (WrongArgument (begins p))) (λ t. small (opened_formula t a))) read
    ∙ ap (λ b. if b then Err (TooLarge (nodes_of (opened_formula t a))) else Ok (opened_formula t a)) (is-large (nodes_of (opened_formula t a)) (omega (arith, is, lt)))
    ∙ ap (λ n. Err (TooLarge n)) (sym is)

pub at_term_held : (p : Place) (a : Fm) (t : Tm) (q : Pf) (x : Given) → IsProved (look p) (spot p) (all [] a) q →
    fits_term (signature_of (look p).declared).functions (length (spot p).vars) 0 t ≡ true → formula x.formula ≡ opened_formula t a → proof x.proof ≡ alle a t q →
    nodes_of (opened_formula t a) ≤ 4096 → IsHeld p x
at_term_held p a t q x h ft is by few =
    let l = look p in let g = spot p in let s = signature_of l.declared in let n = length g.vars in
    let made : IsProved l g (opened_formula t a) (alle a t q) = record {
      fitting = fits-opened s n t a ft h.fitting;
      shows = by_alle s l.theorems (IsAvailable l) n (map hyp_formula g.hyps) [] a t q h.fitting ft h.shows;
    } in
    (subst (IsProved l g (formula x.formula)) (sym by) (subst (λ b. IsProved l g b (alle a t q)) (sym is) made), subst (λ b. nodes_of b ≤ 4096) (sym is) few)

-- ---- an expression as argument

pub at_proof_held : (p : Place) (a b c : Fm) (q r : Pf) (x : Given) → IsProved (look p) (spot p) (imp a b) q → IsProved (look p) (spot p) c r → same_formula c a ≡ true →
    formula x.formula ≡ b → proof x.proof ≡ impe a q r → nodes_of b ≤ 4096 → IsHeld p x
at_proof_held p a b c q r x h k same is by few =
    let l = look p in let g = spot p in let s = signature_of l.declared in let n = length g.vars in
    let f = and_parts _ _ h.fitting in
    let made : IsProved l g b (impe a q r) = record {
      fitting = f.1;
      shows = gives_all_of s l.theorems (IsAvailable l) n (map hyp_formula g.hyps) a b q r f.0 h.shows (k.shows a same);
    } in
    (subst (IsProved l g (formula x.formula)) (sym by) (subst (λ b. IsProved l g b (impe a q r)) (sym is) made), subst (λ b. nodes_of b ≤ 4096) (sym is) few)

-- ---- any argument

-- the name of the binder counts for nothing
all-named : (l : Lookup) (g : Goal) (x : Name) (a : Fm) (q : Pf) → IsProved l g (all x a) q → IsProved l g (all [] a) q
all-named l g x a q h = record { fitting = h.fitting; shows = h.shows }

pub held_all : (p : Place) (given : Given) (x : Name) (body : Formula) → given.formula ≡ All x body → IsHeld p given → IsProved (look p) (spot p) (all [] (formula body)) (proof given.proof)
held_all p given x body is h =
    all-named (look p) (spot p) x (formula body) (proof given.proof) (subst (λ a. IsProved (look p) (spot p) a (proof given.proof)) (ap formula is ∙ formula-All x body) h.0)
