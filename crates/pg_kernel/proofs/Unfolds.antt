-- The body of a predicate at arguments.
use Rattle.std.proofs.Common.{◌≡◌, ℕ, ◌≤◌, List, [], ◌∷◌, length, Option, Some, None, refl, ap, sym, ◌∙◌, rules}
use Rattle.std.specs.Prelude.{slice_get, option_map}
use Rattle.std.proofs.lemmas.Option.{slice_get-map, slice_get_past}
use Rattle.pg_logic.specs.Tree.{Tms, Fm, pred, list_of, substituted_formula}
use Rattle.pg_logic.specs.Declarations.{NamedPredicate, predicate_of}
use Rattle.pg_logic.specs.Kernel.{body_at, unfolded}
use Rattle.pg_terms.specs.declared.term.Term.{Term}
use Rattle.pg_terms.specs.declared.formula.Formula.{Formula, Pred, the_lemmas}
use Rattle.pg_terms.specs.View.{term, terms, args, formula}
use Rattle.pg_arith.specs.declared.signature.Function.{Function}
use Rattle.pg_arith.specs.declared.signature.Predicate.{Predicate}
use Rattle.pg_arith.specs.View.{declarations, signature}

list_of_args : (ts : List Term) → list_of (args ts) ≡ terms ts
list_of_args [] = refl
list_of_args (t ∷ ts) = ap (λ l. term t ∷ l) (list_of_args ts)

formula-Pred : (p : ℕ) (ts : List Term) → formula (Pred p ts) ≡ pred p (args ts)
formula-Pred p ts = search (rules, the_lemmas)

unfolded-Pred : (sv : List Function × List Predicate) (a : Formula) (p : ℕ) (ts : List Term) → a ≡ Pred p ts →
    unfolded (signature sv) (formula a) ≡ body_at (option_map predicate_of (slice_get (declarations sv).predicates p)) (args ts)
unfolded-Pred sv a p ts is =
    ap (λ a. unfolded (signature sv) (formula a)) is ∙ ap (unfolded (signature sv)) (formula-Pred p ts)
    ∙ ap (λ o. body_at o (args ts)) (slice_get-map predicate_of (declarations sv).predicates p)

body_of : (o : Option NamedPredicate) (ts : Tms) (b : Fm) → option_map (λ (p : NamedPredicate). p.body) o ≡ Some b →
    body_at (option_map predicate_of o) ts ≡ Some (substituted_formula (list_of ts) b)
body_of None ts b e = absurd (cc)
body_of (Some p) ts b e = let same : p.body ≡ b = cc in ap (λ b. Some (substituted_formula (list_of ts) b)) same

pub unfolded_missing : (sv : List Function × List Predicate) (a : Formula) (p : ℕ) (ts : List Term) → a ≡ Pred p ts →
    length (declarations sv).predicates ≤ p → None ≡ unfolded (signature sv) (formula a)
unfolded_missing sv a p ts is past =
    sym (unfolded-Pred sv a p ts is ∙ ap (λ o. body_at (option_map predicate_of o) (args ts)) (slice_get_past (declarations sv).predicates p past))

pub unfolded_found : (sv : List Function × List Predicate) (a : Formula) (p : ℕ) (ts : List Term) (b r : Fm) → a ≡ Pred p ts →
    option_map (λ (p : NamedPredicate). p.body) (slice_get (declarations sv).predicates p) ≡ Some b → r ≡ substituted_formula (terms ts) b → Some r ≡ unfolded (signature sv) (formula a)
unfolded_found sv a p ts b r is there e =
    ap Some (e ∙ ap (λ l. substituted_formula l b) (sym (list_of_args ts)))
    ∙ sym (body_of (slice_get (declarations sv).predicates p) (args ts) b there) ∙ sym (unfolded-Pred sv a p ts is)
