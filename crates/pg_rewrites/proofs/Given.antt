-- What an expression gives has at most 4,096 nodes.
use Rattle.std.proofs.Common.{◌≡◌, ◌≤◌, ℕ, zero, suc, List, [], ◌∷◌, Bool, true, false, refl, arith, subst}
use Rattle.std.specs.Prelude.{Ok, Err, nat_lt, if◌then◌else◌}
use Rattle.std.proofs.lemmas.Bool.Decides.{nat_tests}
use Rattle.pg_logic.specs.Tree.{Fm, falsum, eq, pred, and, or, imp, all, ex, opened_formula, nodes_of}
use Rattle.pg_script.specs.Data.{Part, Expression}
use Rattle.pg_moves.specs.Causes.{and_then, wanted}
use Rattle.pg_moves.specs.Closing.{given}
use Rattle.pg_moves.specs.Expressions.{WrongArgument, TooLarge, Given, small, named_given, same_given, at_argument, at_arguments, gives_within, gives, token_count, read_term, read_expression, begins}
use Rattle.pg_moves.specs.Goals.{Goal}
use Rattle.pg_moves.specs.Lookup.{Lookup}
use Rattle.pg_moves.proofs.Good.{tried-ok}
use Rattle.pg_moves.proofs.Sequents.{then-ok}

not-large : (n : ℕ) → nat_lt 4096 n ≡ false → n ≤ 4096
not-large n e = grind (arith, nat_tests)

small-few : (a r : Fm) → small a ≡ Ok r → nodes_of r ≤ 4096
small-few a r e = go (nat_lt 4096 (nodes_of a)) refl e
  where
    go : (b : Bool) → nat_lt 4096 (nodes_of a) ≡ b → (if b then Err (TooLarge (nodes_of a)) else Ok a) ≡ Ok r → nodes_of r ≤ 4096
    go true is e = absurd (cc)
    go false is e = let q : a ≡ r = cc in subst (λ a. nodes_of a ≤ 4096) q (not-large (nodes_of a) is)

module _ (l : Lookup) (g : Goal) (inner : Expression → Given) where
  argument-few : (a r : Fm) (p : Part) → at_argument l g inner a p ≡ Ok r → nodes_of r ≤ 4096
  argument-few (all x a) r p e =
      let y = then-ok (wanted (read_term l g p) (WrongArgument (begins p))) (λ t. small (opened_formula t a)) r e in small-few (opened_formula y.0 a) r y.2
  argument-few (imp a b) r p e =
      let x = then-ok (wanted (read_expression p) (WrongArgument (begins p))) (λ e. and_then (inner e) (λ c. and_then (same_given (begins p) a b c) small)) r e in
      let y = then-ok (inner x.0) (λ c. and_then (same_given (begins p) a b c) small) r x.2 in
      let z = then-ok (same_given (begins p) a b y.0) small r y.2 in
      small-few z.0 r z.2
  argument-few falsum r p e = absurd (cc)
  argument-few (eq t u) r p e = absurd (cc)
  argument-few (pred q ts) r p e = absurd (cc)
  argument-few (and a b) r p e = absurd (cc)
  argument-few (or a b) r p e = absurd (cc)
  argument-few (ex x a) r p e = absurd (cc)

  arguments-few : (ps : List Part) (a r : Fm) → nodes_of a ≤ 4096 → at_arguments l g inner ps a ≡ Ok r → nodes_of r ≤ 4096
  arguments-few [] a r few e = let q : a ≡ r = cc in subst (λ a. nodes_of a ≤ 4096) q few
  arguments-few (p ∷ ps) a r few e =
      let x = then-ok (at_argument l g inner a p) (at_arguments l g inner ps) r e in arguments-few ps x.0 r (argument-few a x.0 p x.1) x.2

within-few : (l : Lookup) (g : Goal) (deep : ℕ) (e : Expression) (r : Fm) → gives_within deep l g e ≡ Ok r → nodes_of r ≤ 4096
within-few l g zero e r q = absurd (cc)
within-few l g (suc deep) e r q =
    let x = then-ok (named_given l g e.name) (λ a. and_then (small a) (at_arguments l g (gives_within deep l g) e.args)) r q in
    let y = then-ok (small x.0) (at_arguments l g (gives_within deep l g) e.args) r x.2 in
    arguments-few l g (gives_within deep l g) e.args y.0 r (small-few x.0 y.0 y.1) y.2

gives-few : (l : Lookup) (g : Goal) (e : Expression) (r : Fm) → gives l g e ≡ Ok r → nodes_of r ≤ 4096
unfolding gives
gives-few l g e r q = within-few l g (suc (token_count e.args)) e r q

pub given-few : (l : Lookup) (g : Goal) (e : Expression) (r : Fm) → given l g e ≡ Ok r → nodes_of r ≤ 4096
given-few l g e r q = gives-few l g e r (tried-ok (gives l g e) r q)
