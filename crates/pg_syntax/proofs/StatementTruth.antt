-- The closed formula of a statement fits no variable, and is true where the hypotheses entail the target.
use Rattle.std.proofs.Common.{◌≡◌, ℕ, ◌+◌, ◌<◌, ◌↔◌, true, List, [], ◌∷◌, ◌++◌, length, refl, arith, ap, sym, ◌∙◌, subst, length-append, ⊎_elim}
use Rattle.std.specs.Prelude.{slice_index}
use Rattle.std.proofs.lemmas.Bool.{and_from, lt-ltb, eq-eqb, ne_eqb, cases_order}
use Rattle.std.proofs.lemmas.List.{append_assoc, append-nil}
use Rattle.std.proofs.Math.Seq.{get_or-append_seam}
use Rattle.std.proofs.Math.ListN.{get_or-append}
use Rattle.pg_logic.specs.Tree.{Tm, free, bound, Fm, closed_free, closed_over_formula, kept_bound}
use Rattle.pg_logic.specs.Signature.{Signature, fits_term, fits}
use Rattle.pg_logic.specs.Value.{Functions, value, functions_of}
use Rattle.pg_logic.specs.Truth.{Predicates, IsTrueIn, IsTrueOf, predicates_of}
use Rattle.pg_logic.specs.Sound.{AreTrueOf, Entails}
use Rattle.pg_logic.proofs.Truths.{Follows, truth-mapped, truth-agrees}
use Rattle.pg_logic.proofs.Fitting.{Keeps, fits-mapped}
use Rattle.pg_terms.specs.View.{formula}
use Rattle.pg_syntax.specs.declared.statement.Binder.{Binder}
use Rattle.pg_syntax.specs.declared.statement.Binder.TheVariants.{Var, Hyp}
use Rattle.pg_syntax.specs.Statements.{closed, closed_from, variables, hypotheses, AreFitting, Closes, Means}

-- ---- a formula over n + 1 variables, closed over the last

-- what is put for a free variable: a bound one for the last, which is n; the others stay
by_last : (P : Tm → Type 0) (n d i : ℕ) → i < n + 1 → (i ≡ n → P (bound d)) → (i < n → P (free i)) → P (closed_free n d i)
by_last P n d i lt last before =
    ⊎_elim
    (λ (e : i ≡ n). rw (eq-eqb i n e) (last e))
    (λ o. ⊎_elim
    (λ (less : i < n). let ne : i ≡ n → ⊥ = λ e. omega arith in rw (ne_eqb i n ne) (before less))
    (λ (more : n < i). absurd (omega arith)) o)
    (cases_order i n)

fits-closed : (s : Signature) (n : ℕ) (a : Fm) → fits s (n + 1) 0 a ≡ true → fits s n 1 (closed_over_formula n a) ≡ true
fits-closed s n a h =
    let R : ℕ → ℕ → ℕ → Type 0 = λ d m m'. (m ≡ d) × (m' ≡ d + 1) in
    let w : Keeps s.functions (closed_free n) kept_bound (n + 1) n R = record {
      lands = λ d m m' r. record {
        at_free = λ i lt. by_last (λ t. fits_term s.functions n m' t ≡ true) n d i lt (λ e. lt-ltb d m' (omega (arith, r.1))) (λ less. lt-ltb i n less);
        at_bound = λ i lt. lt-ltb i m' (omega (arith, r.0, r.1));
      };
      under = λ d m m' r. (omega (arith, r.0), omega (arith, r.1));
    } in
    fits-mapped s (closed_free n) kept_bound (n + 1) n R w a 0 0 1 (refl, refl) h

-- the number that comes last
last-is : (xs : List ℕ) (n v : ℕ) → length xs ≡ n → slice_index (xs ++ v ∷ []) n ≡ v
last-is xs n v long = ap (slice_index (xs ++ v ∷ [])) (sym long) ∙ get_or-append_seam xs v [] 0

earlier-is : (xs : List ℕ) (n v i : ℕ) → length xs ≡ n → i < n → slice_index (xs ++ v ∷ []) i ≡ slice_index xs i
earlier-is xs n v i long lt = get_or-append xs (v ∷ []) 0 i (omega arith)

module _ (s : Signature) where
  abbrev of : Functions
  of = functions_of s.functions

  abbrev at : Predicates
  at = predicates_of of s.predicates

  -- a number for the bound variable does what it does for the free one
  truth-closed : (n v : ℕ) (fr : List ℕ) (a : Fm) → length fr ≡ n → fits s (n + 1) 0 a ≡ true → IsTrueIn of at fr (v ∷ []) (closed_over_formula n a) ↔ IsTrueOf s (fr ++ v ∷ []) a
  truth-closed n v fr a long h =
      let R : ℕ → ℕ → List ℕ → List ℕ → Type 0 = λ d m bd bd'. (length bd' ≡ d) × (m ≡ d) × (bd ≡ bd' ++ v ∷ []) in
      let w : Follows of (closed_free n) kept_bound (n + 1) fr (fr ++ v ∷ []) R = record {
        leaves = λ d m bd bd' r. record {
          at_free = λ i lt. by_last (λ t. value of fr bd t ≡ slice_index (fr ++ v ∷ []) i) n d i lt
              (λ e. ap (λ l. slice_index l d) r.2 ∙ last-is bd' d v r.0 ∙ sym (last-is fr n v long) ∙ ap (slice_index (fr ++ v ∷ [])) (sym e))
              (λ less. sym (earlier-is fr n v i long less));
          at_bound = λ i lt. ap (λ l. slice_index l i) r.2 ∙ earlier-is bd' d v i r.0 (omega (arith, r.1));
        };
        under = λ d m bd bd' x r. (omega (arith, r.0), omega (arith, r.1), ap (λ l. x ∷ l) r.2);
      } in
      truth-mapped s of at (closed_free n) kept_bound (n + 1) fr (fr ++ v ∷ []) R w a 0 0 (v ∷ []) [] (refl, refl, refl) h

  -- ---- the binders one after the other

  closed-fits : (n : ℕ) (bs : List Binder) (target : Fm) → AreFitting s n bs target → fits s n 0 (closed_from n bs target) ≡ true
  closed-fits n [] target h = h
  closed-fits n (Var x ∷ bs) target h = fits-closed s n (closed_from (n + 1) bs target) (closed-fits (n + 1) bs target h)
  closed-fits n (Hyp y a ∷ bs) target h = and_from _ _ h.0 (closed-fits n bs target h.1)

  -- the target is true under these numbers and all further ones under which the hypotheses are true
  abbrev Entailed : List ℕ → List Binder → Fm → Type 0
  Entailed fr bs target = (more : List ℕ) → length more ≡ variables bs → AreTrueOf s (fr ++ more) (hypotheses bs) → IsTrueOf s (fr ++ more) target

  none_left : (more : List ℕ) → length more ≡ 0 → [] ≡ more
  none_left [] long = refl
  none_left (v ∷ more) long = absurd (omega arith)

  -- one number more
  push : (fr : List ℕ) (v : ℕ) (more : List ℕ) → (fr ++ v ∷ []) ++ more ≡ fr ++ v ∷ more
  push fr v more = append_assoc fr (v ∷ []) more

  entailed-open : (fr : List ℕ) (x : List ℕ) (bs : List Binder) (target : Fm) → ((v : ℕ) → Entailed (fr ++ v ∷ []) bs target) → Entailed fr (Var x ∷ bs) target
  entailed-open fr x bs target each [] long hs = absurd (omega arith)
  entailed-open fr x bs target each (v ∷ more) long hs =
      subst (λ l. IsTrueOf s l target) (push fr v more) (each v more (omega arith) (subst (λ l. AreTrueOf s l (hypotheses bs)) (sym (push fr v more)) hs))

  entailed-at : (fr : List ℕ) (x : List ℕ) (bs : List Binder) (target : Fm) → Entailed fr (Var x ∷ bs) target → (v : ℕ) → Entailed (fr ++ v ∷ []) bs target
  entailed-at fr x bs target all v more long hs =
      subst (λ l. IsTrueOf s l target) (sym (push fr v more)) (all (v ∷ more) (omega arith) (subst (λ l. AreTrueOf s l (hypotheses bs)) (push fr v more) hs))

  -- a hypothesis is over the numbers before it
  longer : (fr more : List ℕ) (n : ℕ) (a : Fm) → length fr ≡ n → fits s n 0 a ≡ true → IsTrueOf s (fr ++ more) a ↔ IsTrueOf s fr a
  longer fr more n a long h = truth-agrees s of at n (fr ++ more) fr [] a (λ i lt. get_or-append fr more 0 i (omega arith)) 0 h

  closed-true : (n : ℕ) (fr : List ℕ) (bs : List Binder) (target : Fm) → length fr ≡ n → AreFitting s n bs target → IsTrueOf s fr (closed_from n bs target) ↔ Entailed fr bs target
  closed-true n fr [] target long h = (
    λ t more none hs. subst (λ l. IsTrueOf s (fr ++ l) target) (none_left more none) (subst (λ l. IsTrueOf s l target) (sym (append-nil fr)) t),
    λ e. subst (λ l. IsTrueOf s l target) (append-nil fr) (e [] refl tt),
  )
  closed-true n fr (Var x ∷ bs) target long h =
      let inner : Fm = closed_from (n + 1) bs target in
      let step = λ (v : ℕ). truth-closed n v fr inner long (closed-fits (n + 1) bs target h) in
      let rest = λ (v : ℕ). closed-true (n + 1) (fr ++ v ∷ []) bs target (omega (arith, length-append fr (v ∷ []))) h in
      (λ t. entailed-open fr x bs target (λ v. (rest v).0 ((step v).0 (t v))), λ e v. (step v).1 ((rest v).1 (entailed-at fr x bs target e v)))
  closed-true n fr (Hyp y a ∷ bs) target long h =
      let rest = closed-true n fr bs target long h.1 in (
        λ t more many hs. rest.0 (t ((longer fr more n (formula a) long h.0).0 hs.0)) more many hs.1,
        λ e t. rest.1 (λ more many hs. e more many ((longer fr more n (formula a) long h.0).1 t, hs)),
      )

pub closes : (bs : List Binder) (target a : Fm) → a ≡ closed bs target → Closes bs target a
closes bs target a e = λ s h. ap (fits s 0 0) e ∙ closed-fits s 0 bs target h

pub means : (bs : List Binder) (target a : Fm) → a ≡ closed bs target → Means bs target a
means bs target a e = λ s h. subst (λ b. IsTrueOf s [] b ↔ Entails s (variables bs) (hypotheses bs) target) (sym e) (closed-true s 0 [] bs target refl h)

pub ruleset statement_truth = (closes, means)
