-- Truth of a formula with terms for its free variables, and under more numbers for them.
use Rattle.std.proofs.Common.{◌≡◌, ◌↔◌, ℕ, zero, suc, ◌+◌, ◌<◌, List, [], ◌∷◌, ◌++◌, length, map, true, refl, arith, ap, sym, ◌∙◌}
use Rattle.std.specs.Prelude.{slice_index, slice_index_or}
use Rattle.std.proofs.lemmas.Bool.{and_parts, ltb-true}
use Rattle.std.proofs.lemmas.List.{get_or-map}
use Rattle.std.proofs.Math.ListN.{get_or-append}
use Rattle.pg_logic.specs.Tree.{Tm, free, bound, nought, succ, app, Tms, none, arg, args_of, Fm, kept_bound, substituted_free, substituted_formula, is_tight, are_tight}
use Rattle.pg_logic.specs.Signature.{Signature, fits}
use Rattle.pg_logic.specs.Value.{Functions, value, values}
use Rattle.pg_logic.specs.Truth.{Predicates, IsTrueIn}
use Rattle.pg_logic.proofs.Truths.{Follows, truth-mapped, truth-agrees}

-- a term in which no bound variable is loose has its value whatever these are
mutual
  pub value-tight : (of : Functions) (fr bd bd' : List ℕ) (t : Tm) → is_tight 0 t ≡ true → value of fr bd t ≡ value of fr bd' t
  value-tight of fr bd bd' (free i) h = refl
  value-tight of fr bd bd' (bound i) h = let lt = ltb-true i 0 h in absurd (omega arith)
  value-tight of fr bd bd' nought h = refl
  value-tight of fr bd bd' (succ t) h = ap (λ v. v + 1) (value-tight of fr bd bd' t h)
  value-tight of fr bd bd' (app g ts) h = ap (of g) (values-tight of fr bd bd' ts h)

  values-tight : (of : Functions) (fr bd bd' : List ℕ) (ts : Tms) → are_tight 0 ts ≡ true → values of fr bd ts ≡ values of fr bd' ts
  values-tight of fr bd bd' none h = refl
  values-tight of fr bd bd' (arg t ts) h =
      let p = and_parts _ _ h in
      ap (λ v. v ∷ values of fr bd ts) (value-tight of fr bd bd' t p.0) ∙ ap (λ vs. value of fr bd' t ∷ vs) (values-tight of fr bd bd' ts p.1)

tight_at : (by : List Tm) (i : ℕ) → i < length by → are_tight 0 (args_of by) ≡ true → is_tight 0 (slice_index_or by i nought) ≡ true
tight_at [] i lt h = absurd (omega arith)
tight_at (t ∷ by) zero lt h = (and_parts _ _ h).0
tight_at (t ∷ by) (suc i) lt h = tight_at by i (omega arith) (and_parts _ _ h).1

at_default : (by : List Tm) (i : ℕ) (d e : Tm) → i < length by → slice_index_or by i d ≡ slice_index_or by i e
at_default [] i d e lt = absurd (omega arith)
at_default (t ∷ by) zero d e lt = refl
at_default (t ∷ by) (suc i) d e lt = at_default by i d e (omega arith)

pub truth-substituted : (s : Signature) (of : Functions) (at : Predicates) (fr : List ℕ) (by : List Tm) (a : Fm) → are_tight 0 (args_of by) ≡ true → fits s (length by) 0 a ≡ true →
    IsTrueIn of at fr [] (substituted_formula by a) ↔ IsTrueIn of at (map (value of fr []) by) [] a
truth-substituted s of at fr by a tight h =
    let R : ℕ → ℕ → List ℕ → List ℕ → Type 0 = λ d m bd bd'. bd ≡ bd' in
    let w : Follows of (substituted_free by) kept_bound (length by) fr (map (value of fr []) by) R = record {
      leaves = λ d m bd bd' r. record {
        at_free = λ i lt.
            ap (value of fr bd) (at_default by i (free i) nought lt) ∙ value-tight of fr bd [] (slice_index_or by i nought) (tight_at by i lt tight)
            ∙ sym (get_or-map (value of fr []) by i nought 0 lt);
        at_bound = λ i lt. ap (λ l. slice_index l i) r;
      };
      under = λ d m bd bd' x r. ap (λ l. x ∷ l) r;
    } in
    truth-mapped s of at (substituted_free by) kept_bound (length by) fr (map (value of fr []) by) R w a 0 0 [] [] refl h

pub truth-longer : (s : Signature) (of : Functions) (at : Predicates) (fr more bd : List ℕ) (m : ℕ) (a : Fm) → fits s (length fr) m a ≡ true → IsTrueIn of at (fr ++ more) bd a ↔ IsTrueIn of at fr bd a
truth-longer s of at fr more bd m a h = truth-agrees s of at (length fr) (fr ++ more) fr bd a (λ i lt. get_or-append fr more 0 i lt) m h
