-- New goals fit.
use Rattle.std.proofs.Common.{◌≡◌, ℕ, ◌+◌, ◌≤◌, List, [], ◌∷◌, ◌++◌, true, refl, arith, subst}
use Rattle.std.specs.Prelude.{map}
use Rattle.std.proofs.lemmas.Bool.{and_from, lt-ltb}
use Rattle.pg_logic.specs.Tree.{Tm, free, nought, succ, Fm, closed_over_formula}
use Rattle.pg_logic.specs.Signature.{Signature, fits, fits_term}
use Rattle.pg_logic.proofs.Fitting.{fits-le, fits-opened}
use Rattle.pg_moves.proofs.ByRecursion.{AllFit, Fits}
use Rattle.pg_moves.specs.Holding.{put_for, imps}
use Rattle.pg_moves.specs.Replaced.{replaced_formula, abstracted_formula}
use Rattle.pg_moves.proofs.Maps.{fits-closed}
use Rattle.pg_moves.proofs.Replaced.{put_back_formula, fits-abstracted}
use Rattle.pg_moves.proofs.Turning.{at}

module _ (s : Signature) where
  pub fits-put : (n n' k : ℕ) (t : Tm) (a : Fm) → n ≤ n' → fits_term s.functions n' 0 t ≡ true → fits s n 0 a ≡ true → fits s n' 0 (put_for k t a) ≡ true
  fits-put n n' k t a le ft fa = fits-opened s n' t (closed_over_formula k a) ft (fits-closed s n n' k a (λ i l ne. omega arith) fa)

  pub fits-replaced : (n : ℕ) (old new : Tm) (a : Fm) → fits_term s.functions n 0 new ≡ true → fits s n 0 a ≡ true → fits s n 0 (replaced_formula old new a) ≡ true
  fits-replaced n old new a fn fa = subst (λ a. fits s n 0 a ≡ true) (put_back_formula s n old new a fa) (fits-opened s n new (abstracted_formula old 0 a) fn (fits-abstracted s n old a 0 fa))

  pub all_fit-append : (n : ℕ) (h more : List Fm) → AllFit s n h → AllFit s n more → AllFit s n (h ++ more)
  all_fit-append n [] more f g = g
  all_fit-append n (a ∷ h) more f g = (f.0, all_fit-append n h more f.1 g)

  pub all_fit-more : (n n' : ℕ) (h : List Fm) → n ≤ n' → AllFit s n h → AllFit s n' h
  all_fit-more n n' [] le f = tt
  all_fit-more n n' (a ∷ h) le f = (fits-le s n n' 0 0 a le (omega arith) f.0, all_fit-more n n' h le f.1)

  pub all_fit-put : (n n' k : ℕ) (t : Tm) (h : List Fm) → n ≤ n' → fits_term s.functions n' 0 t ≡ true → AllFit s n h → AllFit s n' (map (put_for k t) h)
  all_fit-put n n' k t [] le ft f = tt
  all_fit-put n n' k t (a ∷ h) le ft f = (fits-put n n' k t a le ft f.0, all_fit-put n n' k t h le ft f.1)

  fits-imps : (n : ℕ) (h : List Fm) (c : Fm) → AllFit s n h → fits s n 0 c ≡ true → fits s n 0 (imps h c) ≡ true
  fits-imps n [] c f g = g
  fits-imps n (a ∷ h) c f g = and_from _ _ f.0 (fits-imps n h c f.1 g)

  -- the two goals of induction on v
  pub fits-induction : (n : ℕ) (h : List Fm) (v : ℕ) (hs : List Fm) (c : Fm) → AllFit s n h → AllFit s n hs → fits s n 0 c ≡ true →
      Fits s (at n (h ++ map (put_for v nought) hs) (put_for v nought c)) ×
      Fits s (at (n + 1) ((h ++ put_for v (free n) (imps hs c) ∷ []) ++ map (put_for v (succ (free n))) hs) (put_for v (succ (free n)) c))
  fits-induction n h v hs c f g fc =
      let le : n ≤ n + 1 = omega arith in
      let new : fits_term s.functions (n + 1) 0 (free n) ≡ true = lt-ltb n (n + 1) (omega arith) in
      let hd = fits-put n (n + 1) v (free n) (imps hs c) le new (fits-imps n hs c g fc) in (
        (all_fit-append n h _ f (all_fit-put n n v nought hs (omega arith) refl g), fits-put n n v nought c (omega arith) refl fc),
        (
          all_fit-append (n + 1) _ _ (all_fit-append (n + 1) h _ (all_fit-more n (n + 1) h le f) (hd, tt)) (all_fit-put n (n + 1) v (succ (free n)) hs le new g),
          fits-put n (n + 1) v (succ (free n)) c le new fc,
        ),
      )
