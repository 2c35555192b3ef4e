-- What is carried stands in the context.
use Rattle.std.proofs.Common.{◌≡◌, ℕ, ◌+◌, List, [], ◌∷◌, ◌++◌, length, map, Bool, true, false, ◌&&◌, Some, refl, arith, ap, sym, ◌∙◌, subst}
use Rattle.std.specs.Prelude.{slice_get, if◌then◌else◌}
use Rattle.pg_logic.specs.Tree.{Fm}
use Rattle.pg_logic.specs.Signature.{Signature, fits}
use Rattle.pg_moves.specs.Holding.{Carried}
use Rattle.pg_moves.specs.Proofs.{hyp_formula}
use Rattle.pg_moves.proofs.ByRecursion.{AllFit}
use Rattle.pg_moves.specs.Holding.{holds_var, carried_from}
use Rattle.pg_moves.specs.Goals.{Hyp}
use Rattle.pg_moves.proofs.Moved.{Stand}
use Rattle.pg_moves.proofs.Rules.{at_end, at_more}

append_assoc : {A : Type 0} (xs ys zs : List A) → (xs ++ ys) ++ zs ≡ xs ++ (ys ++ zs)
append_assoc [] ys zs = refl
append_assoc (x ∷ xs) ys zs = ap (λ l. x ∷ l) (append_assoc xs ys zs)

length-push : {A : Type 0} (xs : List A) (x : A) → length (xs ++ x ∷ []) ≡ length xs + 1
length-push [] x = refl
length-push (y ∷ xs) x = omega (arith, length-push xs x)

module _ (s : Signature) (th : List Fm) (Q : ℕ → Type 0) (k n : ℕ) where
  -- with those before
  stand_at : (before : List Fm) (hs : List Hyp) → AllFit s n (map hyp_formula hs) → Stand s th Q n (before ++ map hyp_formula hs) (carried_from k (length before) hs)
  stand_at before [] f = tt
  stand_at before (h ∷ hs) f =
      let e : before ++ (h.formula ∷ map hyp_formula hs) ≡ (before ++ h.formula ∷ []) ++ map hyp_formula hs = sym (append_assoc before (h.formula ∷ []) (map hyp_formula hs)) in
      let ih = subst (λ i. Stand s th Q n ((before ++ h.formula ∷ []) ++ map hyp_formula hs) (carried_from k i hs)) (length-push before h.formula) (stand_at (before ++ h.formula ∷ []) hs f.1) in
      let ih' = subst (λ l. Stand s th Q n l (carried_from k (length before + 1) hs)) (sym e) ih in
      let is : slice_get (before ++ (h.formula ∷ map hyp_formula hs)) (length before) ≡ Some h.formula =
      ap (λ l. slice_get l (length before)) e ∙ at_more (before ++ h.formula ∷ []) (map hyp_formula hs) (length before) h.formula (at_end before h.formula) in
      chosen (h.live && holds_var k h.formula) (before ++ (h.formula ∷ map hyp_formula hs)) h (length before) (carried_from k (length before + 1) hs) is f.0 ih'
    where
      chosen : (b : Bool) (l : List Fm) (x : Hyp) (i : ℕ) (cs : List Carried) → slice_get l i ≡ Some x.formula → fits s n 0 x.formula ≡ true → Stand s th Q n l cs →
          Stand s th Q n l (if b then record { number = i; hyp = x } ∷ cs else cs)
      chosen true l x i cs is f st = (is, f, st)
      chosen false l x i cs is f st = st

  pub stands : (hs : List Hyp) → AllFit s n (map hyp_formula hs) → Stand s th Q n (map hyp_formula hs) (carried_from k 0 hs)
  stands hs f = stand_at [] hs f
