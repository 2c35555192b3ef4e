-- The kernel's rules, as ways to make proofs.
use Rattle.std.proofs.Common.{◌≡◌, ℕ, zero, suc, ◌+◌, ◌<◌, List, [], ◌∷◌, ◌++◌, length, Bool, true, false, ◌&&◌, Option, Some, None, refl, ap, sym, subst}
use Rattle.std.specs.Prelude.{slice_get, option_map}
use Rattle.std.proofs.lemmas.Bool.{and_from, false≢true, lt-ltb, eq-eqb}
use Rattle.pg_logic.specs.Tree.{Tm, free, bound, nought, succ, app, Tms, none, arg, same, same_all, Fm, falsum, eq, pred, and, or, imp, all, ex, same_formula, opened_formula}
use Rattle.pg_logic.specs.Signature.{Signature, fits, fits_term}
use Rattle.pg_logic.specs.Kernel.{Pf, hyp, thm, andi, andl, andr, orl, orr, ore, impi, impe, fale, lem, alli, alle, exi, exe, reflexive, repl, ind, predi, prede, proof_nodes, Fault, when, unfolded, is_unfolded, is_instance, first_fault, unless, fault_or, has_room, any_name, here, fault_of}
use Rattle.pg_moves.specs.Proofs.{Proves, Shows}

append_nil : {A : Type 0} (xs : List A) → xs ++ [] ≡ xs
append_nil [] = refl
append_nil (x ∷ xs) = ap (λ l. x ∷ l) (append_nil xs)

mutual
  pub same-refl : (t : Tm) → same t t ≡ true
  same-refl (free i) = eq-eqb i i refl
  same-refl (bound i) = eq-eqb i i refl
  same-refl nought = refl
  same-refl (succ t) = same-refl t
  same-refl (app f ts) = and_from _ _ (eq-eqb f f refl) (same_all-refl ts)

  pub same_all-refl : (ts : Tms) → same_all ts ts ≡ true
  same_all-refl none = refl
  same_all-refl (arg t ts) = and_from _ _ (same-refl t) (same_all-refl ts)

pub same_formula-refl : (a : Fm) → same_formula a a ≡ true
same_formula-refl falsum = refl
same_formula-refl (eq t u) = and_from _ _ (same-refl t) (same-refl u)
same_formula-refl (pred p ts) = and_from _ _ (eq-eqb p p refl) (same_all-refl ts)
same_formula-refl (and a b) = and_from _ _ (same_formula-refl a) (same_formula-refl b)
same_formula-refl (or a b) = and_from _ _ (same_formula-refl a) (same_formula-refl b)
same_formula-refl (imp a b) = and_from _ _ (same_formula-refl a) (same_formula-refl b)
same_formula-refl (all x a) = same_formula-refl a
same_formula-refl (ex x a) = same_formula-refl a

-- a condition that holds lets the premises be tried
pass : {A : Type 0} (b : Bool) (x : A) (k r : ℕ) (go : A → Option Fault) → b ≡ true → go x ≡ None → fault_or (when b x) k r go ≡ None
pass true x k r go e g = g
pass false x k r go e g = absurd (false≢true e)

both : (x y : Option Fault) → x ≡ None → y ≡ None → first_fault x y ≡ None
both None y e g = g
both (Some f) y e g = absurd (cc)

holds : (b : Bool) (k r : ℕ) → b ≡ true → unless b k r ≡ None
holds true k r e = refl
holds false k r e = absurd (false≢true e)

-- the place just past the list
pub at_end : (h : List Fm) (a : Fm) → slice_get (h ++ a ∷ []) (length h) ≡ Some a
at_end [] a = refl
at_end (b ∷ h) a = at_end h a

-- what is there stays there
pub at_more : (h more : List Fm) (i : ℕ) (a : Fm) → slice_get h i ≡ Some a → slice_get (h ++ more) i ≡ Some a
at_more [] more i a e = absurd (cc)
at_more (b ∷ h) more zero a e = e
at_more (b ∷ h) more (suc i) a e = at_more h more i a e

module _ (s : Signature) (th : List Fm) (Q : ℕ → Type 0) where
  abbrev pub P : ℕ → List Fm → Fm → Pf → Type 0
  P = Proves s th Q

  plain : (n : ℕ) (h : List Fm) (c : Fm) (p : Pf) (k : ℕ) → P n h c p → fault_of s th p n (h ++ []) c k ≡ None
  plain n h c p k x = subst (λ h. fault_of s th p n h c k ≡ None) (sym (append_nil h)) (x.accepted k)

  -- a proof of every formula that is the same but for the names of binders
  abbrev pub Gives : ℕ → List Fm → Fm → Pf → Type 0
  Gives = Shows s th Q

  pub gives : (n : ℕ) (h : List Fm) (a : Fm) (p : Pf) → Gives n h a p → P n h a p
  gives n h a p g = g a (same_formula-refl a)

  pub by_hyp : (n : ℕ) (h : List Fm) (i : ℕ) (a : Fm) → slice_get h i ≡ Some a → Gives n h a (hyp i)
  by_hyp n h i a e c q = record { accepted = λ k. rw e (holds (same_formula a c) k 1 q); named = tt }

  pub by_thm : (n : ℕ) (h : List Fm) (i : ℕ) (a : Fm) → slice_get th i ≡ Some a → Q i → Gives n h a (thm i)
  by_thm n h i a e known c q = record { accepted = λ k. rw e (holds (same_formula a c) k 2 q); named = known }

  pub by_andi : (n : ℕ) (h : List Fm) (a b : Fm) (p q : Pf) → P n h a p → P n h b q → P n h (and a b) (andi p q)
  by_andi n h a b p q x y = record { accepted = λ k. both _ _ (plain n h a p (k + 1) x) (plain n h b q (k + 1 + proof_nodes p) y); named = (x.named, y.named) }

  pub by_andl : (n : ℕ) (h : List Fm) (a b : Fm) (p : Pf) → fits s n 0 b ≡ true → Gives n h (and a b) p → Gives n h a (andl b p)
  by_andl n h a b p f g c e =
      let x = g (and c b) (and_from _ _ e (same_formula-refl b)) in
      record { accepted = λ k. pass (fits s n 0 b) _ k 4 _ f (plain n h (and c b) p (k + 1) x); named = x.named }

  pub by_andr : (n : ℕ) (h : List Fm) (a b : Fm) (p : Pf) → fits s n 0 a ≡ true → Gives n h (and a b) p → Gives n h b (andr a p)
  by_andr n h a b p f g c e =
      let x = g (and a c) (and_from _ _ (same_formula-refl a) e) in
      record { accepted = λ k. pass (fits s n 0 a) _ k 5 _ f (plain n h (and a c) p (k + 1) x); named = x.named }

  pub by_orl : (n : ℕ) (h : List Fm) (a b : Fm) (p : Pf) → P n h a p → P n h (or a b) (orl p)
  by_orl n h a b p x = record { accepted = λ k. plain n h a p (k + 1) x; named = x.named }

  pub by_orr : (n : ℕ) (h : List Fm) (a b : Fm) (p : Pf) → P n h b p → P n h (or a b) (orr p)
  by_orr n h a b p x = record { accepted = λ k. plain n h b p (k + 1) x; named = x.named }

  pub by_ore : (n : ℕ) (h : List Fm) (a b c : Fm) (p q r : Pf) → fits s n 0 a ≡ true → fits s n 0 b ≡ true →
      P n h (or a b) p → P n (h ++ a ∷ []) c q → P n (h ++ b ∷ []) c r → P n h c (ore a b p q r)
  by_ore n h a b c p q r fa fb x y z =
      record {
        accepted = λ k. pass (fits s n 0 a && fits s n 0 b) _ k 8 _ (and_from _ _ fa fb)
            (both _ _ (plain n h (or a b) p (k + 1) x) (both _ _ (y.accepted (k + 1 + proof_nodes p)) (z.accepted (k + 1 + proof_nodes p + proof_nodes q))));
        named = (x.named, y.named, z.named);
      }

  pub by_impi : (n : ℕ) (h : List Fm) (a b : Fm) (p : Pf) → P n (h ++ a ∷ []) b p → P n h (imp a b) (impi p)
  by_impi n h a b p x = record { accepted = λ k. x.accepted (k + 1); named = x.named }

  pub by_impe : (n : ℕ) (h : List Fm) (a c : Fm) (p q : Pf) → fits s n 0 a ≡ true → P n h (imp a c) p → P n h a q → P n h c (impe a p q)
  by_impe n h a c p q f x y =
      record {
        accepted = λ k. pass (fits s n 0 a) _ k 10 _ f (both _ _ (plain n h (imp a c) p (k + 1) x) (plain n h a q (k + 1 + proof_nodes p) y));
        named = (x.named, y.named);
      }

  pub by_fale : (n : ℕ) (h : List Fm) (c : Fm) (p : Pf) → P n h falsum p → P n h c (fale p)
  by_fale n h c p x = record { accepted = λ k. x.accepted (k + 1); named = x.named }

  pub by_lem : (n : ℕ) (h : List Fm) (a : Fm) → P n h (or a (imp a falsum)) lem
  by_lem n h a = record { accepted = λ k. holds (same_formula a a) k 12 (same_formula-refl a); named = tt }

  pub by_alli : (n : ℕ) (h : List Fm) (z : List ℕ) (a : Fm) (p : Pf) → n < 4294967295 → P (n + 1) h (opened_formula (free n) a) p → P n h (all z a) (alli p)
  by_alli n h z a p room x =
      record { accepted = λ k. pass (has_room n) _ k 13 _ (lt-ltb n 4294967295 room) (plain (n + 1) h (opened_formula (free n) a) p (k + 1) x); named = x.named }

  pub by_alle : (n : ℕ) (h : List Fm) (z : List ℕ) (a : Fm) (t : Tm) (p : Pf) → fits s n 1 a ≡ true → fits_term s.functions n 0 t ≡ true →
      Gives n h (all z a) p → Gives n h (opened_formula t a) (alle a t p)
  by_alle n h z a t p fa ft g c e =
      let x = g (all any_name a) (same_formula-refl a) in
      record {
        accepted = λ k. pass (fits s n 1 a && fits_term s.functions n 0 t && same_formula (opened_formula t a) c) _ k 14 _ (and_from _ _ (and_from _ _ fa ft) e)
            (plain n h (all any_name a) p (k + 1) x);
        named = x.named;
      }

  pub by_exi : (n : ℕ) (h : List Fm) (z : List ℕ) (a : Fm) (t : Tm) (p : Pf) → fits_term s.functions n 0 t ≡ true → P n h (opened_formula t a) p → P n h (ex z a) (exi t p)
  by_exi n h z a t p f x =
      record { accepted = λ k. pass (fits_term s.functions n 0 t) _ k 15 _ f (plain n h (opened_formula t a) p (k + 1) x); named = x.named }

  pub by_exe : (n : ℕ) (h : List Fm) (z : List ℕ) (a c : Fm) (p q : Pf) → n < 4294967295 → fits s n 1 a ≡ true →
      Gives n h (ex z a) p → P (n + 1) (h ++ opened_formula (free n) a ∷ []) c q → P n h c (exe a p q)
  by_exe n h z a c p q room f g y =
      let x = g (ex any_name a) (same_formula-refl a) in
      record {
        accepted = λ k. pass (has_room n && fits s n 1 a) _ k 16 _ (and_from _ _ (lt-ltb n 4294967295 room) f)
            (both _ _ (plain n h (ex any_name a) p (k + 1) x) (y.accepted (k + 1 + proof_nodes p)));
        named = (x.named, y.named);
      }

  pub by_refl : (n : ℕ) (h : List Fm) (t : Tm) → P n h (eq t t) reflexive
  by_refl n h t = record { accepted = λ k. holds (same t t) k 17 (same-refl t); named = tt }

  pub by_repl : (n : ℕ) (h : List Fm) (a : Fm) (t u : Tm) (p q : Pf) → fits s n 1 a ≡ true → fits_term s.functions n 0 t ≡ true → fits_term s.functions n 0 u ≡ true →
      P n h (eq t u) p → P n h (opened_formula t a) q → Gives n h (opened_formula u a) (repl a t u p q)
  by_repl n h a t u p q fa ft fu x y c e =
      record {
        accepted = λ k. pass (fits_term s.functions n 0 t && is_instance s n a u c) _ k 18 _
            (and_from _ _ ft (and_from _ _ (and_from _ _ fa fu) e))
            (both _ _ (plain n h (eq t u) p (k + 1) x) (plain n h (opened_formula t a) q (k + 1 + proof_nodes p) y));
        named = (x.named, y.named);
      }

  pub by_ind : (n : ℕ) (h : List Fm) (a : Fm) (t : Tm) (p q : Pf) → n < 4294967295 → fits s n 1 a ≡ true → fits_term s.functions n 0 t ≡ true →
      P n h (opened_formula nought a) p → P (n + 1) (h ++ opened_formula (free n) a ∷ []) (opened_formula (succ (free n)) a) q → Gives n h (opened_formula t a) (ind a t p q)
  by_ind n h a t p q room fa ft x y c e =
      record {
        accepted = λ k. pass (has_room n && is_instance s n a t c) _ k 19 _
            (and_from _ _ (lt-ltb n 4294967295 room) (and_from _ _ (and_from _ _ fa ft) e))
            (both _ _ (plain n h (opened_formula nought a) p (k + 1) x) (y.accepted (k + 1 + proof_nodes p)));
        named = (x.named, y.named);
      }

  unfolding_found : (n : ℕ) (h : List Fm) (p : Pf) (k : ℕ) (o : Option Fm) (b : Fm) → o ≡ Some b → P n h b p →
      fault_or (option_map (here n) o) k 20 (λ x. fault_of s th p x.vars (h ++ x.extra) x.goal (k + 1)) ≡ None
  unfolding_found n h p k None b e x = absurd (cc)
  unfolding_found n h p k (Some a) b e x = let same : b ≡ a = cc in plain n h a p (k + 1) (subst (λ a. P n h a p) same x)

  pub by_predi : (n : ℕ) (h : List Fm) (a b : Fm) (p : Pf) → unfolded s a ≡ Some b → P n h b p → P n h a (predi p)
  by_predi n h a b p e x = record { accepted = λ k. unfolding_found n h p k (unfolded s a) b e x; named = x.named }

  same_unfolded : (o : Option Fm) (b c : Fm) → o ≡ Some b → same_formula b c ≡ true → is_unfolded o c ≡ true
  same_unfolded None b c e q = absurd (cc)
  same_unfolded (Some a) b c e q = let same : b ≡ a = cc in subst (λ a. same_formula a c ≡ true) same q

  pub by_prede : (n : ℕ) (h : List Fm) (a b : Fm) (p : Pf) → fits s n 0 a ≡ true → unfolded s a ≡ Some b → Gives n h a p → Gives n h b (prede a p)
  by_prede n h a b p f e g c q =
      let x = gives n h a p g in
      record {
        accepted = λ k. pass (fits s n 0 a && is_unfolded (unfolded s a) c) _ k 21 _ (and_from _ _ f (same_unfolded (unfolded s a) b c e q)) (plain n h a p (k + 1) x);
        named = x.named;
      }
