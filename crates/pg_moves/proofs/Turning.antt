-- What frames do.
use Rattle.std.proofs.Common.{◌≡◌, ℕ, ◌+◌, ◌<◌, List, [], ◌∷◌, ◌++◌, length, true, Some, refl, ap, sym, subst}
use Rattle.std.specs.Prelude.{slice_get}
use Rattle.pg_logic.specs.Tree.{Tm, free, Fm, falsum, eq, and, or, imp, all, ex, same_formula, opened_formula}
use Rattle.pg_logic.specs.Signature.{Signature, fits, fits_term}
use Rattle.pg_logic.specs.Kernel.{Pf, hyp, andi, orl, orr, ore, impi, impe, fale, alli, exi, exe, repl, predi, unfolded}
use Rattle.pg_moves.specs.Frames.{Frame, whole, under_predi, under_alli, under_impi, under_orl, under_orr, under_fale, under_exi, pair, split, open_up, cut, change, lemma, rewrite, give, filled, built, Turns}
use Rattle.pg_moves.specs.Proofs.{Sequent, Proves, AllProve}
use Rattle.pg_moves.proofs.Rules.{Gives, by_hyp, by_andi, by_orl, by_orr, by_ore, by_impi, by_impe, by_fale, by_alli, by_exi, by_exe, by_repl, by_predi, at_end, same_formula-refl}

abbrev pub at : ℕ → List Fm → Fm → Sequent
at n h c = record { vars = n; hyps = h; target = c }

pub built-then : (fs gs : List Frame) (ps : List Pf) → built (fs ++ gs) ps ≡ built fs (built gs ps)
built-then [] gs ps = refl
built-then (f ∷ fs) gs ps = ap (filled f) (built-then fs gs ps)

module _ (s : Signature) (th : List Fm) (Q : ℕ → Type 0) where
  abbrev T : List Frame → List Sequent → List Sequent → Type 0
  T = Turns s th Q

  abbrev Each : List Sequent → List Pf → Type 0
  Each = AllProve s th Q

  pub turns-then : (fs gs : List Frame) (x y z : List Sequent) → T fs x y → T gs y z → T (fs ++ gs) x z
  turns-then fs gs x y z f g ps a = subst (Each x) (sym (built-then fs gs ps)) (f (built gs ps) (g ps a))

  -- one hole: a way to make the old goal's proof from the new one's
  pub one : (f : Frame) (g g' : Sequent) (rest : List Sequent) (make : Pf → Pf) → ((p : Pf) (ps : List Pf) → filled f (p ∷ ps) ≡ make p ∷ ps) →
      ((p : Pf) → Proves s th Q g'.vars g'.hyps g'.target p → Proves s th Q g.vars g.hyps g.target (make p)) → T (f ∷ []) (g ∷ rest) (g' ∷ rest)
  one f g g' rest make is go [] a = absurd a
  one f g g' rest make is go (p ∷ ps) a = subst (Each (g ∷ rest)) (sym (is p ps)) (go p a.0, a.1)

  pub two : (f : Frame) (g x y : Sequent) (rest : List Sequent) (make : Pf → Pf → Pf) → ((p q : Pf) (ps : List Pf) → filled f (p ∷ q ∷ ps) ≡ make p q ∷ ps) →
      ((p q : Pf) → Proves s th Q x.vars x.hyps x.target p → Proves s th Q y.vars y.hyps y.target q → Proves s th Q g.vars g.hyps g.target (make p q)) →
      T (f ∷ []) (g ∷ rest) (x ∷ y ∷ rest)
  two f g x y rest make is go [] a = absurd a
  two f g x y rest make is go (p ∷ []) a = absurd a.1
  two f g x y rest make is go (p ∷ q ∷ ps) a = subst (Each (g ∷ rest)) (sym (is p q ps)) (go p q a.0 a.1.0, a.1.1)

  module _ (n : ℕ) (h : List Fm) (rest : List Sequent) where
    abbrev P : Fm → Pf → Type 0
    P = Proves s th Q n h

    -- rfl, exact, cases of False
    pub turn-whole : (c : Fm) (d : Pf) → P c d → T (whole d ∷ []) (at n h c ∷ rest) rest
    turn-whole c d x ps a = (x, a)

    pub turn-predi : (c c' : Fm) → unfolded s c ≡ Some c' → T (under_predi ∷ []) (at n h c ∷ rest) (at n h c' ∷ rest)
    turn-predi c c' e = one (under_predi) _ _ _ predi (λ p ps. refl) (λ p x. by_predi s th Q n h c c' p e x)

    pub turn-alli : (z : List ℕ) (a : Fm) → n < 4294967295 → T (under_alli ∷ []) (at n h (all z a) ∷ rest) (at (n + 1) h (opened_formula (free n) a) ∷ rest)
    turn-alli z a room = one (under_alli) _ _ _ alli (λ p ps. refl) (λ p x. by_alli s th Q n h z a p room x)

    pub turn-impi : (a b : Fm) → T (under_impi ∷ []) (at n h (imp a b) ∷ rest) (at n (h ++ a ∷ []) b ∷ rest)
    turn-impi a b = one (under_impi) _ _ _ impi (λ p ps. refl) (λ p x. by_impi s th Q n h a b p x)

    pub turn-orl : (a b : Fm) → T (under_orl ∷ []) (at n h (or a b) ∷ rest) (at n h a ∷ rest)
    turn-orl a b = one (under_orl) _ _ _ orl (λ p ps. refl) (λ p x. by_orl s th Q n h a b p x)

    pub turn-orr : (a b : Fm) → T (under_orr ∷ []) (at n h (or a b) ∷ rest) (at n h b ∷ rest)
    turn-orr a b = one (under_orr) _ _ _ orr (λ p ps. refl) (λ p x. by_orr s th Q n h a b p x)

    pub turn-fale : (c : Fm) → T (under_fale ∷ []) (at n h c ∷ rest) (at n h falsum ∷ rest)
    turn-fale c = one (under_fale) _ _ _ fale (λ p ps. refl) (λ p x. by_fale s th Q n h c p x)

    pub turn-exi : (z : List ℕ) (a : Fm) (t : Tm) → fits_term s.functions n 0 t ≡ true → T (under_exi t ∷ []) (at n h (ex z a) ∷ rest) (at n h (opened_formula t a) ∷ rest)
    turn-exi z a t f = one (under_exi t) _ _ _ (exi t) (λ p ps. refl) (λ p x. by_exi s th Q n h z a t p f x)

    pub turn-pair : (a b : Fm) → T (pair ∷ []) (at n h (and a b) ∷ rest) (at n h a ∷ at n h b ∷ rest)
    turn-pair a b = two (pair) _ _ _ _ andi (λ p q ps. refl) (λ p q x y. by_andi s th Q n h a b p q x y)

    pub turn-split : (a b c : Fm) (d : Pf) → fits s n 0 a ≡ true → fits s n 0 b ≡ true → P (or a b) d →
        T (split a b d ∷ []) (at n h c ∷ rest) (at n (h ++ a ∷ []) c ∷ at n (h ++ b ∷ []) c ∷ rest)
    turn-split a b c d fa fb x = two (split a b d) _ _ _ _ (ore a b d) (λ p q ps. refl) (λ p q y z. by_ore s th Q n h a b c d p q fa fb x y z)

    pub turn-open : (z : List ℕ) (a c : Fm) (d : Pf) → n < 4294967295 → fits s n 1 a ≡ true → Gives s th Q n h (ex z a) d →
        T (open_up a d ∷ []) (at n h c ∷ rest) (at (n + 1) (h ++ opened_formula (free n) a ∷ []) c ∷ rest)
    turn-open z a c d room f g = one (open_up a d) _ _ _ (exe a d) (λ p ps. refl) (λ p x. by_exe s th Q n h z a c d p room f g x)

    pub turn-cut : (a c : Fm) (d : Pf) → fits s n 0 a ≡ true → P a d → T (cut a d ∷ []) (at n h c ∷ rest) (at n (h ++ a ∷ []) c ∷ rest)
    turn-cut a c d f x = one (cut a d) _ _ _ (λ p. impe a (impi p) d) (λ p ps. refl) (λ p y. by_impe s th Q n h a c (impi p) d f (by_impi s th Q n h a c p y) x)

    pub turn-change : (a c : Fm) (d : Pf) → fits s n 0 a ≡ true → Proves s th Q n (h ++ a ∷ []) c d → T (change a d ∷ []) (at n h c ∷ rest) (at n h a ∷ rest)
    turn-change a c d f x = one (change a d) _ _ _ (impe a (impi d)) (λ p ps. refl) (λ p y. by_impe s th Q n h a c (impi d) p f (by_impi s th Q n h a c d x) y)

    pub turn-lemma : (a c : Fm) → fits s n 0 a ≡ true → T (lemma a (length h) ∷ []) (at n h c ∷ rest) (at n h a ∷ at n (h ++ a ∷ []) c ∷ rest)
    turn-lemma a c f =
        two (lemma a (length h)) _ _ _ _ (λ p q. ore a falsum (orl p) q (fale (hyp (length h)))) (λ p q ps. refl)
        (λ p q x y. by_ore s th Q n h a falsum c (orl p) q (fale (hyp (length h))) f refl (by_orl s th Q n h a falsum p x) y
        (by_fale s th Q n (h ++ falsum ∷ []) c (hyp (length h)) (by_hyp s th Q n (h ++ falsum ∷ []) (length h) falsum (at_end h falsum) falsum refl)))

    pub turn-rewrite : (a : Fm) (t u : Tm) (d : Pf) (c : Fm) → fits s n 1 a ≡ true → fits_term s.functions n 0 t ≡ true → fits_term s.functions n 0 u ≡ true →
        P (eq t u) d → opened_formula u a ≡ c → T (rewrite a t u d ∷ []) (at n h c ∷ rest) (at n h (opened_formula t a) ∷ rest)
    turn-rewrite a t u d c fa ft fu x e =
        one (rewrite a t u d) _ _ _ (repl a t u d) (λ p ps. refl) (λ p y. by_repl s th Q n h a t u d p fa ft fu x y c (subst (λ c. same_formula (opened_formula u a) c ≡ true) e (same_formula-refl (opened_formula u a))))

    pub turn-give : (a c : Fm) (i : ℕ) → fits s n 0 a ≡ true → slice_get h i ≡ Some a → T (give a i ∷ []) (at n h c ∷ rest) (at n h (imp a c) ∷ rest)
    turn-give a c i f e = one (give a i) _ _ _ (λ p. impe a p (hyp i)) (λ p ps. refl) (λ p x. by_impe s th Q n h a c p (hyp i) f x (by_hyp s th Q n h i a e a (same_formula-refl a)))
