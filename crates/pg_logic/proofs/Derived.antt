-- What the kernel accepts is derivable.
use Rattle.std.proofs.Common.{◌≡◌, ℕ, ◌+◌, List, [], ◌∷◌, ◌++◌, Bool, true, false, ◌&&◌, Option, Some, None, refl, ap, subst}
use Rattle.std.specs.Prelude.{slice_get, option_map}
use Rattle.std.proofs.lemmas.Bool.{and_parts, and_from, false≢true, eq-eqb}
use Rattle.pg_logic.specs.Tree.{Tm, free, bound, nought, succ, app, Tms, none, arg, same, same_all, Fm, falsum, eq, pred, and, or, imp, all, ex, same_formula, opened_formula}
use Rattle.pg_logic.specs.Signature.{Signature, fits, fits_term}
use Rattle.pg_logic.specs.Kernel.{Pf, hyp, thm, andi, andl, andr, orl, orr, ore, impi, impe, fale, lem, alli, alle, exi, exe, reflexive, repl, ind, predi, prede, Fault, Premise, here, assuming, when, is_at, is_middle, is_reflexive, is_instance, unfolded, is_unfolded, first_fault, unless, fault_or, has_room, any_name, andi_line, andl_line, andr_line, orl_line, orr_line, ore_line, impi_line, impe_line, alli_line, alle_line, exi_line, exe_line, repl_line, ind_line, predi_line, prede_line, proof_nodes, fault_of}
use Rattle.pg_logic.specs.Derivation.{Derives, hypothesis, by_axiom, renaming, and_intro, and_elim_left, and_elim_right, or_intro_left, or_intro_right, or_elim, imp_intro, imp_elim, falsum_elim, excluded_middle, all_intro, all_elim, ex_intro, ex_elim, eq_intro, eq_elim, by_induction, pred_intro, pred_elim}
use Rattle.pg_logic.proofs.Stable.{same-true}

-- a fact of each theorem number that a proof names
abbrev pub EachNamed : (ℕ → Type 0) → Pf → Type 0
EachNamed Q (hyp i) = Unit {0}
EachNamed Q (thm i) = Q i
EachNamed Q (andi p q) = EachNamed Q p × EachNamed Q q
EachNamed Q (andl b p) = EachNamed Q p
EachNamed Q (andr a p) = EachNamed Q p
EachNamed Q (orl p) = EachNamed Q p
EachNamed Q (orr p) = EachNamed Q p
EachNamed Q (ore a b p q r) = EachNamed Q p × EachNamed Q q × EachNamed Q r
EachNamed Q (impi p) = EachNamed Q p
EachNamed Q (impe a p q) = EachNamed Q p × EachNamed Q q
EachNamed Q (fale p) = EachNamed Q p
EachNamed Q lem = Unit {0}
EachNamed Q (alli p) = EachNamed Q p
EachNamed Q (alle a t p) = EachNamed Q p
EachNamed Q (exi t p) = EachNamed Q p
EachNamed Q (exe a p q) = EachNamed Q p × EachNamed Q q
EachNamed Q reflexive = Unit {0}
EachNamed Q (repl a s t p q) = EachNamed Q p × EachNamed Q q
EachNamed Q (ind a t p q) = EachNamed Q p × EachNamed Q q
EachNamed Q (predi p) = EachNamed Q p
EachNamed Q (prede a p) = EachNamed Q p

unless_none : (b : Bool) (k r : ℕ) → unless b k r ≡ None → b ≡ true
unless_none true k r e = refl
unless_none false k r e = absurd (cc)

when_some : {A : Type 0} (b : Bool) (x y : A) → when b x ≡ Some y → (b ≡ true) × (x ≡ y)
when_some true x y e = (refl, cc)
when_some false x y e = absurd (cc)

-- the premises that there are
found : {A : Type 0} (o : Option A) (k r : ℕ) (go : A → Option Fault) → fault_or o k r go ≡ None → (x : A) × (o ≡ Some x) × (go x ≡ None)
found None k r go e = absurd (cc)
found (Some x) k r go e = (x, refl, e)

append_nil : {A : Type 0} (xs : List A) → xs ++ [] ≡ xs
append_nil [] = refl
append_nil (x ∷ xs) = ap (λ l. x ∷ l) (append_nil xs)

first_none : (x y : Option Fault) → first_fault x y ≡ None → (x ≡ None) × (y ≡ None)
first_none (Some f) y e = absurd (cc)
first_none None y e = (refl, e)

mutual
  same-refl : (t : Tm) → same t t ≡ true
  same-refl (free i) = eq-eqb i i refl
  same-refl (bound i) = eq-eqb i i refl
  same-refl nought = refl
  same-refl (succ t) = same-refl t
  same-refl (app f ts) = and_from _ _ (eq-eqb f f refl) (same_all-refl ts)

  same_all-refl : (ts : Tms) → same_all ts ts ≡ true
  same_all-refl none = refl
  same_all-refl (arg t ts) = and_from _ _ (same-refl t) (same_all-refl ts)

same_formula-refl : (a : Fm) → same_formula a a ≡ true
same_formula-refl falsum = refl
same_formula-refl (eq s t) = and_from _ _ (same-refl s) (same-refl t)
same_formula-refl (pred p ts) = and_from _ _ (eq-eqb p p refl) (same_all-refl ts)
same_formula-refl (and a b) = and_from _ _ (same_formula-refl a) (same_formula-refl b)
same_formula-refl (or a b) = and_from _ _ (same_formula-refl a) (same_formula-refl b)
same_formula-refl (imp a b) = and_from _ _ (same_formula-refl a) (same_formula-refl b)
same_formula-refl (all x a) = same_formula-refl a
same_formula-refl (ex x a) = same_formula-refl a

module _ (s : Signature) (Ax : Fm → Type 0) where
  from_middle : (n : ℕ) (h : List Fm) (c : Fm) → is_middle c ≡ true → Derives s Ax n h c
  from_middle n h (or a (imp b falsum)) e =
      let alike : same_formula (or a (imp a falsum)) (or a (imp b falsum)) ≡ true = and_from _ _ (same_formula-refl a) (and_from _ _ e refl) in
      renaming n h (or a (imp a falsum)) (or a (imp b falsum)) alike (excluded_middle n h a)
  from_middle n h _ e = absurd (false≢true e)

  from_reflexive : (n : ℕ) (h : List Fm) (c : Fm) → is_reflexive c ≡ true → Derives s Ax n h c
  from_reflexive n h (eq t u) e = subst (λ u. Derives s Ax n h (eq t u)) (same-true t u e) (eq_intro n h t)
  from_reflexive n h _ e = absurd (false≢true e)

  from_hypothesis : (n : ℕ) (h : List Fm) (i : ℕ) (c : Fm) → is_at (slice_get h i) c ≡ true → Derives s Ax n h c
  from_hypothesis n h i c e = go (slice_get h i) refl e
    where
      go : (o : Option Fm) → slice_get h i ≡ o → is_at o c ≡ true → Derives s Ax n h c
      go None is e = absurd (false≢true e)
      go (Some a) is e = renaming n h a c e (hypothesis n h i a is)

  from_theorem : (th : List Fm) (n : ℕ) (h : List Fm) (i : ℕ) (c : Fm) → ((a : Fm) → slice_get th i ≡ Some a → Ax a) → is_at (slice_get th i) c ≡ true → Derives s Ax n h c
  from_theorem th n h i c known e = go (slice_get th i) refl e
    where
      go : (o : Option Fm) → slice_get th i ≡ o → is_at o c ≡ true → Derives s Ax n h c
      go None is e = absurd (false≢true e)
      go (Some a) is e = renaming n h a c e (by_axiom n h a (known a is))

  module _ (n : ℕ) (h : List Fm) where
    -- a premise is derivable
    abbrev Holds : Premise → Type 0
    Holds x = Derives s Ax x.vars (h ++ x.extra) x.goal

    holds_here : (m : ℕ) (c : Fm) → Holds (here m c) → Derives s Ax m h c
    holds_here m c e = subst (λ h. Derives s Ax m h c) (append_nil h) e

    -- a rule with one premise, two, or three
    abbrev One : Premise → Fm → Type 0
    One x c = Holds x → Derives s Ax n h c

    abbrev Two : Premise × Premise → Fm → Type 0
    Two x c = Holds x.0 → Holds x.1 → Derives s Ax n h c

    abbrev Three : Premise × Premise × Premise → Fm → Type 0
    Three x c = Holds x.0 → Holds x.1 → Holds x.2 → Derives s Ax n h c

    from_andi : (c : Fm) (x : Premise × Premise) → andi_line n c ≡ Some x → Two x c
    from_andi (and a b) x e =
        let is : (here n a, here n b) ≡ x = cc in
        subst (λ x. Two x (and a b)) is (λ u v. and_intro n h a b (holds_here n a u) (holds_here n b v))
    from_andi _ x e = absurd (cc)

    from_andl : (b c : Fm) (x : Premise) → andl_line s n b c ≡ Some x → One x c
    from_andl b c x e =
        let w = when_some (fits s n 0 b) (here n (and c b)) x e in
        subst (λ x. One x c) w.1 (λ u. and_elim_left n h c b w.0 (holds_here n (and c b) u))

    from_andr : (a c : Fm) (x : Premise) → andr_line s n a c ≡ Some x → One x c
    from_andr a c x e =
        let w = when_some (fits s n 0 a) (here n (and a c)) x e in
        subst (λ x. One x c) w.1 (λ u. and_elim_right n h a c w.0 (holds_here n (and a c) u))

    from_orl : (c : Fm) (x : Premise) → orl_line n c ≡ Some x → One x c
    from_orl (or a b) x e =
        let is : here n a ≡ x = cc in
        subst (λ x. One x (or a b)) is (λ u. or_intro_left n h a b (holds_here n a u))
    from_orl _ x e = absurd (cc)

    from_orr : (c : Fm) (x : Premise) → orr_line n c ≡ Some x → One x c
    from_orr (or a b) x e =
        let is : here n b ≡ x = cc in
        subst (λ x. One x (or a b)) is (λ u. or_intro_right n h a b (holds_here n b u))
    from_orr _ x e = absurd (cc)

    from_ore : (a b c : Fm) (x : Premise × Premise × Premise) → ore_line s n a b c ≡ Some x → Three x c
    from_ore a b c x e =
        let w = when_some (fits s n 0 a && fits s n 0 b) (here n (or a b), assuming n a c, assuming n b c) x e in
        let g = and_parts _ _ w.0 in
        subst (λ x. Three x c) w.1 (λ u v y. or_elim n h a b c g.0 g.1 (holds_here n (or a b) u) v y)

    from_impi : (c : Fm) (x : Premise) → impi_line n c ≡ Some x → One x c
    from_impi (imp a b) x e =
        let is : assuming n a b ≡ x = cc in
        subst (λ x. One x (imp a b)) is (λ u. imp_intro n h a b u)
    from_impi _ x e = absurd (cc)

    from_impe : (a c : Fm) (x : Premise × Premise) → impe_line s n a c ≡ Some x → Two x c
    from_impe a c x e =
        let w = when_some (fits s n 0 a) (here n (imp a c), here n a) x e in
        subst (λ x. Two x c) w.1 (λ u v. imp_elim n h a c w.0 (holds_here n (imp a c) u) (holds_here n a v))

    from_alli : (c : Fm) (x : Premise) → alli_line n c ≡ Some x → One x c
    from_alli (all z a) x e =
        let w = when_some (has_room n) (here (n + 1) (opened_formula (free n) a)) x e in
        subst (λ x. One x (all z a)) w.1 (λ u. all_intro n h z a (holds_here (n + 1) (opened_formula (free n) a) u))
    from_alli _ x e = absurd (cc)

    from_alle : (a : Fm) (t : Tm) (c : Fm) (x : Premise) → alle_line s n a t c ≡ Some x → One x c
    from_alle a t c x e =
        let w = when_some (is_instance s n a t c) (here n (all any_name a)) x e in
        let y = and_parts _ _ w.0 in
        let z = and_parts _ _ y.0 in
        subst (λ x. One x c) w.1 (λ u. renaming n h (opened_formula t a) c y.1 (all_elim n h any_name a t z.0 z.1 (holds_here n (all any_name a) u)))

    from_exi : (t : Tm) (c : Fm) (x : Premise) → exi_line s n t c ≡ Some x → One x c
    from_exi t (ex z a) x e =
        let w = when_some (fits_term s.functions n 0 t) (here n (opened_formula t a)) x e in
        subst (λ x. One x (ex z a)) w.1 (λ u. ex_intro n h z a t w.0 (holds_here n (opened_formula t a) u))
    from_exi t _ x e = absurd (cc)

    from_exe : (a c : Fm) (x : Premise × Premise) → exe_line s n a c ≡ Some x → Two x c
    from_exe a c x e =
        let w = when_some (has_room n && fits s n 1 a) (here n (ex any_name a), assuming (n + 1) (opened_formula (free n) a) c) x e in
        subst (λ x. Two x c) w.1 (λ u v. ex_elim n h any_name a c (and_parts _ _ w.0).1 (holds_here n (ex any_name a) u) v)

    from_repl : (a : Fm) (t u : Tm) (c : Fm) (x : Premise × Premise) → repl_line s n a t u c ≡ Some x → Two x c
    from_repl a t u c x e =
        let w = when_some (fits_term s.functions n 0 t && is_instance s n a u c) (here n (eq t u), here n (opened_formula t a)) x e in
        let g = and_parts _ _ w.0 in
        let y = and_parts _ _ g.1 in
        let z = and_parts _ _ y.0 in
        subst (λ x. Two x c) w.1 (λ p q. renaming n h (opened_formula u a) c y.1 (eq_elim n h a t u z.0 g.0 z.1 (holds_here n (eq t u) p) (holds_here n (opened_formula t a) q)))

    from_ind : (a : Fm) (t : Tm) (c : Fm) (x : Premise × Premise) → ind_line s n a t c ≡ Some x → Two x c
    from_ind a t c x e =
        let w = when_some (has_room n && is_instance s n a t c) (here n (opened_formula nought a), assuming (n + 1) (opened_formula (free n) a) (opened_formula (succ (free n)) a)) x e in
        let g = and_parts _ _ w.0 in
        let y = and_parts _ _ g.1 in
        let z = and_parts _ _ y.0 in
        subst (λ x. Two x c) w.1 (λ p q. renaming n h (opened_formula t a) c y.1 (by_induction n h a t z.0 z.1 (holds_here n (opened_formula nought a) p) q))

    from_predi : (c : Fm) (x : Premise) → predi_line s n c ≡ Some x → One x c
    from_predi c x e = go (unfolded s c) refl e
      where
        go : (o : Option Fm) → unfolded s c ≡ o → option_map (here n) o ≡ Some x → One x c
        go None is e = absurd (cc)
        go (Some b) is e =
            let same : here n b ≡ x = cc in
            subst (λ x. One x c) same (λ p. pred_intro n h c b is (holds_here n b p))

    from_unfolded : (a c : Fm) (o : Option Fm) → unfolded s a ≡ o → fits s n 0 a ≡ true → is_unfolded o c ≡ true → Derives s Ax n h a → Derives s Ax n h c
    from_unfolded a c None is fa e p = absurd (false≢true e)
    from_unfolded a c (Some b) is fa e p = renaming n h b c e (pred_elim n h a b fa is p)

    from_prede : (a c : Fm) (x : Premise) → prede_line s n a c ≡ Some x → One x c
    from_prede a c x e =
        let w = when_some (fits s n 0 a && is_unfolded (unfolded s a) c) (here n a) x e in
        let y = and_parts _ _ w.0 in
        subst (λ x. One x c) w.1 (λ p. from_unfolded a c (unfolded s a) refl y.0 y.1 (holds_here n a p))

  module _ (th : List Fm) where
    -- each theorem that a proof names is an axiom
    abbrev Named : Pf → Type 0
    Named p = EachNamed (λ k. (a : Fm) → slice_get th k ≡ Some a → Ax a) p

    pub derived : (p : Pf) (n : ℕ) (h : List Fm) (c : Fm) (k : ℕ) → Named p → fault_of s th p n h c k ≡ None → Derives s Ax n h c
    derived (hyp i) n h c k known e = from_hypothesis n h i c (unless_none _ k _ e)
    derived (thm i) n h c k known e = from_theorem th n h i c known (unless_none _ k _ e)
    derived (fale p) n h c k known e = falsum_elim n h c (derived p n h falsum (k + 1) known e)
    derived lem n h c k known e = from_middle n h c (unless_none _ k _ e)
    derived reflexive n h c k known e = from_reflexive n h c (unless_none _ k _ e)
    derived (andl b p) n h c k known e =
        let y = found _ k _ _ e in
        from_andl n h b c y.0 y.1 (derived p y.0.vars (h ++ y.0.extra) y.0.goal (k + 1) known y.2)
    derived (andr a p) n h c k known e =
        let y = found _ k _ _ e in
        from_andr n h a c y.0 y.1 (derived p y.0.vars (h ++ y.0.extra) y.0.goal (k + 1) known y.2)
    derived (orl p) n h c k known e =
        let y = found _ k _ _ e in
        from_orl n h c y.0 y.1 (derived p y.0.vars (h ++ y.0.extra) y.0.goal (k + 1) known y.2)
    derived (orr p) n h c k known e =
        let y = found _ k _ _ e in
        from_orr n h c y.0 y.1 (derived p y.0.vars (h ++ y.0.extra) y.0.goal (k + 1) known y.2)
    derived (impi p) n h c k known e =
        let y = found _ k _ _ e in
        from_impi n h c y.0 y.1 (derived p y.0.vars (h ++ y.0.extra) y.0.goal (k + 1) known y.2)
    derived (alli p) n h c k known e =
        let y = found _ k _ _ e in
        from_alli n h c y.0 y.1 (derived p y.0.vars (h ++ y.0.extra) y.0.goal (k + 1) known y.2)
    derived (alle a t p) n h c k known e =
        let y = found _ k _ _ e in
        from_alle n h a t c y.0 y.1 (derived p y.0.vars (h ++ y.0.extra) y.0.goal (k + 1) known y.2)
    derived (exi t p) n h c k known e =
        let y = found _ k _ _ e in
        from_exi n h t c y.0 y.1 (derived p y.0.vars (h ++ y.0.extra) y.0.goal (k + 1) known y.2)
    derived (predi p) n h c k known e =
        let y = found _ k _ _ e in
        from_predi n h c y.0 y.1 (derived p y.0.vars (h ++ y.0.extra) y.0.goal (k + 1) known y.2)
    derived (prede a p) n h c k known e =
        let y = found _ k _ _ e in
        from_prede n h a c y.0 y.1 (derived p y.0.vars (h ++ y.0.extra) y.0.goal (k + 1) known y.2)
    derived (andi p q) n h c k known e =
        let y = found _ k _ _ e in
        let g = first_none _ _ y.2 in
        from_andi n h c y.0 y.1 (derived p y.0.0.vars (h ++ y.0.0.extra) y.0.0.goal (k + 1) known.0 g.0) (derived q y.0.1.vars (h ++ y.0.1.extra) y.0.1.goal (k + 1 + proof_nodes p) known.1 g.1)
    derived (impe a p q) n h c k known e =
        let y = found _ k _ _ e in
        let g = first_none _ _ y.2 in
        from_impe n h a c y.0 y.1 (derived p y.0.0.vars (h ++ y.0.0.extra) y.0.0.goal (k + 1) known.0 g.0) (derived q y.0.1.vars (h ++ y.0.1.extra) y.0.1.goal (k + 1 + proof_nodes p) known.1 g.1)
    derived (exe a p q) n h c k known e =
        let y = found _ k _ _ e in
        let g = first_none _ _ y.2 in
        from_exe n h a c y.0 y.1 (derived p y.0.0.vars (h ++ y.0.0.extra) y.0.0.goal (k + 1) known.0 g.0) (derived q y.0.1.vars (h ++ y.0.1.extra) y.0.1.goal (k + 1 + proof_nodes p) known.1 g.1)
    derived (repl a t u p q) n h c k known e =
        let y = found _ k _ _ e in
        let g = first_none _ _ y.2 in
        from_repl n h a t u c y.0 y.1 (derived p y.0.0.vars (h ++ y.0.0.extra) y.0.0.goal (k + 1) known.0 g.0) (derived q y.0.1.vars (h ++ y.0.1.extra) y.0.1.goal (k + 1 + proof_nodes p) known.1 g.1)
    derived (ind a t p q) n h c k known e =
        let y = found _ k _ _ e in
        let g = first_none _ _ y.2 in
        from_ind n h a t c y.0 y.1 (derived p y.0.0.vars (h ++ y.0.0.extra) y.0.0.goal (k + 1) known.0 g.0) (derived q y.0.1.vars (h ++ y.0.1.extra) y.0.1.goal (k + 1 + proof_nodes p) known.1 g.1)
    derived (ore a b p q r) n h c k known e =
        let y = found _ k _ _ e in
        let g = first_none _ _ y.2 in
        let j = first_none _ _ g.1 in
        from_ore n h a b c y.0 y.1 (derived p y.0.0.vars (h ++ y.0.0.extra) y.0.0.goal (k + 1) known.0 g.0) (derived q y.0.1.vars (h ++ y.0.1.extra) y.0.1.goal (k + 1 + proof_nodes p) known.1 j.0)
        (derived r y.0.2.vars (h ++ y.0.2.extra) y.0.2.goal (k + 1 + proof_nodes p + proof_nodes q) known.2 j.1)
