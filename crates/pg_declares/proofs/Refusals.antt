-- Why a declaration of what fits is refused: its names alone.
use Rattle.std.proofs.Common.{◌≡◌, ◌≤◌, ◌∷◌, ℕ, Bool, true, false, List, [], refl, ap, ◌∙◌, subst}
use Rattle.std.specs.Prelude.{Option, Some, None, option_map, if◌then◌else◌, nat_lt}
use Rattle.std.proofs.lemmas.Bool.{le-ltb}
use Rattle.pg_logic.specs.Tree.{Tm, Fm}
use Rattle.pg_logic.specs.Signature.{fits_term, fits}
use Rattle.pg_logic.specs.Declarations.{Name, Declarations, by_term, next_predicate, signature_of, names_of, clash, first, undeclared, undeclared_in, loose, loose_in, Refusal, name_taken, arity_over, loose_variable, refusal_by, function_refusal, predicate_refusal, arity_limit}
use Rattle.pg_arith.specs.Faults.{IsFaultOf}
use Rattle.pg_arith.specs.declared.declaring.DeclareFault.{DeclareFault}
use Rattle.pg_arith.specs.declared.declaring.DeclareFault.TheVariants.{NameTaken, UsesLater, ArityOver, LooseVariable, OutOfMemory}
use Rattle.pg_declares.specs.Judged.{Refuses, IsTaken}
use Rattle.pg_declares.specs.declared.unread.Undeclared.{Undeclared}
use Rattle.pg_declares.proofs.Fits.{none_undeclared, none_undeclared_in, none_loose, none_loose_in}

-- the refusal of what nothing but its names can be refused for
abbrev pub by_names : Bool → Option Refusal
by_names b = if b then Some name_taken else None

refused_by_names : (taken : Bool) (later : List ℕ) (n : ℕ) (astray : List ℕ) → later ≡ [] → astray ≡ [] → nat_lt arity_limit n ≡ false
    → refusal_by taken (first later) n (first astray) ≡ by_names taken
refused_by_names true later n astray a b c = refl
refused_by_names false later n astray a b c =
    ap (λ l. refusal_by false (first l) n (first astray)) a
    ∙ ap (λ (x : Bool). if x then Some (arity_over n) else option_map loose_variable (first astray)) c
    ∙ ap (λ l. option_map loose_variable (first l)) b

pub by_names_alone : (taken : Bool) (r : Option Refusal) (e : DeclareFault) → r ≡ by_names taken → IsFaultOf r e → Refuses taken e
by_names_alone taken r OutOfMemory is h = tt
by_names_alone true r NameTaken is h = refl
by_names_alone false r NameTaken is h = absurd (cc)
by_names_alone true r (UsesLater id) is h = absurd (cc)
by_names_alone false r (UsesLater id) is h = absurd (cc)
by_names_alone true r (ArityOver n) is h = absurd (cc)
by_names_alone false r (ArityOver n) is h = absurd (cc)
by_names_alone true r (LooseVariable id) is h = absurd (cc)
by_names_alone false r (LooseVariable id) is h = absurd (cc)

constant_refused : (d : Declarations) (x y : Name) (t : Tm) (e : DeclareFault) → fits_term (signature_of d).functions 0 0 t ≡ true
    → IsFaultOf (function_refusal d (by_term x t y)) e → Refuses (clash (names_of d) (x ∷ y ∷ [])) e
constant_refused d x y t e fit h =
    let fs = (signature_of d).functions in
    let taken = clash (names_of d) (x ∷ y ∷ []) in
    by_names_alone taken (function_refusal d (by_term x t y)) e
    (refused_by_names taken (undeclared fs t) 0 (loose 0 0 t) (none_undeclared fs 0 0 t fit) (none_loose fs 0 0 t fit) refl) h

predicate_refused : (d : Declarations) (x : Name) (n : ℕ) (a : Fm) (e : DeclareFault) → n ≤ arity_limit → fits (signature_of d) n 0 a ≡ true
    → IsFaultOf (predicate_refusal d (next_predicate d x n a)) e → Refuses (clash (names_of d) (x ∷ [])) e
predicate_refused d x n a e few fit h =
    let taken = clash (names_of d) (x ∷ []) in
    by_names_alone taken (predicate_refusal d (next_predicate d x n a)) e
    (refused_by_names taken (undeclared_in (signature_of d) a) n (loose_in n 0 a) (none_undeclared_in (signature_of d) n 0 a fit) (none_loose_in (signature_of d) n 0 a fit) (le-ltb arity_limit n few)) h

pub constant_told : (d : Declarations) (x y x' y' : Name) (t : Tm) (e : DeclareFault) (u : Undeclared) → x ≡ x' → y ≡ y' → fits_term (signature_of d).functions 0 0 t ≡ true
    → IsFaultOf (function_refusal d (by_term x t y)) e → ((taken : Bool) → Refuses taken e → IsTaken taken u) → IsTaken (clash (names_of d) (x' ∷ y' ∷ [])) u
constant_told d x y x' y' t e u is is' fit h go =
    subst (λ x. IsTaken (clash (names_of d) (x ∷ y' ∷ [])) u) is
    (subst (λ y. IsTaken (clash (names_of d) (x ∷ y ∷ [])) u) is' (go (clash (names_of d) (x ∷ y ∷ [])) (constant_refused d x y t e fit h)))

pub predicate_told : (d : Declarations) (x x' : Name) (n : ℕ) (a : Fm) (e : DeclareFault) (u : Undeclared) → x ≡ x' → n ≤ arity_limit → fits (signature_of d) n 0 a ≡ true
    → IsFaultOf (predicate_refusal d (next_predicate d x n a)) e → ((taken : Bool) → Refuses taken e → IsTaken taken u) → IsTaken (clash (names_of d) (x' ∷ [])) u
predicate_told d x x' n a e u is few fit h go =
    subst (λ x. IsTaken (clash (names_of d) (x ∷ [])) u) is (go (clash (names_of d) (x ∷ [])) (predicate_refused d x n a e few fit h))
