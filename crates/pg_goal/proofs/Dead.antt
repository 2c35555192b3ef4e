-- What dies in a list of variables or hypotheses.
use Rattle.std.proofs.Common.{◌≡◌, ℕ, zero, suc, false, List, [], ◌∷◌, map, refl, ap, sym}
use Rattle.std.specs.Prelude.{Option, Some, None, is_some, slice_get, slice_set}
use Rattle.std.proofs.lemmas.Bool.{true≢false}
use Rattle.pg_moves.specs.Goals as moves
use Rattle.pg_goal.specs.declared.goal.Var.{Var}
use Rattle.pg_goal.specs.declared.goal.Hyp.{Hyp}
use Rattle.pg_goal.specs.View.{var_of, hyp_of}

-- what stands there, or else x
abbrev there : {X : Type 0} → X → Option X → X
there x None = x
there x (Some y) = y

pub dead_var : (vs : List Var) (k : ℕ) (v : Var) → slice_get vs k ≡ Some v →
    map var_of (slice_set vs k (record { name = v.name; live = false })) ≡ moves.vars_without k (map var_of vs)
dead_var [] k v e = absurd (true≢false (sym (ap is_some e)))
dead_var (w ∷ vs) zero v e = ap (λ (o : Option Var). record { name = (there w o).name; live = false } ∷ map var_of vs) (sym e)
dead_var (w ∷ vs) (suc k) v e = ap (λ ws. var_of w ∷ ws) (dead_var vs k v e)

pub no_var : (vs : List Var) (k : ℕ) → slice_get vs k ≡ None → moves.vars_without k (map var_of vs) ≡ map var_of vs
no_var [] k e = refl
no_var (w ∷ vs) zero e = absurd (true≢false (ap is_some e))
no_var (w ∷ vs) (suc k) e = ap (λ ws. var_of w ∷ ws) (no_var vs k e)

pub dead_hyp : (hs : List Hyp) (k : ℕ) (h : Hyp) → slice_get hs k ≡ Some h →
    map hyp_of (slice_set hs k (record { name = h.name; formula = h.formula; live = false })) ≡ moves.hyps_without k (map hyp_of hs)
dead_hyp [] k h e = absurd (true≢false (sym (ap is_some e)))
dead_hyp (g ∷ hs) zero h e = ap (λ (o : Option Hyp). hyp_of (record { name = (there g o).name; formula = (there g o).formula; live = false }) ∷ map hyp_of hs) (sym e)
dead_hyp (g ∷ hs) (suc k) h e = ap (λ ws. hyp_of g ∷ ws) (dead_hyp hs k h e)

pub no_hyp : (hs : List Hyp) (k : ℕ) → slice_get hs k ≡ None → moves.hyps_without k (map hyp_of hs) ≡ map hyp_of hs
no_hyp [] k e = refl
no_hyp (g ∷ hs) zero e = absurd (true≢false (ap is_some e))
no_hyp (g ∷ hs) (suc k) e = ap (λ ws. hyp_of g ∷ ws) (no_hyp hs k e)
