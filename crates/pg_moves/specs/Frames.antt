-- Frames: pieces of a proof with holes, which turn proofs of new goals into proofs of old ones.
use Rattle.std.specs.Prelude.{ℕ, zero, suc, ◌+◌, List, [], ◌∷◌, ◌++◌, Option, Some, None}
use Rattle.pg_logic.specs.Tree.{Tm, free, bound, nought, succ, Fm, falsum, eq, all, closed_over_formula}
use Rattle.pg_logic.specs.Signature.{Signature}
use Rattle.pg_logic.specs.Kernel.{Pf, hyp, andi, orl, orr, ore, impi, impe, fale, alli, alle, exi, exe, reflexive, repl, ind, predi, prede, unfolded, any_name}
use Rattle.pg_syntax.specs.declared.statement.Binder.{Binder}
use Rattle.pg_syntax.specs.declared.statement.Binder.TheVariants.{Var, Hyp}
use Rattle.pg_moves.specs.Holding.{Carried, put_for}
use Rattle.pg_moves.specs.Proofs.{Sequent, AllProve}

-- what is taken off a formula from the left: a binder, for which a term stands, or an antecedent
pub data Stage : Type 0 where
  for_all : (body : Fm) (by : Tm) → Stage
  where_so : (antecedent : Fm) → Stage

-- A piece of a proof, one node or a few, with a hole □ for each new goal. `under_r` is the node `r` over one hole.
pub data Frame : Type 0 where
  whole : Pf → Frame  -- no hole
  under_predi : Frame
  under_alli : Frame
  under_impi : Frame
  under_orl : Frame
  under_orr : Frame
  under_fale : Frame
  under_exi : Tm → Frame
  pair : Frame  -- andi □ □
  split : Fm → Fm → Pf → Frame  -- ore a b d □ □
  open_up : Fm → Pf → Frame  -- exe a d □
  cut : Fm → Pf → Frame  -- impe a (impi □) d
  change : Fm → Pf → Frame  -- impe a (impi d) □
  lemma : Fm → ℕ → Frame  -- ore a falsum (orl □) □ (fale (hyp m))
  rewrite : Fm → Tm → Tm → Pf → Frame  -- repl a t u d □
  give : Fm → ℕ → Frame  -- impe a □ (hyp i)
  applied : List Stage → Pf → Frame  -- d with its binders and antecedents taken off: a hole for each antecedent
  induct : Fm → Tm → ℕ → Frame  -- ind a t (impi.. □) (impi.. □)
  by_parts : Fm → Fm → ℕ → Pf → Frame  -- impe y (impe b ..) ..: base and step without the hypothesis of induction

-- a proof under so many nodes that take an antecedent in
abbrev pub impis : ℕ → Pf → Pf
impis zero p = p
impis (suc k) p = impi (impis k p)

-- a proof of a formula taken at its binders and antecedents; proofs of the antecedents stand in the list
abbrev pub taken_off : List Stage → Pf → List Pf → List Pf
taken_off [] d ps = d ∷ ps
taken_off (for_all a t ∷ more) d ps = taken_off more (alle a t d) ps
taken_off (where_so a ∷ more) d [] = []
taken_off (where_so a ∷ more) d (p ∷ ps) = taken_off more (impe a d p) ps

-- the antecedents
abbrev pub asked : List Stage → List Fm
asked [] = []
asked (for_all a t ∷ more) = asked more
asked (where_so a ∷ more) = a ∷ asked more

-- the holes take the proofs at the front of the list, in their order, and the proof that is made stands in front
abbrev pub filled : Frame → List Pf → List Pf
filled (whole d) ps = d ∷ ps
filled under_predi (p ∷ ps) = predi p ∷ ps
filled under_alli (p ∷ ps) = alli p ∷ ps
filled under_impi (p ∷ ps) = impi p ∷ ps
filled under_orl (p ∷ ps) = orl p ∷ ps
filled under_orr (p ∷ ps) = orr p ∷ ps
filled under_fale (p ∷ ps) = fale p ∷ ps
filled (under_exi t) (p ∷ ps) = exi t p ∷ ps
filled pair (p ∷ q ∷ ps) = andi p q ∷ ps
filled (split a b d) (p ∷ q ∷ ps) = ore a b d p q ∷ ps
filled (open_up a d) (p ∷ ps) = exe a d p ∷ ps
filled (cut a d) (p ∷ ps) = impe a (impi p) d ∷ ps
filled (change a d) (p ∷ ps) = impe a (impi d) p ∷ ps
filled (lemma a m) (p ∷ q ∷ ps) = ore a falsum (orl p) q (fale (hyp m)) ∷ ps
filled (rewrite a t u d) (p ∷ ps) = repl a t u d p ∷ ps
filled (give a i) (p ∷ ps) = impe a p (hyp i) ∷ ps
filled (applied stages d) ps = taken_off stages d ps
filled (induct a t k) (p ∷ q ∷ ps) = ind a t (impis k p) (impis k q) ∷ ps
filled (by_parts b y k d) (p ∷ q ∷ ps) = impe y (impe b (impi (impi d)) (impis k p)) (alli (impis k q)) ∷ ps
filled _ _ = []

-- the frames of a run in the order of its moves: each fills the first hole that is left
abbrev pub built : List Frame → List Pf → List Pf
built [] ps = ps
built (f ∷ fs) ps = filled f (built fs ps)

-- proofs of the goals after the frames make proofs of those before
abbrev pub Turns : Signature → List Fm → (ℕ → Type 0) → List Frame → List Sequent → List Sequent → Type 0
Turns s th Q fs gs gs' = (ps : List Pf) → AllProve s th Q gs' ps → AllProve s th Q gs (built fs ps)

-- the first proof
abbrev pub top : List Pf → Option Pf
top [] = None
top (p ∷ ps) = Some p

-- ---- frames and proofs of more than one node

-- the carried hypotheses given back, the last one first
abbrev pub gives_all : List Carried → List Frame
gives_all [] = []
gives_all (x ∷ more) = gives_all more ++ give x.hyp.formula x.number ∷ []

-- t = u from u = t
abbrev pub flipped : Tm → Tm → Pf → Pf
flipped t u d = repl (eq (bound 0) t) t u d reflexive

-- so many predicates unfolded in the target
abbrev pub predis : ℕ → List Frame
predis zero = []
predis (suc k) = under_predi ∷ predis k

-- the formulas with a predicate at their head that are unfolded, one after the other
abbrev pub way_at : Fm → (Fm → List Fm) → Option Fm → List Fm
way_at a more None = []
way_at a more (Some b) = a ∷ more b

-- the same, at most so many
abbrev pub way : ℕ → Signature → Fm → List Fm
way zero s a = []
way (suc n) s a = way_at a (way n s) (unfolded s a)

-- the first of them is that of the proof
abbrev pub predes : List Fm → Pf → Pf
predes [] p = p
predes (a ∷ more) p = predes more (prede a p)

-- of the cases of variable v, for the target w with k antecedents
abbrev pub parts : ℕ → ℕ → ℕ → Fm → ℕ → Frame
parts n long v w k =
    let body = closed_over_formula n (put_for v (succ (free n)) w) in
    by_parts (put_for v nought w) (all any_name body) k (ind (closed_over_formula v w) (free v) (hyp long) (alle body (free n) (hyp (long + 1))))

-- ---- a statement

-- the frames that bring its variables and hypotheses in
abbrev pub introduced : List Binder → List Frame
introduced [] = []
introduced (Var x ∷ more) = under_alli ∷ introduced more
introduced (Hyp h a ∷ more) = under_impi ∷ introduced more
