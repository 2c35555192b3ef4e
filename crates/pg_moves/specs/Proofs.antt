-- Proofs of goals, and what it is for proofs of new goals to make proofs of old ones.
use Rattle.std.specs.Prelude.{ℕ, ◌≡◌, true, List, All, length, map, None}
use Rattle.std.specs.List.{AllZip}
use Rattle.pg_logic.specs.Tree.{Fm, same_formula}
use Rattle.pg_logic.specs.Signature.{Signature, fits}
use Rattle.pg_logic.specs.Kernel.{Pf, hyp, thm, andi, andl, andr, orl, orr, ore, impi, impe, fale, lem, alli, alle, exi, exe, reflexive, repl, ind, predi, prede, fault_of}
use Rattle.pg_moves.specs.Goals.{Hyp, Goal}

-- a claim on each theorem that a proof names
abbrev pub EachNamed : (ℕ → Type 0) → Pf → Type 0
EachNamed Q (hyp i) = Unit {0}
EachNamed Q (thm i) = Q i
EachNamed Q (andi p q) = EachNamed Q p × EachNamed Q q
EachNamed Q (andl b p) = EachNamed Q p
EachNamed Q (andr a p) = EachNamed Q p
EachNamed Q (orl p) = EachNamed Q p
EachNamed Q (orr p) = EachNamed Q p
EachNamed Q (ore a b p q r) = EachNamed Q p × EachNamed Q q × EachNamed Q r
EachNamed Q (impi p) = EachNamed Q p
EachNamed Q (impe a p q) = EachNamed Q p × EachNamed Q q
EachNamed Q (fale p) = EachNamed Q p
EachNamed Q lem = Unit {0}
EachNamed Q (alli p) = EachNamed Q p
EachNamed Q (alle a t p) = EachNamed Q p
EachNamed Q (exi t p) = EachNamed Q p
EachNamed Q (exe a p q) = EachNamed Q p × EachNamed Q q
EachNamed Q reflexive = Unit {0}
EachNamed Q (repl a t u p q) = EachNamed Q p × EachNamed Q q
EachNamed Q (ind a t p q) = EachNamed Q p × EachNamed Q q
EachNamed Q (predi p) = EachNamed Q p
EachNamed Q (prede a p) = EachNamed Q p

-- what is to be proved: a goal without its names. The dead stand there too
pub record Sequent : Type 0 where
  pub vars : ℕ
  pub hyps : List Fm
  pub target : Fm

-- the formula of a hypothesis
abbrev pub hyp_formula : Hyp → Fm
hyp_formula h = h.formula

-- what a goal asks to be proved
abbrev pub sequent : Goal → Sequent
sequent g = record { vars = length g.vars; hyps = map hyp_formula g.hyps; target = g.target }

-- the kernel accepts the proof there, whatever the number of its first node, and it names only theorems of Q
pub record Proves (s : Signature) (th : List Fm) (Q : ℕ → Type 0) (n : ℕ) (h : List Fm) (c : Fm) (p : Pf) : Type 0 where
  pub accepted : (k : ℕ) → fault_of s th p n h c k ≡ None
  pub named : EachNamed Q p

-- the same of each formula that differs from a in the names of its binders alone
abbrev pub Shows : Signature → List Fm → (ℕ → Type 0) → (n : ℕ) → List Fm → Fm → Pf → Type 0
Shows s th Q n h a p = (c : Fm) → same_formula a c ≡ true → Proves s th Q n h c p

-- each proof is one of its goal, and there are as many
abbrev pub AllProve : Signature → List Fm → (ℕ → Type 0) → List Sequent → List Pf → Type 0
AllProve s th Q gs ps = AllZip (λ (g : Sequent). Proves s th Q g.vars g.hyps g.target) gs ps

-- every formula of a goal fits its variables
abbrev pub Fits : Signature → Sequent → Type 0
Fits s g = All (λ a. fits s g.vars 0 a ≡ true) g.hyps × (fits s g.vars 0 g.target ≡ true)
