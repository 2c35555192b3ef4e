-- What expressions ask of a goal and a look-up, and what is known of what they give.
use Rattle.std.specs.Prelude.{◌≡◌, ◌<◌, ◌^◌, true, List, All, length, map}
use Rattle.pg_base.specs.Tokens.{Word}
use Rattle.pg_base.specs.Spans.{IsTokenText}
use Rattle.pg_logic.specs.Tree.{Fm, nodes_of}
use Rattle.pg_logic.specs.Declarations.{signature_of}
use Rattle.pg_logic.specs.Signature.{fits}
use Rattle.pg_logic.specs.Kernel.{Pf}
use Rattle.pg_script.specs.Data.{Part}
use Rattle.pg_moves.specs.Goals.{Goal}
use Rattle.pg_moves.specs.Lookup.{Lookup, IsAvailable}
use Rattle.pg_moves.specs.Proofs.{Shows, hyp_formula}

-- numbers of 32 bits count the theorems' names, the variables, the hypotheses, and the nodes of each formula
pub record IsCounted (l : Lookup) (g : Goal) : Type 0 where
  pub names : length l.names < 2 ^ 32
  pub theorems : All (λ a. nodes_of a < 2 ^ 32) l.theorems
  pub vars : length g.vars < 2 ^ 32
  pub hyps : length g.hyps < 2 ^ 32
  pub formulas : All (λ a. nodes_of a < 2 ^ 32) (map hyp_formula g.hyps)

-- the tokens of arguments have the texts of their kinds
abbrev pub AreTexts : List Part → Type 0
AreTexts ps = All (λ (p : Part). All (λ (w : Word). IsTokenText w.kind w.text) p.tokens) ps

-- The formula fits the goal's variables. The kernel accepts the proof of each formula that is the same, in the goal's
-- context, and it names available theorems alone.
pub record IsProved (l : Lookup) (g : Goal) (a : Fm) (p : Pf) : Type 0 where
  pub fitting : fits (signature_of l.declared) (length g.vars) 0 a ≡ true
  pub shows : Shows (signature_of l.declared) l.theorems (IsAvailable l) (length g.vars) (map hyp_formula g.hyps) a p
