-- The parts of moves: a move does one act after the other. Rules, names and terms that stand in a list are one each.
use Rattle.std.specs.Prelude.{List, [], ◌∷◌, map, find, Option, Some, None}
use Rattle.std.specs.Str.{bytes_eq}
use Rattle.pg_base.specs.Tokens.{Word}
use Rattle.pg_logic.specs.Declarations.{Name}
use Rattle.pg_script.specs.Data as script
use Rattle.pg_worlds.specs.declared.tactic_name.TacticName.{TacticName}
use Rattle.pg_worlds.specs.declared.tactic_name.TacticName.TheVariants as tactic
use Rattle.pg_worlds.specs.Moves.{word_of}

-- what one part of a move does, with its expression, term, formula and names
pub data Act : Type 0 where
  Rfl : Act
  Exact : script.Expression → Act
  Intro : Word → Act
  Apply : script.Expression → Act
  ApplyAt : script.Expression → Word → Act
  Rewrite : script.Rule → Act
  RewriteAt : script.Rule → Word → Act
  Induction : Word → List Word → Act
  Cases : Word → List Word → Act
  Left : Act
  Right : Act
  Constructor : Act
  Witness : script.Part → Act
  Symm : Act
  SymmAt : Word → Act
  Exfalso : Act
  Assert : Word → script.Part → Act
  Have : Word → Option script.Part → script.Expression → Act
  Revert : Word → Act
  ByCases : Word → script.Part → Act
  Unknown : Act

-- the moves in their order
abbrev pub all_moves : List TacticName
all_moves =
    tactic.Rfl ∷ tactic.Rw ∷ tactic.Induction ∷ tactic.Intro ∷ tactic.Exact ∷ tactic.Apply ∷ tactic.Cases ∷ tactic.Left ∷ tactic.Right ∷ tactic.Constructor
    ∷ tactic.Use ∷ tactic.Symm ∷ tactic.Exfalso ∷ tactic.Have ∷ tactic.Revert ∷ tactic.ByCases ∷ []

-- the move of a word
abbrev pub move_named : Name → Option TacticName
move_named x = find (λ t. bytes_eq x (word_of t)) all_moves

-- the moves with nothing behind their word
abbrev pub plain_act : Option TacticName → Act
plain_act (Some tactic.Rfl) = Rfl
plain_act (Some tactic.Left) = Left
plain_act (Some tactic.Right) = Right
plain_act (Some tactic.Constructor) = Constructor
plain_act (Some tactic.Exfalso) = Exfalso
plain_act _ = Unknown

-- `induction` and `cases` have one form
abbrev pub split_act : Option TacticName → Word → List Word → Act
split_act (Some tactic.Induction) = Induction
split_act _ = Cases

-- `apply e`, `apply e at h`
abbrev pub apply_act : script.Expression → Option Word → Act
apply_act e None = Apply e
apply_act e (Some h) = ApplyAt e h

-- a rule of `rw [r, ..]`, of `rw [r, ..] at h`
abbrev pub rewrite_act : Option Word → script.Rule → Act
rewrite_act None r = Rewrite r
rewrite_act (Some h) r = RewriteAt r h

-- `symm`, `symm at h`
abbrev pub symm_act : Option Word → Act
symm_act None = Symm
symm_act (Some h) = SymmAt h

-- `have h : A`, `have h := e`, `have h : A := e`
abbrev pub have_act : Word → Option script.Part → Option script.Expression → Act
have_act h p (Some e) = Have h p e
have_act h (Some p) None = Assert h p
have_act h None None = Unknown

-- the acts of a move of this word
abbrev pub acts_of : Name → script.Shape → List Act
acts_of head script.plain = plain_act (move_named head) ∷ []
acts_of head (script.exact e) = Exact e ∷ []
acts_of head (script.intro xs) = map Intro xs
acts_of head (script.apply e h) = apply_act e h ∷ []
acts_of head (script.rewrite rs h) = map (rewrite_act h) rs
acts_of head (script.split x xs) = split_act (move_named head) x xs ∷ []
acts_of head (script.uses ps) = map Witness ps
acts_of head (script.symm h) = symm_act h ∷ []
acts_of head (script.have h p e) = have_act h p e ∷ []
acts_of head (script.revert x) = Revert x ∷ []
acts_of head (script.by_cases h p) = ByCases h p ∷ []
acts_of head script.unknown = Unknown ∷ []
