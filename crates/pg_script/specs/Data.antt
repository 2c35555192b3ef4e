-- Scripts as plain data. The Rust types stand for these.
use Rattle.std.specs.Prelude.{ℕ, Bool, List, [], ◌∷◌, Option}
use Rattle.pg_base.specs.Tokens.{Word}

-- tokens, and where the next token begins
pub record Part : Type 0 where
  pub tokens : List Word
  pub end : ℕ

-- a name and its arguments
pub record Expression : Type 0 where
  pub name : Word
  pub args : List Part

pub record Rule : Type 0 where
  pub back : Bool
  pub expr : Expression

-- what stands behind a move's word
pub data Shape : Type 0 where
  plain : Shape
  exact : Expression → Shape
  intro : List Word → Shape
  apply : Expression → Option Word → Shape
  rewrite : List Rule → Option Word → Shape
  split : Word → List Word → Shape
  uses : List Part → Shape
  symm : Option Word → Shape
  have : Word → Option Part → Option Expression → Shape
  revert : Word → Shape
  by_cases : Word → Part → Shape
  unknown : Shape

pub record Step : Type 0 where
  pub at : ℕ
  pub head : List ℕ
  pub shape : Shape

pub record Remark : Type 0 where
  pub at : ℕ
  pub text : List ℕ
  pub hidden : Bool
  pub strict : Bool

mutual
  pub data Entry : Type 0 where
    move : Step → Entry
    focus : Entries → Entry
    branch : Entries → Entry
    hint : Remark → Entry

  pub data Entries : Type 0 where
    none : Entries
    entry : Entry → Entries → Entries

abbrev pub entries_of : List Entry → Entries
entries_of [] = none
entries_of (e ∷ es) = entry e (entries_of es)
