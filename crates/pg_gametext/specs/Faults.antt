-- The faults of a game text, each at its place, and which of several is the first.
use Rattle.std.specs.Prelude.{ℕ, suc, ◌+◌, ◌*◌, Bool, true, false, List, [], ◌∷◌, take, drop, flat_map, Option, Some, None, if◌then◌else◌, nat_lt, ◌==◌}
use Rattle.pg_base.specs.Tokens.{Word}
use Rattle.pg_logic.specs.Tree.{Fm, nodes_of, height_of}
use Rattle.pg_grammar.specs.Faults as shapes
use Rattle.pg_meaning.specs.Faults as meaning
use Rattle.pg_shape.specs.Answers.{limits}
use Rattle.pg_syntax.specs.Answers.{Answer, Read, Misshapen, Meaningless}

-- what is limited; at one place the first of these counts
pub data LimitName : Type 0 where
  Worlds : LimitName
  Levels : LimitName
  Functions : LimitName
  Predicates : LimitName
  Arity : LimitName
  Tokens : LimitName
  Nesting : LimitName
  Nodes : LimitName
  Height : LimitName
  Variables : LimitName
  Hypotheses : LimitName
  ScriptBytes : LimitName
  Steps : LimitName
  Blocks : LimitName
  Hints : LimitName

-- G3, G4, G5, G6 with the least earlier place of the name or the command, G7 with the number that is expected, G12 with
-- the number reached, G13
pub data Kind : Type 0 where
  BadToken : Kind
  Expected : Kind
  Unknown : Kind
  Duplicate : (first : ℕ) → Kind
  LevelGap : (expected : ℕ) → Kind
  Limit : LimitName → (count : ℕ) → Kind
  NotRecursive : Kind

pub record Fault : Type 0 where
  pub at : ℕ
  pub kind : Kind

abbrev pub fault : ℕ → Kind → Fault
fault at kind = record { at = at; kind = kind }

-- ---- their order

abbrev pub limit_rank : LimitName → ℕ
limit_rank Worlds = 0
limit_rank Levels = 1
limit_rank Functions = 2
limit_rank Predicates = 3
limit_rank Arity = 4
limit_rank Tokens = 5
limit_rank Nesting = 6
limit_rank Nodes = 7
limit_rank Height = 8
limit_rank Variables = 9
limit_rank Hypotheses = 10
limit_rank ScriptBytes = 11
limit_rank Steps = 12
limit_rank Blocks = 13
limit_rank Hints = 14

-- the order at one place
abbrev pub rank : Kind → ℕ
rank BadToken = 0
rank Expected = 1
rank Unknown = 2
rank (Duplicate first) = 3
rank (LevelGap expected) = 4
rank (Limit what count) = limit_rank what + 5
rank NotRecursive = 20

-- the place counts, and at one place the rank, which is below 32
abbrev pub key : Fault → ℕ
key f = f.at * 32 + rank f.kind

abbrev pub comes_before : Fault → Fault → Bool
comes_before f g = nat_lt (key f) (key g)

-- the earlier of two, the first where neither comes before the other
abbrev pub earlier : Fault → Option Fault → Fault
earlier f None = f
earlier f (Some g) = if comes_before g f then g else f

-- the first fault in the order of places
abbrev pub least : List Fault → Option Fault
least [] = None
least (f ∷ fs) = Some (earlier f (least fs))

-- ---- one fault or none

abbrev pub fault_if : Bool → ℕ → Kind → List Fault
fault_if true at kind = fault at kind ∷ []
fault_if false at kind = []

abbrev pub stuck_fault : Option ℕ → List Fault
stuck_fault None = []
stuck_fault (Some at) = fault at Expected ∷ []

-- ---- limits

abbrev pub world_limit : ℕ
world_limit = 64

-- levels of a world
abbrev pub level_limit : ℕ
level_limit = 64

-- functions and constants
abbrev pub function_limit : ℕ
function_limit = 64

abbrev pub predicate_limit : ℕ
predicate_limit = 32

-- variables of a statement
abbrev pub variable_limit : ℕ
variable_limit = 64

abbrev pub hypothesis_limit : ℕ
hypothesis_limit = 64

-- nodes and height of a statement's formula, an axiom and a predicate's body
abbrev pub node_limit : ℕ
node_limit = 4096

abbrev pub height_limit : ℕ
height_limit = 256

-- hints of a game
abbrev pub hint_limit : ℕ
hint_limit = 1024

-- where as many stand already as may, one more is one too many
abbrev pub one_more : LimitName → (limit standing : ℕ) → ℕ → List Fault
one_more what limit standing at = fault_if (standing == limit) at (Limit what (suc limit))

-- the first token that is too many
abbrev pub one_over : LimitName → (limit : ℕ) → List Word → List Fault
one_over what limit ws = flat_map (λ (w : Word). fault w.at (Limit what (suc limit)) ∷ []) (take 1 (drop limit ws))

-- ---- faults of formulas and terms

abbrev pub shape_kind : shapes.Fault → Kind
shape_kind shapes.Expected = Expected
shape_kind shapes.Deep = Limit Nesting (suc limits.nesting)
shape_kind shapes.Long = Limit Tokens (suc limits.tokens)

abbrev pub meaning_fault : meaning.Fault → Fault
meaning_fault (meaning.Expected at) = fault at Expected
meaning_fault (meaning.Unknown at) = fault at Unknown
meaning_fault (meaning.Arity at has needs) = fault at Expected

abbrev pub answer_faults : {X : Type 0} → Answer X → List Fault
answer_faults (Read x) = []
answer_faults (Misshapen f at) = fault at (shape_kind f) ∷ []
answer_faults (Meaningless f) = meaning_fault f ∷ []

abbrev pub answer_value : {X : Type 0} → Answer X → Option X
answer_value (Read x) = Some x
answer_value _ = None

-- a formula of too many nodes, or else of too great a height
abbrev pub size_faults : ℕ → Fm → List Fault
size_faults at a = if nat_lt node_limit (nodes_of a) then fault at (Limit Nodes (nodes_of a)) ∷ [] else fault_if (nat_lt height_limit (height_of a)) at (Limit Height (height_of a))
