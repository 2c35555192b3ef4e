-- The lines that tell an outcome.
use Rattle.std.specs.Prelude.{ℕ, List, [], ◌∷◌, ◌++◌, length, flat_map, codes, decimal, if◌then◌else◌}
use Rattle.pg_logic.specs.Declarations.{Declarations}
use Rattle.pg_spelling.specs.Written.{printed_formula}
use Rattle.pg_moves.specs.Causes.{Cause, Syntax, NoSuchTactic, LockedTactic, NoSuchName, LockedTheorem, SidesDiffer, WrongShape, NoInstance, Undetermined, NameTaken, TooLarge, NoGoal, WrongArgument, NotSame, LeftOpen, TooMany, BarePattern}
use Rattle.pg_moves.specs.Goals.{Goal, Hyp, scope}
use Rattle.pg_moves.specs.Runs.{Stop, Outcome, Closed, Open, Stopped}

abbrev pub line : List ℕ → List ℕ
line text = text ++ 10 ∷ []

-- ---- goals

-- a live hypothesis of a goal has a line, a dead one none
abbrev pub hyp_line : Declarations → Goal → Hyp → List ℕ
hyp_line d g h = if h.live then line (h.name ++ codes " : " ++ printed_formula (scope d g) h.formula) else []

-- the bytes of `⊢ `
abbrev pub turnstile : List ℕ
turnstile = 226 ∷ 138 ∷ 162 ∷ 32 ∷ []

abbrev pub goal_lines : Declarations → Goal → List ℕ
goal_lines d g = flat_map (hyp_line d g) g.hyps ++ line (turnstile ++ printed_formula (scope d g) g.target)

-- ---- causes

abbrev pub code : Cause → List ℕ
code (Syntax at) = codes "S1"
code (NoSuchTactic word) = codes "S2"
code (LockedTactic word) = codes "S3"
code (NoSuchName at) = codes "S4"
code (LockedTheorem theorem) = codes "S5"
code (SidesDiffer lhs rhs) = codes "S6"
code WrongShape = codes "S7"
code NoInstance = codes "S8"
code (Undetermined binder) = codes "S9"
code (NameTaken name) = codes "S10"
code (TooLarge measure reached) = codes "S11"
code NoGoal = codes "S12"
code (WrongArgument at) = codes "S13"
code (NotSame found) = codes "S14"
code (LeftOpen count) = codes "S15"
code (TooMany count) = codes "S16"
code BarePattern = codes "S17"

-- ---- outcomes

abbrev pub stop_line : Stop → List ℕ
stop_line s = line (codes "stopped " ++ decimal s.item ++ codes " " ++ decimal s.part ++ codes " " ++ code s.cause)

abbrev pub open_lines : Declarations → List Goal → List ℕ
open_lines d gs = line (codes "open " ++ decimal (length gs)) ++ flat_map (goal_lines d) gs

-- `won`; how many goals are left, and these; or where the script stops, and the code of the cause
abbrev pub lines_of : Declarations → Outcome → List ℕ
lines_of d Closed = line (codes "won")
lines_of d (Open gs) = open_lines d gs
lines_of d (Stopped s) = stop_line s
