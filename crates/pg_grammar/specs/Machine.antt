-- Reading one symbol after another, with what is still open on a stack.
use Rattle.std.specs.Prelude.{ℕ, suc, ◌-◌, ◌==◌, nat_lt, nat_le, Bool, true, false, ◌&&◌, ◌||◌, List, [], ◌∷◌, ◌++◌, Option, Some, None, option_map, if◌then◌else◌}
use Rattle.pg_grammar.specs.Shapes.{Op, Quantifier, Word, Sym, Name, Number, FalseWord, SuccWord, Sign, NotSign, QuantSign, Open, Close, Comma, Colon, NatSign, level, left_min, right_min, Group, Bracket, Binders, Plain, Typed, Grouped, Shape, Named, Numeral, Falsum, Paren, Next, App, Neg, Quant, Binary, strength, can_apply, closed}
use Rattle.pg_grammar.specs.Nesting.{right_depth}
use Rattle.pg_grammar.specs.Faults.{Limits, Expected, Deep, Long, Part, Found, Lost, Reading, Read, Refused}

-- ---- the names of a quantifier

-- what stands of them
pub data Heading : Type 0 where
  Unnamed : Heading  -- nothing
  PlainNames : Group → Heading  -- x y
  PlainColon : Group → Heading  -- x y :
  PlainTyped : Group → Heading  -- x y : ℕ
  GroupOpen : List Bracket → ℕ → Heading  -- (w : ℕ) (
  GroupNames : List Bracket → ℕ → Group → Heading  -- (w : ℕ) (x y
  GroupColon : List Bracket → ℕ → Group → Heading  -- (w : ℕ) (x y :
  GroupTyped : List Bracket → ℕ → Group → Heading  -- (w : ℕ) (x y : ℕ
  GroupClosed : List Bracket → Bracket → Heading  -- (w : ℕ) (x y : ℕ)

abbrev pub alone : Word → Group
alone x = record { first = x; others = [] }

abbrev pub with_name : Group → Word → Group
with_name g y = record { first = g.first; others = g.others ++ y ∷ [] }

abbrev pub bracket : ℕ → Group → Bracket
bracket at g = record { at = at; names = g }

abbrev pub heading_step : Heading → Sym → Option Heading
heading_step Unnamed (Name x) = Some (PlainNames (alone x))
heading_step Unnamed (Open at) = Some (GroupOpen [] at)
heading_step (PlainNames g) (Name y) = Some (PlainNames (with_name g y))
heading_step (PlainNames g) Colon = Some (PlainColon g)
heading_step (PlainColon g) NatSign = Some (PlainTyped g)
heading_step (GroupOpen bs at) (Name x) = Some (GroupNames bs at (alone x))
heading_step (GroupNames bs at g) (Name y) = Some (GroupNames bs at (with_name g y))
heading_step (GroupNames bs at g) Colon = Some (GroupColon bs at g)
heading_step (GroupColon bs at g) NatSign = Some (GroupTyped bs at g)
heading_step (GroupTyped bs at g) Close = Some (GroupClosed bs (bracket at g))
heading_step (GroupClosed bs b) (Open at) = Some (GroupOpen (bs ++ b ∷ []) at)
heading_step _ _ = None

abbrev pub binders_of : Heading → Option Binders
binders_of (PlainNames g) = Some (Plain g)
binders_of (PlainTyped g) = Some (Typed g)
binders_of (GroupClosed bs b) = Some (Grouped bs b)
binders_of _ = None

-- ---- what is open

pub data Frame : Type 0 where
  InParen : ℕ → Frame
  InNext : ℕ → Frame
  InArg : Shape → Frame
  InNeg : ℕ → Frame
  InQuant : ℕ → Quantifier → Binders → Frame
  InBinary : ℕ → Op → Shape → Frame

-- an operand is wanted; or one stands there already; or a quantifier's names are wanted
pub data State : Type 0 where
  Wants : List Frame → State
  Has : List Frame → Shape → State
  Binds : List Frame → ℕ → Quantifier → Heading → State

abbrev pub start : State
start = Wants []

-- how strong the operand in a frame is at least
abbrev pub place : Frame → ℕ
place (InParen at) = 0
place (InNext at) = 101
place (InArg f) = 101
place (InNeg at) = 40
place (InQuant at q b) = 0
place (InBinary at op l) = right_min op

abbrev pub wanted : List Frame → ℕ
wanted [] = 0
wanted (frame ∷ frames) = place frame

abbrev pub is_paren : Frame → Bool
is_paren (InParen at) = true
is_paren _ = false

-- the shape that an operand makes with its frame
abbrev pub leaving : Frame → Shape → Shape
leaving (InParen at) s = Paren at s
leaving (InNext at) s = Next at s
leaving (InArg f) s = App f s
leaving (InNeg at) s = Neg at s
leaving (InQuant at q b) s = Quant at q b s
leaving (InBinary at op l) s = Binary at op l s

-- whether the sign goes on this shape in a place that wants at least min
abbrev pub takes : ℕ → Shape → Op → Bool
takes min left op = nat_le min (level op) && (nat_le (left_min op) (strength left) && closed left)

-- whether the sign, where there is one, goes on it
abbrev pub goes_on : Option Op → ℕ → Shape → Bool
goes_on None min s = false
goes_on (Some op) min s = takes min s op

pub record Operand : Type 0 where
  pub frames : List Frame
  pub shape : Shape

-- the operand leaves its frames up to one with which the sign goes on, or up to the innermost parenthesis
abbrev pub reduced : Option Op → List Frame → Shape → Operand
reduced sign [] s = record { frames = []; shape = s }
reduced sign (frame ∷ frames) s =
    if is_paren frame || goes_on sign (place frame) s then record { frames = frame ∷ frames; shape = s }
    else reduced sign frames (leaving frame s)

-- an atom leaves a frame that wants one
abbrev pub settled : List Frame → Shape → State
settled (InNext at ∷ frames) s = Has frames (Next at s)
settled (InArg f ∷ frames) s = Has frames (App f s)
settled frames s = Has frames s

abbrev pub on_sign : ℕ → Op → Operand → Option State
on_sign at op o = if takes (wanted o.frames) o.shape op then Some (Wants (InBinary at op o.shape ∷ o.frames)) else None

abbrev pub close_in : List Frame → Shape → Option State
close_in (InParen at ∷ frames) s = Some (settled frames (Paren at s))
close_in _ s = None

abbrev pub end_in : List Frame → Shape → Option Shape
end_in [] s = Some s
end_in _ s = None

abbrev pub on_close : Operand → Option State
on_close o = close_in o.frames o.shape

abbrev pub on_end : Operand → Option Shape
on_end o = end_in o.frames o.shape

abbrev pub when : Bool → State → Option State
when test state = if test then Some state else None

abbrev pub step : State → Sym → Option State
step (Wants frames) (Name x) = Some (settled frames (Named x))
step (Wants frames) (Number n) = Some (settled frames (Numeral n))
step (Wants frames) (FalseWord at) = Some (settled frames (Falsum at))
step (Wants frames) (SuccWord at) = when (nat_le (wanted frames) 100) (Wants (InNext at ∷ frames))
step (Wants frames) (NotSign at) = when (nat_le (wanted frames) 40) (Wants (InNeg at ∷ frames))
step (Wants frames) (QuantSign at q) = when (nat_le (wanted frames) 100) (Binds frames at q Unnamed)
step (Wants frames) (Open at) = Some (Wants (InParen at ∷ frames))
step (Wants frames) _ = None
step (Has frames s) (Name x) = when (can_apply s) (Has frames (App s (Named x)))
step (Has frames s) (Number n) = when (can_apply s) (Has frames (App s (Numeral n)))
step (Has frames s) (FalseWord at) = when (can_apply s) (Has frames (App s (Falsum at)))
step (Has frames s) (Open at) = when (can_apply s) (Wants (InParen at ∷ InArg s ∷ frames))
step (Has frames s) (Sign at op) = on_sign at op (reduced (Some op) frames s)
step (Has frames s) Close = on_close (reduced None frames s)
step (Has frames s) _ = None
step (Binds frames at q h) Comma = option_map (λ b. Wants (InQuant at q b ∷ frames)) (binders_of h)
step (Binds frames at q h) sym = option_map (Binds frames at q) (heading_step h sym)

-- the shape, where all symbols have been taken
abbrev pub ended : State → Option Shape
ended (Wants frames) = None
ended (Has frames s) = on_end (reduced None frames s)
ended (Binds frames at q h) = None

-- ---- nesting

-- how deep an operand in these frames is nested
abbrev pub nesting : List Frame → ℕ
nesting [] = 0
nesting (InParen at ∷ frames) = suc (nesting frames)
nesting (InNext at ∷ frames) = nesting frames
nesting (InArg f ∷ frames) = nesting frames
nesting (InNeg at ∷ frames) = suc (nesting frames)
nesting (InQuant at q b ∷ frames) = suc (nesting frames)
nesting (InBinary at op l ∷ frames) = right_depth op (nesting frames)

-- how deep the symbol that opened the innermost frame is nested: a quantifier's comma is held by it
abbrev pub opening_depth : List Frame → ℕ
opening_depth [] = 0
opening_depth (InQuant at q b ∷ frames) = suc (nesting frames)
opening_depth (frame ∷ frames) = nesting frames

-- how deep the last of a quantifier's names and signs is nested, where its sign is d deep
abbrev pub heading_depth : Heading → ℕ → ℕ
heading_depth Unnamed d = d
heading_depth (GroupNames bs at g) d = suc (suc d)
heading_depth (GroupColon bs at g) d = suc (suc d)
heading_depth (GroupTyped bs at g) d = suc (suc d)
heading_depth _ d = suc d

-- how deep the symbol is nested behind which the machine is in this state
abbrev pub depth : State → ℕ
depth (Wants frames) = opening_depth frames
depth (Has frames s) = nesting frames
depth (Binds frames at q h) = heading_depth h (nesting frames)

-- ---- the whole reader

abbrev pub stopped : List Sym → Option Shape → Part
stopped rest None = Lost Expected rest
stopped rest (Some s) = Found s rest

-- one symbol more, where there is room for so many
abbrev pub with_next : ℕ → ℕ → List Sym → Option Shape → (State → Part) → Option State → Part
with_next limit room syms end go None = stopped syms end
with_next limit room syms end go (Some next) = if nat_lt limit (depth next) then Lost Deep syms else (if room == 0 then Lost Long syms else go next)

abbrev pub read_from : ℕ → ℕ → State → List Sym → Part
read_from limit room state [] = stopped [] (ended state)
read_from limit room state (sym ∷ rest) = with_next limit room (sym ∷ rest) (ended state) (λ next. read_from limit (room - 1) next rest) (step state sym)

-- the shape at the front
abbrev pub read_part : Limits → List Sym → Part
read_part limits syms = read_from limits.nesting limits.tokens start syms

-- all symbols are wanted
abbrev pub whole : Part → Reading
whole (Found s []) = Read s
whole (Found s (sym ∷ rest)) = Refused Expected (sym ∷ rest)
whole (Lost fault rest) = Refused fault rest

abbrev pub read : Limits → List Sym → Reading
read limits syms = whole (read_part limits syms)
