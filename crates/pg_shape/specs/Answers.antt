-- What the reading of tokens answers.
use Rattle.std.specs.Prelude.{ℕ, ◌≡◌, ◌-◌, ◌==◌, nat_lt, List, [], ◌∷◌, length, drop, map, Option, Some, None, Result, Ok, Err, if◌then◌else◌}
use Rattle.pg_base.specs.Tokens.{Word}
use Rattle.pg_grammar.specs.Shapes as grammar
use Rattle.pg_grammar.specs.Faults as faults
use Rattle.pg_grammar.specs.Machine as machine
use Rattle.pg_shape.specs.View.{shape}
use Rattle.pg_shape.specs.Symbols.{symbol}
use Rattle.pg_shape.specs.States.{state}
use Rattle.pg_shape.specs.declared.shape.Shape.{Shape}
use Rattle.pg_shape.specs.declared.state.State.{State}
use Rattle.pg_shape.specs.declared.fault.ShapeFault.{ShapeFault}
use Rattle.pg_shape.specs.declared.fault.ShapeFault.TheVariants.{Expected, Deep, Long, OutOfMemory}

abbrev pub limits : faults.Limits
limits = record { nesting = 100; tokens = 8192 }

-- where the first of these tokens stands, or the end
abbrev pub place : ℕ → List Word → ℕ
place end [] = end
place end (w ∷ words) = w.at

-- the tokens of these symbols at the end
abbrev pub last_words : List Word → List grammar.Sym → List Word
last_words words rest = drop (length words - length rest) words

-- a shape, or a fault and its place
pub data Answer : Type 0 where
  Shaped : grammar.Shape → Answer
  Broken : faults.Fault → ℕ → Answer

abbrev pub answer : ℕ → List Word → faults.Reading → Answer
answer end words (faults.Read s) = Shaped s
answer end words (faults.Refused fault rest) = Broken fault (place end (last_words words rest))

abbrev pub shape_answer : ℕ → List Word → Answer
shape_answer end words = answer end words (machine.read limits (map symbol words))

abbrev pub Gives : Answer → Result Shape ShapeFault → Type 0
Gives want (Ok s) = want ≡ Shaped (shape s)
Gives want (Err (Expected at what)) = want ≡ Broken faults.Expected at
Gives want (Err (Deep at)) = want ≡ Broken faults.Deep at
Gives want (Err (Long at)) = want ≡ Broken faults.Long at
Gives want (Err OutOfMemory) = Unit {0}

-- ---- without the reader

-- the first fault stands at this byte
pub record IsFaultAt (end : ℕ) (words : List Word) (fault : faults.Fault) (at : ℕ) : Type 0 where
  pub rest : List grammar.Sym
  pub first : faults.IsFirstFault limits (map symbol words) fault rest
  pub at_is : at ≡ place end (last_words words rest)

-- Ok with the shape that the tokens spell within the limits, else the first fault at its place
abbrev pub IsRight : ℕ → List Word → Result Shape ShapeFault → Type 0
IsRight end words (Ok s) = faults.IsReading limits (map symbol words) (faults.Read (shape s))
IsRight end words (Err (Expected at what)) = IsFaultAt end words faults.Expected at
IsRight end words (Err (Deep at)) = IsFaultAt end words faults.Deep at
IsRight end words (Err (Long at)) = IsFaultAt end words faults.Long at
IsRight end words (Err OutOfMemory) = Unit {0}

-- ---- one token

-- the fault of one token more, where there is room for so many
abbrev pub judged : ℕ → Option machine.State → Option faults.Fault
judged room None = Some faults.Expected
judged room (Some next) = if nat_lt 100 (machine.depth next) then Some faults.Deep else (if room == 0 then Some faults.Long else None)

abbrev pub Takes : Option machine.State → ℕ → ℕ → Result State ShapeFault → Type 0
Takes next room at (Ok s) = (next ≡ Some (state s)) × (judged room next ≡ None)
Takes next room at (Err (Expected p what)) = (judged room next ≡ Some faults.Expected) × (p ≡ at)
Takes next room at (Err (Deep p)) = (judged room next ≡ Some faults.Deep) × (p ≡ at)
Takes next room at (Err (Long p)) = (judged room next ≡ Some faults.Long) × (p ≡ at)
Takes next room at (Err OutOfMemory) = Unit {0}

-- at the end
abbrev pub Ends : Option grammar.Shape → ℕ → Result Shape ShapeFault → Type 0
Ends o end (Ok s) = o ≡ Some (shape s)
Ends o end (Err (Expected p what)) = (o ≡ None) × (p ≡ end)
Ends o end (Err OutOfMemory) = Unit {0}
Ends o end (Err _) = ⊥
