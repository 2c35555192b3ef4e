-- What was taken of some tokens, as the definitions say it.
use Rattle.std.specs.Prelude.{ℕ, List, [], Option, Some, None, option_map, Result, Ok, Err, take, drop, Bool, ◌||◌, if◌then◌else◌}
use Rattle.std.specs.Borrow.{Bor}
use Rattle.pg_base.specs.declared.token.Token.{Token}
use Rattle.pg_base.specs.Tokens.{Word, word}
use Rattle.pg_script.specs.Data.{Part}
use Rattle.pg_script.specs.Marks.{place}
use Rattle.pg_script.specs.View.{words}
use Rattle.pg_gametext.specs.Forms.{Taken, Told, FunctionText, ConstantText, PredicateText, are_few, is_close, begins_open, is_assign, is_function_sign, is_predicate_sign, function_params, predicate_params, parameters_closed, parameters_taken, token_taken}
use Rattle.pg_forms.specs.declared.parts.Span.{Span}
use Rattle.pg_forms.specs.View.{part}

-- a token, or the place of another
abbrev pub first_taken : Result (Token × Bor (List Token)) ℕ → Taken (Option Word)
first_taken (Ok p) = record { value = Some (word p.0); stuck = None; rest = words p.1.now }
first_taken (Err at) = record { value = None; stuck = Some at; rest = [] }

-- names at the front of these tokens, or the place of another token
abbrev pub names_view : List Word → Result (Bor (List Token) × Bor (List Token)) ℕ → Taken (List Word)
names_view ws (Ok p) = record { value = words p.0.now; stuck = None; rest = words p.1.now }
names_view ws (Err at) = record { value = []; stuck = Some at; rest = ws }

-- a part, which any tokens are
abbrev pub part_behind : Span × Bor (List Token) → Taken Part
part_behind p = record { value = part p.0; stuck = None; rest = words p.1.now }

-- a block, or the place where there is none
abbrev pub block_behind : Result (Span × Bor (List Token)) ℕ → Taken (Option Part)
block_behind (Ok p) = record { value = Some (part p.0); stuck = None; rest = words p.1.now }
block_behind (Err at) = record { value = None; stuck = Some at; rest = [] }

-- the first so many tokens
abbrev pub part_of : (n end : ℕ) → List Word → Taken Part
part_of n end ws = record { value = record { tokens = take n ws; end = place end (drop n ws) }; stuck = None; rest = drop n ws }

-- a part with its value, and the tokens behind it or the place where it does not go on
abbrev pub taken_behind : {X : Type 0} → X → Result (Bor (List Token)) ℕ → Taken X
taken_behind x (Ok rest) = record { value = x; stuck = None; rest = words rest.now }
taken_behind x (Err at) = record { value = x; stuck = Some at; rest = [] }

-- the place of an error
abbrev pub stuck_at : Result (Unit {0}) ℕ → Option ℕ
stuck_at (Ok x) = None
stuck_at (Err at) = Some at

-- what was told, up to an error
abbrev pub as_told : {X : Type 0} → X → Result (Unit {0}) ℕ → Told X
as_told x result = record { value = x; stuck = stuck_at result }

-- the closing parenthesis behind these names
abbrev pub parameters_at_close : (two : Bool) → ℕ → (names ws : List Word) → Taken (List Word)
parameters_at_close two end names ws =
    if are_few two names then record { value = names; stuck = Some (place end ws); rest = [] } else parameters_closed names (token_taken is_close end ws)

-- parameters where some must or do stand
abbrev pub parameters_or_none : (two : Bool) → ℕ → List Word → Taken (List Word)
parameters_or_none two end ws = if two || begins_open ws then parameters_taken two end ws else record { value = []; stuck = None; rest = ws }

-- a constant of which nothing is told
abbrev pub no_constant : ConstantText
no_constant = record { name = None; body = None; equation_name = None }

-- the function of this name, the predicate of this name
abbrev pub function_of : Word → ℕ → List Word → Told FunctionText
function_of f end ws = function_params end f (parameters_taken (is_function_sign f) end ws)

abbrev pub predicate_of : Word → ℕ → List Word → Told PredicateText
predicate_of p end ws = predicate_params end p (parameters_or_none (is_predicate_sign p) end ws)

-- a body, or the place where there is none
abbrev pub assigned_body : ℕ → Taken (Option Word) → Told (Option Part)
assigned_body end assign = elim assign.stuck [
  | Some at ↦ record { value = None; stuck = Some at }
  | None ↦ record { value = Some (record { tokens = assign.rest; end = end }); stuck = None }
]

abbrev pub body_at : ℕ → Result (Bor (List Token)) ℕ → Told (Option Part)
body_at end (Ok rest) = assigned_body end (token_taken is_assign end (words rest.now))
body_at end (Err at) = record { value = None; stuck = Some at }

abbrev pub body_view : Result Span ℕ → Told (Option Part)
body_view (Ok s) = record { value = Some (part s); stuck = None }
body_view (Err at) = record { value = None; stuck = Some at }

-- a token or none, and the tokens behind it
abbrev pub token_behind : Option Token × Bor (List Token) → Taken (Option Word)
token_behind p = record { value = option_map word p.0; stuck = None; rest = words p.1.now }
