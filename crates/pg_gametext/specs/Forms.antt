-- What stands behind a command's word: its parts, and the first token with which no such command goes on.
-- Parts that stand before that token are told too, since a fault of theirs comes first.
use Rattle.std.specs.Prelude.{ℕ, zero, suc, Bool, true, false, ◌&&◌, ◌||◌, not, List, [], ◌∷◌, length, take, drop, Option, Some, None, if◌then◌else◌, ◌==◌, nat_lt, codes}
use Rattle.std.specs.Str.{bytes_eq}
use Rattle.pg_base.specs.declared.token.TokenKind.{TokenKind}
use Rattle.pg_base.specs.declared.token.TokenKind.TheVariants as kind
use Rattle.pg_base.specs.declared.token.Sign.{Sign}
use Rattle.pg_base.specs.declared.token.Sign.TheVariants as sign
use Rattle.pg_base.specs.Tokens.{Word}
use Rattle.pg_script.specs.Data.{Part}
use Rattle.pg_script.specs.Marks.{place}
use Rattle.pg_gametext.specs.Commands.{is_number, is_text, is_plain, is_word}

-- ---- signs

-- what a token is to the forms of commands
pub data Mark : Type 0 where
  Open : Mark
  Close : Mark
  Colon : Mark
  Assign : Mark
  Bar : Mark
  Arrow : Mark
  Nat : Mark
  Plus : Mark
  Star : Mark
  Caret : Mark
  AtMost : Mark
  Below : Mark
  Other : Mark

abbrev pub sign_mark : Sign → Mark
sign_mark sign.OpenParen = Open
sign_mark sign.CloseParen = Close
sign_mark sign.Colon = Colon
sign_mark sign.Assign = Assign
sign_mark sign.Bar = Bar
sign_mark sign.Arrow = Arrow
sign_mark sign.Nat = Nat
sign_mark sign.Plus = Plus
sign_mark sign.Star = Star
sign_mark sign.Caret = Caret
sign_mark sign.LessEqual = AtMost
sign_mark sign.Less = Below
sign_mark _ = Other

abbrev pub kind_mark : TokenKind → Mark
kind_mark (kind.Sign s) = sign_mark s
kind_mark _ = Other

abbrev pub mark : Word → Mark
mark w = kind_mark w.kind

abbrev pub is_open : Word → Bool
is_open w = elim (mark w) [ Open ↦ true | _ ↦ false ]

abbrev pub is_close : Word → Bool
is_close w = elim (mark w) [ Close ↦ true | _ ↦ false ]

abbrev pub is_colon : Word → Bool
is_colon w = elim (mark w) [ Colon ↦ true | _ ↦ false ]

abbrev pub is_assign : Word → Bool
is_assign w = elim (mark w) [ Assign ↦ true | _ ↦ false ]

abbrev pub is_bar : Word → Bool
is_bar w = elim (mark w) [ Bar ↦ true | _ ↦ false ]

abbrev pub is_arrow : Word → Bool
is_arrow w = elim (mark w) [ Arrow ↦ true | _ ↦ false ]

abbrev pub is_nat : Word → Bool
is_nat w = elim (mark w) [ Nat ↦ true | _ ↦ false ]

-- the sign of a function, of a predicate
abbrev pub is_function_sign : Word → Bool
is_function_sign w = elim (mark w) [ Plus ↦ true | Star ↦ true | Caret ↦ true | _ ↦ false ]

abbrev pub is_predicate_sign : Word → Bool
is_predicate_sign w = elim (mark w) [ AtMost ↦ true | Below ↦ true | _ ↦ false ]

-- The name of what is declared by a sign is the sign's first spelling. ≤ has these bytes.
abbrev pub declared_text : Word → List ℕ
declared_text w = elim (mark w) [ AtMost ↦ 226 ∷ 137 ∷ 164 ∷ [] | _ ↦ w.text ]

-- ---- parts

-- what was told, and the place of the first token with which none goes on so
pub record Told (X : Type 0) : Type 0 where
  pub value : X
  pub stuck : Option ℕ

-- the same of a part, and the tokens behind it
pub record Taken (X : Type 0) : Type 0 where
  pub value : X
  pub stuck : Option ℕ
  pub rest : List Word

-- nothing goes on behind these
abbrev pub ended : List Word → Option ℕ
ended [] = None
ended (w ∷ ws) = Some w.at

-- behind what is not stuck nothing follows
abbrev pub or_ended : Option ℕ → List Word → Option ℕ
or_ended None rest = ended rest
or_ended (Some at) rest = Some at

-- one token of a kind
abbrev pub token_taken : (Word → Bool) → ℕ → List Word → Taken (Option Word)
token_taken good end [] = record { value = None; stuck = Some end; rest = [] }
token_taken good end (w ∷ ws) = if good w then record { value = Some w; stuck = None; rest = ws } else record { value = None; stuck = Some w.at; rest = [] }

-- one token of a kind and nothing behind it
abbrev pub only : Taken (Option Word) → Told (Option Word)
only t = record { value = t.value; stuck = or_ended t.stuck t.rest }

abbrev pub one_token : (Word → Bool) → ℕ → List Word → Told (Option Word)
one_token good end ws = only (token_taken good end ws)

-- names, one behind the other
abbrev pub names_length : List Word → ℕ
names_length [] = 0
names_length (w ∷ ws) = if is_plain w then suc (names_length ws) else 0

-- one name at least
abbrev pub names_taken : ℕ → List Word → Taken (List Word)
names_taken end ws =
    let n = names_length ws in
    record { value = take n ws; stuck = (if n == 0 then Some (place end ws) else None); rest = drop n ws }

abbrev pub names_told : ℕ → List Word → Told (List Word)
names_told end ws = let t = names_taken end ws in record { value = t.value; stuck = or_ended t.stuck t.rest }

-- ---- dependencies

-- a world and one that needs it
pub record Link : Type 0 where
  pub before : Word
  pub after : Word

abbrev pub with_link : Link → Told (List Link) → Told (List Link)
with_link l t = record { value = l ∷ t.value; stuck = t.stuck }

-- Behind a world. The flag says that one link stands already.
abbrev pub links_after : Bool → ℕ → Word → List Word → Told (List Link)
links_after some end a [] = record { value = []; stuck = (if some then None else Some end) }
links_after some end a (s ∷ []) = record { value = []; stuck = Some (if is_arrow s then end else s.at) }
links_after some end a (s ∷ b ∷ ws) =
    if is_arrow s then (if is_plain b then with_link (record { before = a; after = b }) (links_after true end b ws) else record { value = []; stuck = Some b.at })
    else record { value = []; stuck = Some s.at }

abbrev pub links_told : ℕ → List Word → Told (List Link)
links_told end [] = record { value = []; stuck = Some end }
links_told end (a ∷ ws) = if is_plain a then links_after false end a ws else record { value = []; stuck = Some a.at }

-- ---- tokens of formulas, terms and equations

-- how many tokens stand before the first of a kind
abbrev pub length_before : (Word → Bool) → List Word → ℕ
length_before stops [] = 0
length_before stops (w ∷ ws) = if stops w then 0 else suc (length_before stops ws)

-- the tokens before the first of a kind, or all
abbrev pub part_taken : (Word → Bool) → ℕ → List Word → Taken Part
part_taken stops end ws =
    let n = length_before stops ws in
    record { value = record { tokens = take n ws; end = place end (drop n ws) }; stuck = None; rest = drop n ws }

-- how many tokens stand before `:=` or the first `)` outside their parentheses, of which so many are open
abbrev pub length_of_hypothesis : (depth : ℕ) → List Word → ℕ
length_of_hypothesis n [] = 0
length_of_hypothesis zero (w ∷ ws) = elim (mark w) [ Assign ↦ 0 | Open ↦ suc (length_of_hypothesis 1 ws) | Close ↦ 0 | _ ↦ suc (length_of_hypothesis 0 ws) ]
length_of_hypothesis (suc n) (w ∷ ws) = elim (mark w) [
  | Assign ↦ 0
  | Open ↦ suc (length_of_hypothesis (suc (suc n)) ws)
  | Close ↦ suc (length_of_hypothesis n ws)
  | _ ↦ suc (length_of_hypothesis (suc n) ws)
]

abbrev pub hypothesis_taken : ℕ → List Word → Taken Part
hypothesis_taken end ws =
    let n = length_of_hypothesis 0 ws in
    record { value = record { tokens = take n ws; end = place end (drop n ws) }; stuck = None; rest = drop n ws }

-- ---- parameters

-- how many of a sign's two parameters are named
abbrev pub at_most_two : Bool → List Word → List Word
at_most_two false ws = ws
at_most_two true ws = take 2 ws

abbrev pub are_few : (two : Bool) → List Word → Bool
are_few two names = (length names == 0) || (two && nat_lt (length names) 2)

-- these names, and their closing parenthesis
abbrev pub parameters_closed : List Word → Taken (Option Word) → Taken (List Word)
parameters_closed names t = record { value = names; stuck = t.stuck; rest = t.rest }

abbrev pub parameters_named : (two : Bool) → ℕ → (names ws : List Word) → Taken (List Word)
parameters_named two end names ws =
    if are_few two names then record { value = names; stuck = Some (place end (drop (length names) ws)); rest = [] }
    else parameters_closed names (token_taken is_close end (drop (length names) ws))

abbrev pub parameters_behind : (two : Bool) → ℕ → List Word → Taken (List Word)
parameters_behind two end ws = parameters_named two end (at_most_two two (take (names_length ws) ws)) ws

abbrev pub parameters_opened : (two : Bool) → ℕ → Taken (Option Word) → Taken (List Word)
parameters_opened two end t = elim t.stuck [ Some at ↦ record { value = []; stuck = Some at; rest = [] } | None ↦ parameters_behind two end t.rest ]

-- names between parentheses, one at least; for a sign two
abbrev pub parameters_taken : (two : Bool) → ℕ → List Word → Taken (List Word)
parameters_taken two end ws = parameters_opened two end (token_taken is_open end ws)

-- ---- functions

-- an equation's name and its tokens
pub record Equation : Type 0 where
  pub name : Word
  pub says : Option Part

pub record FunctionText : Type 0 where
  pub name : Option Word
  pub params : List Word
  pub at_zero : Option Equation
  pub at_succ : Option Equation

-- an equation of this name
abbrev pub equation_said : Word → Taken Part → Taken (Option Equation)
equation_said n p = record { value = Some (record { name = n; says = Some p.value }); stuck = None; rest = p.rest }

abbrev pub equation_colon : ℕ → Word → Taken (Option Word) → Taken (Option Equation)
equation_colon end n c = elim c.stuck [
  | Some at ↦ record { value = Some (record { name = n; says = None }); stuck = Some at; rest = [] }
  | None ↦ equation_said n (part_taken is_bar end c.rest)
]

abbrev pub equation_named : ℕ → Word → List Word → Taken (Option Equation)
equation_named end n ws = equation_colon end n (token_taken is_colon end ws)

abbrev pub equation_of_name : ℕ → Taken (Option Word) → Taken (Option Equation)
equation_of_name end t = elim t.value [ None ↦ record { value = None; stuck = t.stuck; rest = [] } | Some n ↦ equation_named end n t.rest ]

abbrev pub equation_bar : ℕ → Taken (Option Word) → Taken (Option Equation)
equation_bar end b = elim b.stuck [
  | Some at ↦ record { value = None; stuck = Some at; rest = [] }
  | None ↦ equation_of_name end (token_taken is_plain end b.rest)
]

-- `| n : l = r`, where r goes on up to the next `|`
abbrev pub equation_taken : ℕ → List Word → Taken (Option Equation)
equation_taken end ws = equation_bar end (token_taken is_bar end ws)

abbrev pub both_equations : Word → List Word → Option Equation → Taken (Option Equation) → Told FunctionText
both_equations f params first next = record { value = record { name = Some f; params = params; at_zero = first; at_succ = next.value }; stuck = or_ended next.stuck next.rest }

abbrev pub second_equation : ℕ → Word → List Word → Taken (Option Equation) → Told FunctionText
second_equation end f params first =
    elim first.stuck [
      | Some at ↦ record { value = record { name = Some f; params = params; at_zero = first.value; at_succ = None }; stuck = Some at }
      | None ↦ both_equations f params first.value (equation_taken end first.rest)
    ]

abbrev pub function_params : ℕ → Word → Taken (List Word) → Told FunctionText
function_params end f p =
    elim p.stuck [
      | Some at ↦ record { value = record { name = Some f; params = p.value; at_zero = None; at_succ = None }; stuck = Some at }
      | None ↦ second_equation end f p.value (equation_taken end p.rest)
    ]

abbrev pub function_named : ℕ → Taken (Option Word) → Told FunctionText
function_named end t = elim t.value [
  | None ↦ record { value = record { name = None; params = []; at_zero = None; at_succ = None }; stuck = t.stuck }
  | Some f ↦ function_params end f (parameters_taken (is_function_sign f) end t.rest)
]

-- f (x .. d) | n0 : l0 = r0 | n1 : l1 = r1
abbrev pub function_told : ℕ → List Word → Told FunctionText
function_told end ws = function_named end (token_taken (λ w. is_plain w || is_function_sign w) end ws)

-- ---- constants

pub record ConstantText : Type 0 where
  pub name : Option Word
  pub body : Option Part
  pub equation_name : Option Word

abbrev pub can_name_constant : Word → Bool
can_name_constant w = is_plain w || (is_number w && not (bytes_eq w.text (codes "0")))

abbrev pub constant_with : Word → Part → Told (Option Word) → Told ConstantText
constant_with c body n = record { value = record { name = Some c; body = Some body; equation_name = n.value }; stuck = n.stuck }

abbrev pub constant_behind : ℕ → Word → Part → Taken (Option Word) → Told ConstantText
constant_behind end c body behind = elim behind.stuck [
  | Some at ↦ record { value = record { name = Some c; body = Some body; equation_name = None }; stuck = Some at }
  | None ↦ constant_with c body (one_token is_plain end behind.rest)
]

abbrev pub constant_part : ℕ → Word → Taken Part → Told ConstantText
constant_part end c p = constant_behind end c p.value (token_taken (is_word (codes "as")) end p.rest)

abbrev pub constant_assigned : ℕ → Word → Taken (Option Word) → Told ConstantText
constant_assigned end c assign = elim assign.stuck [
  | Some at ↦ record { value = record { name = Some c; body = None; equation_name = None }; stuck = Some at }
  | None ↦ constant_part end c (part_taken (is_word (codes "as")) end assign.rest)
]

abbrev pub constant_named : ℕ → Taken (Option Word) → Told ConstantText
constant_named end t = elim t.value [
  | None ↦ record { value = record { name = None; body = None; equation_name = None }; stuck = t.stuck }
  | Some c ↦ constant_assigned end c (token_taken is_assign end t.rest)
]

-- c := term as name
abbrev pub constant_told : ℕ → List Word → Told ConstantText
constant_told end ws = constant_named end (token_taken can_name_constant end ws)

-- ---- predicates

pub record PredicateText : Type 0 where
  pub name : Option Word
  pub params : List Word
  pub body : Option Part

abbrev pub predicate_assigned : Word → List Word → ℕ → Taken (Option Word) → Told PredicateText
predicate_assigned p params end assign = elim assign.stuck [
  | Some at ↦ record { value = record { name = Some p; params = params; body = None }; stuck = Some at }
  | None ↦ record { value = record { name = Some p; params = params; body = Some (record { tokens = assign.rest; end = end }) }; stuck = None }
]

abbrev pub predicate_params : ℕ → Word → Taken (List Word) → Told PredicateText
predicate_params end p t = elim t.stuck [
  | Some at ↦ record { value = record { name = Some p; params = t.value; body = None }; stuck = Some at }
  | None ↦ predicate_assigned p t.value end (token_taken is_assign end t.rest)
]

abbrev pub begins_open : List Word → Bool
begins_open [] = false
begins_open (w ∷ ws) = is_open w

abbrev pub predicate_named : ℕ → Taken (Option Word) → Told PredicateText
predicate_named end t = elim t.value [
  | None ↦ record { value = record { name = None; params = []; body = None }; stuck = t.stuck }
  | Some p ↦
      if is_predicate_sign p || begins_open t.rest then predicate_params end p (parameters_taken (is_predicate_sign p) end t.rest)
      else predicate_assigned p [] end (token_taken is_assign end t.rest)
]

-- p (x ..) := formula
abbrev pub predicate_told : ℕ → List Word → Told PredicateText
predicate_told end ws = predicate_named end (token_taken (λ w. is_plain w || is_predicate_sign w) end ws)

-- ---- statements

-- variables, or a hypothesis and its formula's tokens
pub data BinderText : Type 0 where
  variables : List Word → BinderText
  hypothesis : Word → Part → BinderText

pub record StatementText : Type 0 where
  pub name : Option Word
  pub binders : List BinderText
  pub target : Option Part
  pub block : Option Part

abbrev pub binders_stuck : ℕ → Taken (List BinderText)
binders_stuck at = record { value = []; stuck = Some at; rest = [] }

abbrev pub with_binder : BinderText → Taken (List BinderText) → Taken (List BinderText)
with_binder b t = record { value = b ∷ t.value; stuck = t.stuck; rest = t.rest }

-- what comes behind a closing parenthesis
abbrev pub binder_followed : (List Word → Taken (List BinderText)) → Taken (Option Word) → Taken (List BinderText)
binder_followed more t = elim t.stuck [ Some at ↦ binders_stuck at | None ↦ more t.rest ]

abbrev pub binder_closed : ℕ → BinderText → (List Word → Taken (List BinderText)) → List Word → Taken (List BinderText)
binder_closed end b more ws = with_binder b (binder_followed more (token_taken is_close end ws))

-- a hypothesis, which has one name; these tokens stand behind its colon
abbrev pub hypothesis_named : ℕ → List Word → (List Word → Taken (List BinderText)) → List Word → Taken (List BinderText)
hypothesis_named end (x ∷ []) more ws = let p = hypothesis_taken end ws in binder_closed end (hypothesis x p.value) more p.rest
hypothesis_named end names more ws = binders_stuck (place end ws)

-- behind the names of a binder and its colon
abbrev pub binder_typed : ℕ → List Word → (List Word → Taken (List BinderText)) → List Word → Taken (List BinderText)
binder_typed end names more [] = hypothesis_named end names more []
binder_typed end names more (w ∷ ws) = if is_nat w then binder_closed end (variables names) more ws else hypothesis_named end names more (w ∷ ws)

abbrev pub binder_colon : ℕ → List Word → (List Word → Taken (List BinderText)) → Taken (Option Word) → Taken (List BinderText)
binder_colon end names more c = elim c.stuck [ Some at ↦ binders_stuck at | None ↦ binder_typed end names more c.rest ]

abbrev pub binder_named : ℕ → Taken (List Word) → (List Word → Taken (List BinderText)) → Taken (List BinderText)
binder_named end names more = elim names.stuck [ Some at ↦ binders_stuck at | None ↦ binder_colon end names.value more (token_taken is_colon end names.rest) ]

-- At most so many binders, and what stands behind them. Each has a token at least.
abbrev pub binders_taken : (turns end : ℕ) → List Word → Taken (List BinderText)
binders_taken zero end ws = record { value = []; stuck = None; rest = ws }
binders_taken (suc turns) end [] = record { value = []; stuck = None; rest = [] }
binders_taken (suc turns) end (w ∷ ws) =
    if is_open w then binder_named end (names_taken end ws) (binders_taken turns end) else record { value = []; stuck = None; rest = w ∷ ws }

-- A block goes on up to a token that is first of its line at a smaller column.
abbrev pub ends_block : ℕ → Word → Bool
ends_block column w = w.first && nat_lt w.column column

abbrev pub block_taken : ℕ → List Word → Taken (Option Part)
block_taken end [] = record { value = None; stuck = Some end; rest = [] }
block_taken end (w ∷ ws) =
    let n = length_before (ends_block w.column) ws in
    record { value = Some (record { tokens = w ∷ take n ws; end = place end (drop n ws) }); stuck = None; rest = drop n ws }

abbrev pub proof_by : ℕ → Taken (Option Word) → Taken (Option Part)
proof_by end b = elim b.stuck [ Some at ↦ record { value = None; stuck = Some at; rest = [] } | None ↦ block_taken end b.rest ]

abbrev pub proof_assigned : ℕ → Taken (Option Word) → Taken (Option Part)
proof_assigned end a = elim a.stuck [
  | Some at ↦ record { value = None; stuck = Some at; rest = [] }
  | None ↦ proof_by end (token_taken (is_word (codes "by")) end a.rest)
]

-- behind the target
abbrev pub proof_taken : ℕ → List Word → Taken (Option Part)
proof_taken end ws = proof_assigned end (token_taken is_assign end ws)

abbrev pub target_proved : Option Word → List BinderText → Part → Taken (Option Part) → Told StatementText
target_proved name binders target b = record { value = record { name = name; binders = binders; target = Some target; block = b.value }; stuck = or_ended b.stuck b.rest }

abbrev pub target_part : ℕ → Option Word → List BinderText → Taken Part → Told StatementText
target_part end name binders p = target_proved name binders p.value (proof_taken end p.rest)

abbrev pub target_told : ℕ → Option Word → List BinderText → List Word → Told StatementText
target_told end name binders ws = target_part end name binders (part_taken is_assign end ws)

abbrev pub statement_colon : ℕ → Option Word → List BinderText → Taken (Option Word) → Told StatementText
statement_colon end name binders c = elim c.stuck [
  | Some at ↦ record { value = record { name = name; binders = binders; target = None; block = None }; stuck = Some at }
  | None ↦ target_told end name binders c.rest
]

abbrev pub statement_binders : ℕ → Option Word → Taken (List BinderText) → Told StatementText
statement_binders end name t = elim t.stuck [
  | Some at ↦ record { value = record { name = name; binders = t.value; target = None; block = None }; stuck = Some at }
  | None ↦ statement_colon end name t.value (token_taken is_colon end t.rest)
]

abbrev pub statement_name : ℕ → List Word → Told StatementText
statement_name end [] = statement_binders end None (binders_taken 0 end [])
statement_name end (w ∷ ws) =
    if is_plain w then statement_binders end (Some w) (binders_taken (length ws) end ws) else statement_binders end None (binders_taken (length (w ∷ ws)) end (w ∷ ws))

-- [TEXT] [name] binder .. : formula := by block
abbrev pub statement_told : ℕ → List Word → Told StatementText
statement_told end [] = statement_name end []
statement_told end (w ∷ ws) = if is_text w then statement_name end ws else statement_name end (w ∷ ws)
