-- The faults of one command, behind the commands before it, the nearest first.
use Rattle.std.specs.Prelude.{ℕ, suc, ◌+◌, ◌-◌, ◌*◌, Bool, true, false, ◌&&◌, ◌||◌, not, List, [], ◌∷◌, ◌++◌, length, map, take, drop, flat_map, Option, Some, None, Result, Ok, Err, if◌then◌else◌, ◌==◌, codes}
use Rattle.std.specs.Str.{bytes_eq}
use Rattle.std.specs.List.{list_any}
use Rattle.pg_base.specs.declared.token.TokenKind.TheVariants as kind
use Rattle.pg_base.specs.Spans.{token_end}
use Rattle.pg_base.specs.Tokens.{Word}
use Rattle.pg_logic.specs.Tree.{Tm, Fm}
use Rattle.pg_logic.specs.Axioms.{constant_axiom}
use Rattle.pg_logic.specs.Declarations.{Name, Declarations, arity_limit}
use Rattle.pg_script.specs.declared.fault.ScriptFault.{ScriptFault}
use Rattle.pg_script.specs.declared.fault.ScriptFault.TheVariants as script
use Rattle.pg_script.specs.Data.{Part, Entry, move, focus, branch, hint, Entries, none, entry, entries_of}
use Rattle.pg_script.specs.Scripts.{items_of, last_end}
use Rattle.pg_worlds.specs.declared.tactic_name.TacticName.{TacticName}
use Rattle.pg_worlds.specs.declared.tactic_name.TacticName.TheVariants.{Rfl, Rw, Induction, Intro, Exact, Apply, Cases, Left, Right, Constructor, Use, Symm, Exfalso, Have, Revert, ByCases}
use Rattle.pg_worlds.specs.Moves.{word_of}
use Rattle.pg_script.specs.Marks.{place}
use Rattle.pg_gametext.specs.Commands.{is_word}
use Rattle.pg_gametext.specs.Faults.{Fault, fault, world_limit, level_limit, function_limit, predicate_limit, variable_limit, hypothesis_limit, hint_limit, one_more, one_over, Expected, Unknown, Duplicate, LevelGap, Limit, Worlds, Levels, Functions, Predicates, Arity, Nesting, Variables, Hypotheses, ScriptBytes, Steps, Blocks, Hints, fault_if, stuck_fault, answer_faults, answer_value, size_faults}
use Rattle.pg_gametext.specs.Forms.{is_open, Equation, FunctionText, ConstantText, PredicateText, StatementText, BinderText, variables, hypothesis}
use Rattle.pg_gametext.specs.Placed.{Which, Command, game, text, world, level, statement, tactics, theorems, dependency, function, constant, predicate, passed, no_command, Placed}
use Rattle.pg_gametext.specs.Before.{text_of, is_world_name, current_world, in_level, lacks_statement, statement_place, worlds, levels_of, holder, counts, text_place, Given, names_given, names, bound_name, bound_names, all_binder_words, only_declared, first_place, function_count, predicate_count}
use Rattle.pg_gametext.specs.Reading.{texts, declarations, formula_of_part, term_of_part, zero_sides, succ_sides, zero_faults, succ_faults, name_or_none, formulas_faults}

-- ---- places

-- out of its place
abbrev pub out_of_place : Bool → ℕ → List Fault
out_of_place misplaced at = fault_if misplaced at Expected

-- a name that clashes with one given before
abbrev pub clash_fault : ℕ → Option ℕ → List Fault
clash_fault at None = []
clash_fault at (Some first) = fault at (Duplicate first) ∷ []

-- ---- names

-- Functions, constants, predicates and theorems share no name; and no variable or hypothesis has a declared name.
abbrev pub given_faults : (given bound : List Given) → List Given → List Fault
given_faults given bound [] = []
given_faults given bound (g ∷ gs) =
    clash_fault g.at (first_place g.name (if g.declared then given ++ bound else given)) ++ given_faults (g ∷ given) bound gs

-- each name differs from these and from those before it
abbrev pub differing_faults : List Given → List Given → List Fault
differing_faults taken [] = []
differing_faults taken (g ∷ gs) = clash_fault g.at (first_place g.name taken) ++ differing_faults (g ∷ taken) gs

abbrev pub parameter_faults : List Word → List Fault
parameter_faults params = differing_faults [] (map bound_name params)

-- ---- levels

abbrev pub digits_value : ℕ → List ℕ → ℕ
digits_value n [] = n
digits_value n (c ∷ cs) = digits_value (n * 10 + (c - 48)) cs

abbrev pub number_faults : ℕ → Option Word → List Fault
number_faults expected None = []
number_faults expected (Some w) = fault_if (not (digits_value 0 w.text == expected)) w.at (LevelGap expected)

abbrev pub has_no_world : Option Name → Bool
has_no_world None = true
has_no_world (Some x) = false

abbrev pub level_faults : List Placed → ℕ → Option Word → List Fault
level_faults before at number =
    let n = levels_of (current_world before) before in
    out_of_place (lacks_statement before || has_no_world (current_world before)) at
    ++ (one_more Levels level_limit n at ++ number_faults (suc n) number)

-- ---- worlds

abbrev pub world_faults_of : List Placed → ℕ → Word → List Fault
world_faults_of before at t =
    if is_world_name (text_of t) then (if list_any (bytes_eq (text_of t)) (worlds before) then [] else one_more Worlds world_limit (length (worlds before)) at)
    else fault t.at Expected ∷ []

abbrev pub world_faults : List Placed → ℕ → Option Word → List Fault
world_faults before at None = out_of_place (lacks_statement before) at
world_faults before at (Some t) = out_of_place (lacks_statement before) at ++ world_faults_of before at t

-- ---- titles, introductions, conclusions

abbrev pub text_faults : List Placed → ℕ → Which → List Fault
text_faults before at which = if counts which (holder before) then clash_fault at (text_place which (holder before) before) else []

-- ---- moves

abbrev pub moves : List TacticName
moves = Rfl ∷ Rw ∷ Induction ∷ Intro ∷ Exact ∷ Apply ∷ Cases ∷ Left ∷ Right ∷ Constructor ∷ Use ∷ Symm ∷ Exfalso ∷ Have ∷ Revert ∷ ByCases ∷ []

abbrev pub move_faults : List Word → List Fault
move_faults [] = []
move_faults (w ∷ ws) = fault_if (not (list_any (λ t. bytes_eq w.text (word_of t)) moves)) w.at Unknown ++ move_faults ws

-- ---- declarations

abbrev pub zero_equation_faults : Declarations → FunctionText → Option Equation → List Fault
zero_equation_faults d f None = []
zero_equation_faults d f (Some e) = zero_faults (length d.functions) f.params e.name.at (zero_sides d (name_or_none f.name) f.params e)

abbrev pub succ_equation_faults : Declarations → FunctionText → Option Equation → List Fault
succ_equation_faults d f None = []
succ_equation_faults d f (Some e) = succ_faults (length d.functions) f.params e.name.at (succ_sides d (name_or_none f.name) f.params e)

abbrev pub function_faults : List Placed → ℕ → FunctionText → List Fault
function_faults before at f =
    let d = declarations before in
    one_more Functions function_limit (function_count before) at
    ++ (parameter_faults f.params ++ (one_over Arity arity_limit f.params ++ (zero_equation_faults d f f.at_zero ++ succ_equation_faults d f f.at_succ)))

-- the axiom of the constant of this number, `c = body`, is measured
abbrev pub constant_size : (number at : ℕ) → Option Tm → List Fault
constant_size number at None = []
constant_size number at (Some t) = size_faults at (constant_axiom number t)

abbrev pub constant_body_faults : Declarations → ℕ → Option Part → List Fault
constant_body_faults d at None = []
constant_body_faults d at (Some p) = let a = term_of_part [] d p in answer_faults a ++ constant_size (length d.functions) at (answer_value a)

abbrev pub constant_faults : List Placed → ℕ → ConstantText → List Fault
constant_faults before at c = one_more Functions function_limit (function_count before) at ++ constant_body_faults (declarations before) at c.body

abbrev pub part_place : Part → ℕ
part_place p = place p.end p.tokens

abbrev pub predicate_size : ℕ → Option Fm → List Fault
predicate_size at None = []
predicate_size at (Some a) = size_faults at a

abbrev pub predicate_body_faults : Declarations → List Word → Option Part → List Fault
predicate_body_faults d params None = []
predicate_body_faults d params (Some p) = let a = formula_of_part (texts params) d p in answer_faults a ++ predicate_size (part_place p) (answer_value a)

abbrev pub predicate_faults : List Placed → ℕ → PredicateText → List Fault
predicate_faults before at p =
    one_more Predicates predicate_limit (predicate_count before) at
    ++ (parameter_faults p.params ++ (one_over Arity arity_limit p.params ++ predicate_body_faults (declarations before) p.params p.body))

-- ---- samples

-- the block `sorry` alone is no sample
abbrev pub is_sorry : Part → Bool
is_sorry p = elim p.tokens [ w ∷ [] ↦ is_word (codes "sorry") w | _ ↦ false ]

-- whether a `(` stands at this place
abbrev pub opens_at : ℕ → List Word → Bool
opens_at at ws = list_any (λ (w : Word). (w.at == at) && is_open w) ws

abbrev pub span : List Word → ℕ
span [] = 0
span (w ∷ ws) = last_end w.at (w ∷ ws) - w.at

abbrev pub script_faults : Part → Result (List Entry) ScriptFault → List Fault
script_faults p (Ok es) = []
script_faults p (Err (script.Expected at what)) = fault at Expected ∷ []
script_faults p (Err (script.TooLong at)) = fault at (Limit ScriptBytes (span p.tokens)) ∷ []
script_faults p (Err (script.TooMany at)) = fault at (Limit Steps 201) ∷ []
script_faults p (Err (script.Deep at)) = fault at (if opens_at at p.tokens then Limit Nesting 101 else Limit Blocks 17) ∷ []
script_faults p (Err _) = []

abbrev pub block_faults : Option Part → List Fault
block_faults None = []
block_faults (Some p) = if is_sorry p then [] else script_faults p (items_of p.tokens p.end true)

-- ---- hints

-- the places of the hints of a script
abbrev mutual
  pub hints_in : Entry → List ℕ
  hints_in (move m) = []
  hints_in (focus es) = hints_in_all es
  hints_in (branch es) = hints_in_all es
  hints_in (hint h) = h.at ∷ []

  pub hints_in_all : Entries → List ℕ
  hints_in_all none = []
  hints_in_all (entry e es) = hints_in e ++ hints_in_all es

abbrev pub hints_of : Result (List Entry) ScriptFault → List ℕ
hints_of (Ok es) = hints_in_all (entries_of es)
hints_of (Err e) = []

-- an empty text right behind this word, which makes a word `Hint` a hint
abbrev pub some_text : Word → Word
some_text w = record { kind = kind.Text; text = []; at = token_end w; column = w.column; first = false }

-- whether this token, behind this front of a block, is the word of a hint: with a text behind it a script ends in that hint
abbrev pub is_hint_word : List Word → Word → Bool
is_hint_word front w =
    is_word (codes "Hint") w && list_any (λ at. at == w.at) (hints_of (items_of (front ++ w ∷ some_text w ∷ []) (token_end (some_text w)) true))

-- the words of hints in a block that is broken somewhere behind them
abbrev pub hint_words : (front ws : List Word) → List ℕ
hint_words front [] = []
hint_words front (w ∷ ws) = if is_hint_word front w then w.at ∷ hint_words (front ++ w ∷ []) ws else hint_words (front ++ w ∷ []) ws

abbrev pub hints_or_words : List Word → Result (List Entry) ScriptFault → List ℕ
hints_or_words ws (Ok es) = hints_in_all (entries_of es)
hints_or_words ws (Err e) = hint_words [] ws

abbrev pub block_hints : Option Part → List ℕ
block_hints None = []
block_hints (Some p) = hints_or_words p.tokens (items_of p.tokens p.end true)

abbrev pub command_hints : Command → List ℕ
command_hints (statement t) = block_hints t.value.block
command_hints _ = []

abbrev pub hint_count : List Placed → ℕ
hint_count [] = 0
hint_count (c ∷ before) = length (command_hints c.command) + hint_count before

-- of the hints at these places, behind so many, the first that is too many
abbrev pub hint_faults : ℕ → List ℕ → List Fault
hint_faults n places = flat_map (λ at. fault at (Limit Hints (suc hint_limit)) ∷ []) (take 1 (drop (hint_limit - n) places))

abbrev pub hints_over : List Placed → Option Part → List Fault
hints_over before block = hint_faults (hint_count before) (block_hints block)

-- ---- statements

abbrev pub variable_words : List BinderText → List Word
variable_words [] = []
variable_words (variables ws ∷ bs) = ws ++ variable_words bs
variable_words (hypothesis h p ∷ bs) = variable_words bs

abbrev pub hypothesis_words : List BinderText → List Word
hypothesis_words [] = []
hypothesis_words (variables ws ∷ bs) = hypothesis_words bs
hypothesis_words (hypothesis h p ∷ bs) = h ∷ hypothesis_words bs

abbrev pub statement_faults : List Placed → ℕ → StatementText → List Fault
statement_faults before at t =
    out_of_place (not (in_level before)) at
    ++ (clash_fault at (statement_place before)
    ++ (differing_faults (only_declared (names before)) (map bound_name (all_binder_words t.binders))
    ++ (one_over Variables variable_limit (variable_words t.binders)
    ++ (one_over Hypotheses hypothesis_limit (hypothesis_words t.binders)
    ++ (formulas_faults (declarations before) at t
    ++ (hints_over before t.block ++ block_faults t.block))))))

-- ---- all

-- the faults of a command but the one of its form and those of the names that it gives
abbrev pub own_faults : List Placed → ℕ → Command → List Fault
own_faults before at (text which t) = text_faults before at which
own_faults before at (world t) = world_faults before at t.value
own_faults before at (level t) = level_faults before at t.value
own_faults before at (statement t) = statement_faults before at t.value
own_faults before at (tactics which t) = out_of_place (not (in_level before)) at ++ move_faults t.value
own_faults before at (theorems which t) = out_of_place (not (in_level before)) at
own_faults before at (function t) = function_faults before at t.value
own_faults before at (constant t) = constant_faults before at t.value
own_faults before at (predicate t) = predicate_faults before at t.value
own_faults before at no_command = fault at Expected ∷ []
own_faults before at _ = []

-- where its form breaks off
abbrev pub stuck_of : Command → Option ℕ
stuck_of (game t) = t.stuck
stuck_of (text which t) = t.stuck
stuck_of (world t) = t.stuck
stuck_of (level t) = t.stuck
stuck_of (statement t) = t.stuck
stuck_of (tactics which t) = t.stuck
stuck_of (theorems which t) = t.stuck
stuck_of (dependency t) = t.stuck
stuck_of (function t) = t.stuck
stuck_of (constant t) = t.stuck
stuck_of (predicate t) = t.stuck
stuck_of passed = None
stuck_of no_command = None

-- the faults of a command, behind those before it
abbrev pub command_faults : List Placed → Placed → List Fault
command_faults before c =
    stuck_fault (stuck_of c.command) ++ (given_faults (names before) (bound_names before) (names_given c.command) ++ own_faults before c.at c.command)
