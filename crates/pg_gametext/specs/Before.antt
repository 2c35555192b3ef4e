-- What the commands before a place say. Each list of commands here has the nearest first.
use Rattle.std.specs.Prelude.{ℕ, suc, min, Bool, true, false, ◌&&◌, ◌||◌, List, [], ◌∷◌, ◌++◌, length, map, Option, Some, None, option_map, if◌then◌else◌, ◌==◌, nat_lt, codes}
use Rattle.std.specs.Char.{is_ascii_alphabetic, is_ascii_alphanumeric}
use Rattle.std.specs.Str.{bytes_eq, chars, encode_utf8_all}
use Rattle.std.specs.List.{list_any, list_all}
use Rattle.std.specs.Option.{option_or}
use Rattle.pg_base.specs.Meaning.{meaning}
use Rattle.pg_base.specs.Tokens.{Word}
use Rattle.pg_logic.specs.Declarations.{Name}
use Rattle.pg_gametext.specs.Forms.{declared_text, Equation, FunctionText, BinderText, variables, hypothesis}
use Rattle.pg_gametext.specs.Placed.{Which, Title, Introduction, Conclusion, Command, text, world, level, statement, function, constant, predicate, Placed}

-- what a text token means
abbrev pub text_of : Word → List ℕ
text_of w = encode_utf8_all (meaning (chars w.text))

-- ---- worlds and levels

abbrev pub is_world_letter : ℕ → Bool
is_world_letter c = is_ascii_alphanumeric c || (c == 95)

-- 1 to 32 ASCII letters, digits and `_`, the first a letter
abbrev pub is_world_name : List ℕ → Bool
is_world_name [] = false
is_world_name (c ∷ cs) = is_ascii_alphabetic c && list_all is_world_letter cs && nat_lt (length cs) 32

-- the name of the world that a text names
abbrev pub world_named : Option Word → Option Name
world_named t = option_map text_of t

-- the current world: the one of the nearest `World`
abbrev pub current_world : List Placed → Option Name
current_world [] = None
current_world (c ∷ before) = elim c.command [ world t ↦ world_named t.value | _ ↦ current_world before ]

-- whether a level is current: the nearest `World` or `Level` is a `Level`
abbrev pub in_level : List Placed → Bool
in_level [] = false
in_level (c ∷ before) = elim c.command [ world t ↦ false | level t ↦ true | _ ↦ in_level before ]

-- whether the current level has no statement yet
abbrev pub lacks_statement : List Placed → Bool
lacks_statement [] = false
lacks_statement (c ∷ before) = elim c.command [ world t ↦ false | level t ↦ true | statement t ↦ false | _ ↦ lacks_statement before ]

-- where the first statement of the current level stands
abbrev pub statement_place : List Placed → Option ℕ
statement_place [] = None
statement_place (c ∷ before) = elim c.command [ world t ↦ None | level t ↦ None | statement t ↦ option_or (statement_place before) (Some c.at) | _ ↦ statement_place before ]

-- a list with a name last, where it hasn't got it
abbrev pub with_name : Option Name → List Name → List Name
with_name None names = names
with_name (Some x) names = if list_any (bytes_eq x) names then names else names ++ x ∷ []

-- the worlds in the order of their first `World`
abbrev pub worlds : List Placed → List Name
worlds [] = []
worlds (c ∷ before) = elim c.command [ world t ↦ with_name (world_named t.value) (worlds before) | _ ↦ worlds before ]

-- whether there is a name, and the same
abbrev pub same_name : Option Name → Option Name → Bool
same_name (Some x) (Some y) = bytes_eq x y
same_name _ _ = false

-- how many levels the world has, 0 where there is none
abbrev pub levels_of : Option Name → List Placed → ℕ
levels_of x [] = 0
levels_of x (c ∷ before) = elim c.command [ level t ↦ if same_name x (current_world before) then suc (levels_of x before) else levels_of x before | _ ↦ levels_of x before ]

-- how many levels stand
abbrev pub level_count : List Placed → ℕ
level_count [] = 0
level_count (c ∷ before) = elim c.command [ level t ↦ suc (level_count before) | _ ↦ level_count before ]

-- ---- titles, introductions, conclusions

-- what they are of: the game, a world, a level by its number among all
pub data Holder : Type 0 where
  of_game : Holder
  of_world : Name → Holder
  of_level : ℕ → Holder

abbrev pub world_holder : Option Name → Holder
world_holder None = of_game
world_holder (Some x) = of_world x

abbrev pub holder : List Placed → Holder
holder before = if in_level before then of_level (level_count before) else world_holder (current_world before)

abbrev pub same_holder : Holder → Holder → Bool
same_holder of_game of_game = true
same_holder (of_world x) (of_world y) = bytes_eq x y
same_holder (of_level i) (of_level j) = i == j
same_holder _ _ = false

abbrev pub same_which : Which → Which → Bool
same_which Title Title = true
same_which Introduction Introduction = true
same_which Conclusion Conclusion = true
same_which _ _ = false

-- a world's `Conclusion` is passed over
abbrev pub counts : Which → Holder → Bool
counts Conclusion (of_world x) = false
counts which h = true

-- where the holder's first title, introduction or conclusion stands
abbrev pub text_place : Which → Holder → List Placed → Option ℕ
text_place which h [] = None
text_place which h (c ∷ before) =
    elim c.command [ text w t ↦ if same_which which w && same_holder h (holder before) then option_or (text_place which h before) (Some c.at) else text_place which h before | _ ↦ text_place which h before ]

-- ---- names

-- a name and where it was given; `declared` where it is a function's, a constant's or a predicate's
pub record Given : Type 0 where
  pub name : Name
  pub at : ℕ
  pub declared : Bool

abbrev pub given_by : (declared : Bool) → Option Word → List Given
given_by declared None = []
given_by declared (Some w) = record { name = declared_text w; at = w.at; declared = declared } ∷ []

abbrev pub equation_name : Option Equation → Option Word
equation_name = option_map (λ (e : Equation). e.name)

abbrev pub function_names : FunctionText → List Given
function_names f = given_by true f.name ++ (given_by false (equation_name f.at_zero) ++ given_by false (equation_name f.at_succ))

-- the names that a command gives, in their order
abbrev pub names_given : Command → List Given
names_given (function t) = function_names t.value
names_given (constant t) = given_by true t.value.name ++ given_by false t.value.equation_name
names_given (predicate t) = given_by true t.value.name
names_given (statement t) = given_by false t.value.name
names_given _ = []

abbrev pub builtin_names : List Given
builtin_names = record { name = codes "succ_inj"; at = 0; declared = false } ∷ record { name = codes "zero_ne_succ"; at = 0; declared = false } ∷ []

abbrev pub names : List Placed → List Given
names [] = builtin_names
names (c ∷ before) = names_given c.command ++ names before

-- the names of variables and hypotheses
abbrev pub binder_words : BinderText → List Word
binder_words (variables ws) = ws
binder_words (hypothesis h p) = h ∷ []

abbrev pub all_binder_words : List BinderText → List Word
all_binder_words [] = []
all_binder_words (b ∷ bs) = binder_words b ++ all_binder_words bs

abbrev pub bound_name : Word → Given
bound_name w = record { name = w.text; at = w.at; declared = false }

abbrev pub names_bound : Command → List Given
names_bound (statement t) = map bound_name (all_binder_words t.value.binders)
names_bound _ = []

abbrev pub bound_names : List Placed → List Given
bound_names [] = []
bound_names (c ∷ before) = names_bound c.command ++ bound_names before

abbrev pub only_declared : List Given → List Given
only_declared [] = []
only_declared (g ∷ gs) = if g.declared then g ∷ only_declared gs else only_declared gs

abbrev pub least_with : ℕ → Option ℕ → Option ℕ
least_with at None = Some at
least_with at (Some other) = Some (min at other)

-- the least place at which the name was given
abbrev pub first_place : Name → List Given → Option ℕ
first_place x [] = None
first_place x (g ∷ gs) = if bytes_eq x g.name then least_with g.at (first_place x gs) else first_place x gs

-- ---- counts

abbrev pub function_count : List Placed → ℕ
function_count [] = 0
function_count (c ∷ before) = elim c.command [ function t ↦ suc (function_count before) | constant t ↦ suc (function_count before) | _ ↦ function_count before ]

abbrev pub predicate_count : List Placed → ℕ
predicate_count [] = 0
predicate_count (c ∷ before) = elim c.command [ predicate t ↦ suc (predicate_count before) | _ ↦ predicate_count before ]
