-- Texts with a name that stands for nothing or is given twice, a number out of order, or an equation that is no recursion.
use Rattle.std.proofs.Common.{◌≡◌, refl}
use Rattle.std.specs.Prelude.{codes}
use Rattle.std.specs.Str.{chars}
use Rattle.pg_script.specs.Blocks.{block_at}
use Rattle.pg_script.specs.Scripts.{entries_of_tokens}
use Rattle.pg_gametext.proofs.Texts.{good, bad, no_world, told}
use Rattle.pg_gametext.specs.Faults.{Duplicate, LevelGap, NotRecursive, Unknown}

-- a name that stands for nothing
unknown : told (codes "World \"W\"\nLevel 1\nStatement : x = 0 := by rfl\n") ≡ bad 30 Unknown
unfolding chars lib.Utf8.encode block_at entries_of_tokens
unknown = refl

-- a number that is no constant
unknown_number : told (codes "World \"W\"\nLevel 1\nStatement : 1 = 0 := by rfl\n") ≡ bad 30 Unknown
unfolding chars lib.Utf8.encode block_at entries_of_tokens
unknown_number = refl

-- a sign that isn't declared
unknown_sign : told (codes "World \"W\"\nLevel 1\nStatement : 0 + 0 = 0 := by rfl\n") ≡ bad 32 Unknown
unfolding chars lib.Utf8.encode block_at entries_of_tokens
unknown_sign = refl

-- a variable of a later binder
later_variable : told (codes "World \"W\"\nLevel 1\nStatement (h : x = 0) (x : ℕ) : 0 = 0 := by rfl\n") ≡ bad 33 Unknown
unfolding chars lib.Utf8.encode block_at entries_of_tokens
later_variable = refl

-- a declaration that stands behind
later_declaration : told (codes "World \"W\"\nLevel 1\nStatement : c = 0 := by rfl\nConstant c := 0 as c_is\n") ≡ bad 30 Unknown
unfolding chars lib.Utf8.encode block_at entries_of_tokens
later_declaration = refl

-- a predicate in its own body
own_predicate : told (codes "Predicate p (x) := p x\n") ≡ bad 19 Unknown
unfolding chars lib.Utf8.encode block_at entries_of_tokens
own_predicate = refl

-- the last parameter in the equation at zero
last_parameter : told (codes "Function f (a d) | z : f a 0 = d | s : f a (succ d) = 0\n") ≡ bad 31 Unknown
unfolding chars lib.Utf8.encode block_at entries_of_tokens
last_parameter = refl

-- a constant is closed
open_constant : told (codes "Constant c := x as c_is\n") ≡ bad 14 Unknown
unfolding chars lib.Utf8.encode block_at entries_of_tokens
open_constant = refl

-- a name that is no move
no_move : told (codes "World \"W\"\nLevel 1\nStatement : 0 = 0 := by rfl\nNewTactic rfl simp\n") ≡ bad 60 Unknown
unfolding chars lib.Utf8.encode block_at entries_of_tokens
no_move = refl

-- a world that isn't there
no_world_there : told (codes "World \"A\" Level 1 Statement : 0 = 0 := by rfl\nDependency A → B → A\n") ≡ no_world 63
unfolding chars lib.Utf8.encode block_at entries_of_tokens
no_world_there = refl

-- which comes behind all faults with a place
world_behind_all : told (codes "World \"A\" Level 1 Statement : 0 = 0 := by rfl\nDependency A → B\nNewTactic simp\n") ≡ bad 75 Unknown
unfolding chars lib.Utf8.encode block_at entries_of_tokens
world_behind_all = refl

-- a world may stand behind
later_world : told (codes "World \"W\"\nLevel 1\nStatement : 0 = 0 := by rfl\nDependency W → V\nWorld \"V\" Level 1 Statement : 0 = 0 := by rfl\n") ≡ good
unfolding chars lib.Utf8.encode block_at entries_of_tokens
later_world = refl

-- a second statement
statement_twice : told (codes "World \"W\"\nLevel 1\nStatement : 0 = 0 := by rfl\nStatement : 0 = 0 := by rfl\n") ≡ bad 46 (Duplicate 18)
unfolding chars lib.Utf8.encode block_at entries_of_tokens
statement_twice = refl

-- a second title of a level
level_title_twice : told (codes "World \"W\"\nLevel 1\nTitle \"a\"\nTitle \"b\"\nStatement : 0 = 0 := by rfl\n") ≡ bad 28 (Duplicate 18)
unfolding chars lib.Utf8.encode block_at entries_of_tokens
level_title_twice = refl

-- a second introduction of a world, with others between
world_introduction_twice : told (codes "World \"W\" Introduction \"a\" World \"V\" World \"W\" Introduction \"b\"\n") ≡ bad 47 (Duplicate 10)
unfolding chars lib.Utf8.encode block_at entries_of_tokens
world_introduction_twice = refl

-- a second conclusion of the game
game_conclusion_twice : told (codes "Conclusion \"a\"\nTitle \"b\"\nConclusion \"c\"\n") ≡ bad 25 (Duplicate 0)
unfolding chars lib.Utf8.encode block_at entries_of_tokens
game_conclusion_twice = refl

-- a world's conclusion is passed over
world_conclusion_twice : told (codes "World \"W\" Conclusion \"a\" Conclusion \"b\" Level 1\nStatement : 0 = 0 := by rfl\n") ≡ good
unfolding chars lib.Utf8.encode block_at entries_of_tokens
world_conclusion_twice = refl

-- titles of a game, a world and a level
titles_of_each : told (codes "Title \"a\"\nWorld \"W\" Title \"b\"\nLevel 1 Title \"c\"\nStatement : 0 = 0 := by rfl\n") ≡ good
unfolding chars lib.Utf8.encode block_at entries_of_tokens
titles_of_each = refl

-- a second Game has no effect
two_games : told (codes "Game \"a\" Game \"b\"\nWorld \"W\"\nLevel 1\nStatement : 0 = 0 := by rfl\n") ≡ good
unfolding chars lib.Utf8.encode block_at entries_of_tokens
two_games = refl

-- the name of an axiom of the numbers
axiom_name : told (codes "World \"W\"\nLevel 1\nStatement succ_inj : 0 = 0 := by rfl\n") ≡ bad 28 (Duplicate 0)
unfolding chars lib.Utf8.encode block_at entries_of_tokens
axiom_name = refl

-- a theorem's name twice
theorem_twice : told (codes "World \"W\"\nLevel 1\nStatement foo : 0 = 0 := by rfl\nLevel 2 Statement foo : 0 = 0 := by rfl\n") ≡ bad 68 (Duplicate 28)
unfolding chars lib.Utf8.encode block_at entries_of_tokens
theorem_twice = refl

-- a function's name and a theorem's
function_and_theorem : told (codes "Function + (a d) | add_zero : a + 0 = a | add_succ : a + succ d = succ (a + d)\nWorld \"W\"\nLevel 1\nStatement add_zero : 0 = 0 := by rfl\n") ≡ bad 107 (Duplicate 19)
unfolding chars lib.Utf8.encode block_at entries_of_tokens
function_and_theorem = refl

-- two equations of one name
equations_alike : told (codes "Function f (d) | a : f 0 = 0 | a : f (succ d) = 0\nWorld \"W\"\nLevel 1\nStatement : 0 = 0 := by rfl\n") ≡ bad 31 (Duplicate 17)
unfolding chars lib.Utf8.encode block_at entries_of_tokens
equations_alike = refl

-- two spellings of a sign
two_spellings : told (codes "Predicate ≤ (a b) := a = b\nPredicate <= (a b) := a = b\n") ≡ bad 39 (Duplicate 10)
unfolding chars lib.Utf8.encode block_at entries_of_tokens
two_spellings = refl

-- two binders of one name
binder_twice : told (codes "World \"W\"\nLevel 1\nStatement (x x : ℕ) : x = 0 := by rfl\n") ≡ bad 31 (Duplicate 29)
unfolding chars lib.Utf8.encode block_at entries_of_tokens
binder_twice = refl

-- a hypothesis and a variable of one name
hypothesis_and_variable : told (codes "World \"W\"\nLevel 1\nStatement (x : ℕ) (h : x = 0) (x : x = 0) : x = 0 := by rfl\n") ≡ bad 51 (Duplicate 29)
unfolding chars lib.Utf8.encode block_at entries_of_tokens
hypothesis_and_variable = refl

-- a binder with a declared name
binder_declared : told (codes "Constant c := 0 as c_is\nWorld \"W\"\nLevel 1\nStatement (c : ℕ) : 0 = 0 := by rfl\n") ≡ bad 53 (Duplicate 9)
unfolding chars lib.Utf8.encode block_at entries_of_tokens
binder_declared = refl

-- the declaration may stand behind
declared_behind : told (codes "World \"W\"\nLevel 1\nStatement (c : ℕ) : 0 = 0 := by rfl\nConstant c := 0 as c_is\n") ≡ bad 65 (Duplicate 29)
unfolding chars lib.Utf8.encode block_at entries_of_tokens
declared_behind = refl

-- the least of two earlier places
first_is_least : told (codes "World \"W\"\nLevel 1\nStatement (x c : ℕ) : 0 = 0 := by rfl\nLevel 2 Statement c : 0 = 0 := by rfl\nConstant c := 0 as c_is\n") ≡ bad 105 (Duplicate 31)
unfolding chars lib.Utf8.encode block_at entries_of_tokens
first_is_least = refl

-- a theorem's name may name a binder
binder_and_theorem : told (codes "World \"W\"\nLevel 1\nStatement x (x : ℕ) : 0 = 0 := by rfl\n") ≡ good
unfolding chars lib.Utf8.encode block_at entries_of_tokens
binder_and_theorem = refl

-- two parameters of one name
parameter_twice : told (codes "Predicate p (x x) := x = x\n") ≡ bad 15 (Duplicate 13)
unfolding chars lib.Utf8.encode block_at entries_of_tokens
parameter_twice = refl

-- levels are numbered from 1
gap : told (codes "World \"W\"\nLevel 2\nStatement : 0 = 0 := by rfl\n") ≡ bad 16 (LevelGap 1)
unfolding chars lib.Utf8.encode block_at entries_of_tokens
gap = refl

-- one after the other
second_gap : told (codes "World \"W\"\nLevel 1\nStatement : 0 = 0 := by rfl\nLevel 3\nStatement : 0 = 0 := by rfl\n") ≡ bad 52 (LevelGap 2)
unfolding chars lib.Utf8.encode block_at entries_of_tokens
second_gap = refl

-- in each world
own_numbers : told (codes "World \"A\" Level 1 Statement : 0 = 0 := by rfl\nWorld \"B\" Level 1 Statement : 0 = 0 := by rfl\nWorld \"A\" Level 2 Statement : 0 = 0 := by rfl\n") ≡ good
unfolding chars lib.Utf8.encode block_at entries_of_tokens
own_numbers = refl

-- 01 is 1
leading_zero : told (codes "World \"W\"\nLevel 01\nStatement : 0 = 0 := by rfl\n") ≡ good
unfolding chars lib.Utf8.encode block_at entries_of_tokens
leading_zero = refl

-- recursion on something else
other_recursion : told (codes "Function f (d) | a : f 0 = 0 | b : f (succ d) = f 0\nWorld \"W\"\nLevel 1\nStatement : 0 = 0 := by rfl\n") ≡ bad 31 NotRecursive
unfolding chars lib.Utf8.encode block_at entries_of_tokens
other_recursion = refl

-- recursion at zero
recursion_at_zero : told (codes "Function f (d) | a : f 0 = f 0 | b : f (succ d) = f d\nWorld \"W\"\nLevel 1\nStatement : 0 = 0 := by rfl\n") ≡ bad 17 NotRecursive
unfolding chars lib.Utf8.encode block_at entries_of_tokens
recursion_at_zero = refl

-- recursion inside of recursion
recursion_inside : told (codes "Function f (d) | a : f 0 = 0 | b : f (succ d) = f (f d)\nWorld \"W\"\nLevel 1\nStatement : 0 = 0 := by rfl\n") ≡ bad 31 NotRecursive
unfolding chars lib.Utf8.encode block_at entries_of_tokens
recursion_inside = refl

-- another left side at zero
left_at_zero : told (codes "Function f (a d) | z : f 0 a = 0 | s : f a (succ d) = 0\nWorld \"W\"\nLevel 1\nStatement : 0 = 0 := by rfl\n") ≡ bad 19 NotRecursive
unfolding chars lib.Utf8.encode block_at entries_of_tokens
left_at_zero = refl

-- another left side at a successor
left_at_succ : told (codes "Function f (d) | a : f 0 = 0 | b : f d = 0\nWorld \"W\"\nLevel 1\nStatement : 0 = 0 := by rfl\n") ≡ bad 31 NotRecursive
unfolding chars lib.Utf8.encode block_at entries_of_tokens
left_at_succ = refl
