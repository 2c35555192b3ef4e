-- Texts with the fault of a token or with a form that breaks off.
use Rattle.std.proofs.Common.{◌≡◌, refl}
use Rattle.std.specs.Prelude.{codes}
use Rattle.std.specs.Str.{chars}
use Rattle.pg_script.specs.Blocks.{block_at}
use Rattle.pg_script.specs.Scripts.{entries_of_tokens}
use Rattle.pg_gametext.proofs.Texts.{good, bad, told}
use Rattle.pg_gametext.specs.Faults.{BadToken, Expected, Unknown}

-- a text must have a level
empty : told (codes "") ≡ bad 0 Expected
unfolding chars lib.Utf8.encode block_at entries_of_tokens
empty = refl

-- the same behind a world
no_level : told (codes "World \"W\"\n") ≡ bad 10 Expected
unfolding chars lib.Utf8.encode block_at entries_of_tokens
no_level = refl

-- a level without a statement
no_statement_at_end : told (codes "World \"W\"\nLevel 1\n") ≡ bad 18 Expected
unfolding chars lib.Utf8.encode block_at entries_of_tokens
no_statement_at_end = refl

-- at the next level
no_statement_at_level : told (codes "World \"W\"\nLevel 1\nLevel 2\nStatement : 0 = 0 := by rfl\n") ≡ bad 18 Expected
unfolding chars lib.Utf8.encode block_at entries_of_tokens
no_statement_at_level = refl

-- at the next world
no_statement_at_world : told (codes "World \"W\"\nLevel 1\nWorld \"V\"\n") ≡ bad 18 Expected
unfolding chars lib.Utf8.encode block_at entries_of_tokens
no_statement_at_world = refl

-- a level needs a world
level_without_world : told (codes "Level 1\nStatement : 0 = 0 := by rfl\n") ≡ bad 0 Expected
unfolding chars lib.Utf8.encode block_at entries_of_tokens
level_without_world = refl

-- a statement stands in a level
statement_outside : told (codes "World \"W\"\nStatement : 0 = 0 := by rfl\n") ≡ bad 10 Expected
unfolding chars lib.Utf8.encode block_at entries_of_tokens
statement_outside = refl

-- so do lists of moves
moves_outside : told (codes "NewTactic rfl\n") ≡ bad 0 Expected
unfolding chars lib.Utf8.encode block_at entries_of_tokens
moves_outside = refl

-- and of theorems, behind a new world too
theorems_outside : told (codes "World \"W\"\nLevel 1\nStatement : 0 = 0 := by rfl\nWorld \"V\"\nOnlyTheorem foo\n") ≡ bad 56 Expected
unfolding chars lib.Utf8.encode block_at entries_of_tokens
theorems_outside = refl

-- a text begins with a command
no_command : told (codes "Worlds \"W\"\n") ≡ bad 0 Expected
unfolding chars lib.Utf8.encode block_at entries_of_tokens
no_command = refl

-- a world's name begins with a letter
world_letter : told (codes "World \"_a\"\n") ≡ bad 6 Expected
unfolding chars lib.Utf8.encode block_at entries_of_tokens
world_letter = refl

-- and has at most 32 bytes
world_long : told (codes "World \"abcdefghijklmnopqrstuvwxyzabcdefg\"\n") ≡ bad 6 Expected
unfolding chars lib.Utf8.encode block_at entries_of_tokens
world_long = refl

-- 32 are taken
world_32 : told (codes "World \"abcdefghijklmnopqrstuvwxyzabcdef\"\nLevel 1\nStatement : 0 = 0 := by rfl\n") ≡ good
unfolding chars lib.Utf8.encode block_at entries_of_tokens
world_32 = refl

-- a world has a text
world_number : told (codes "World 3\n") ≡ bad 6 Expected
unfolding chars lib.Utf8.encode block_at entries_of_tokens
world_number = refl

-- a level has a number
level_name : told (codes "World \"W\"\nLevel one\n") ≡ bad 16 Expected
unfolding chars lib.Utf8.encode block_at entries_of_tokens
level_name = refl

-- nothing stands behind a title's text
extra_token : told (codes "Title \"a\" \"b\"\nWorld \"W\"\nLevel 1\nStatement : 0 = 0 := by rfl\n") ≡ bad 10 Expected
unfolding chars lib.Utf8.encode block_at entries_of_tokens
extra_token = refl

-- the text of a title is missing at the next command
missing_text : told (codes "Title\nWorld \"W\"\nLevel 1\nStatement : 0 = 0 := by rfl\n") ≡ bad 6 Expected
unfolding chars lib.Utf8.encode block_at entries_of_tokens
missing_text = refl

-- a statement's text stands before its name
name_behind_text : told (codes "World \"W\"\nLevel 1\nStatement foo \"x\" : 0 = 0 := by sorry\n") ≡ bad 32 Expected
unfolding chars lib.Utf8.encode block_at entries_of_tokens
name_behind_text = refl

-- which is passed over
text_before_name : told (codes "World \"W\"\nLevel 1\nStatement \"x\" foo : 0 = 0 := by sorry\n") ≡ good
unfolding chars lib.Utf8.encode block_at entries_of_tokens
text_before_name = refl

-- a hypothesis has one name
two_hypotheses : told (codes "World \"W\"\nLevel 1\nStatement (h g : 0 = 0) : 0 = 0 := by rfl\n") ≡ bad 35 Expected
unfolding chars lib.Utf8.encode block_at entries_of_tokens
two_hypotheses = refl

-- behind ℕ a binder ends
typed_and_more : told (codes "World \"W\"\nLevel 1\nStatement (x : ℕ + 0) : 0 = 0 := by rfl\n") ≡ bad 37 Expected
unfolding chars lib.Utf8.encode block_at entries_of_tokens
typed_and_more = refl

-- a reserved word names no binder
reserved_binder : told (codes "World \"W\"\nLevel 1\nStatement (by : ℕ) : 0 = 0 := by rfl\n") ≡ bad 29 Expected
unfolding chars lib.Utf8.encode block_at entries_of_tokens
reserved_binder = refl

-- a hypothesis goes up to the parenthesis outside its own
nested_hypothesis : told (codes "World \"W\"\nLevel 1\nStatement (h : (0 = 0)) : 0 = 0 := by rfl\n") ≡ good
unfolding chars lib.Utf8.encode block_at entries_of_tokens
nested_hypothesis = refl

-- a hypothesis has a formula
empty_hypothesis : told (codes "World \"W\"\nLevel 1\nStatement (h : ) : 0 = 0 := by rfl\n") ≡ bad 33 Expected
unfolding chars lib.Utf8.encode block_at entries_of_tokens
empty_hypothesis = refl

-- behind := stands by
no_by : told (codes "World \"W\"\nLevel 1\nStatement : 0 = 0 := rfl\n") ≡ bad 39 Expected
unfolding chars lib.Utf8.encode block_at entries_of_tokens
no_by = refl

-- and a block
no_block : told (codes "World \"W\"\nLevel 1\nStatement : 0 = 0 := by\nNewTactic rfl\n") ≡ bad 42 Expected
unfolding chars lib.Utf8.encode block_at entries_of_tokens
no_block = refl

-- sorry is no move
sorry_and_more : told (codes "World \"W\"\nLevel 1\nStatement : 0 = 0 := by sorry rfl\n") ≡ bad 42 Expected
unfolding chars lib.Utf8.encode block_at entries_of_tokens
sorry_and_more = refl

-- a block ends at a smaller column
block_ends : told (codes "World \"W\"\nLevel 1\n  Statement : 0 = 0 := by\n     rfl\n   foo\n") ≡ bad 56 Expected
unfolding chars lib.Utf8.encode block_at entries_of_tokens
block_ends = refl

-- the fault of a script
script_fault : told (codes "World \"W\"\nLevel 1\nStatement : 0 = 0 := by\n  rw add\n") ≡ bad 47 Expected
unfolding chars lib.Utf8.encode block_at entries_of_tokens
script_fault = refl

-- the fault of a formula
formula_fault : told (codes "World \"W\"\nLevel 1\nStatement : 0 = = 0 := by rfl\n") ≡ bad 34 Expected
unfolding chars lib.Utf8.encode block_at entries_of_tokens
formula_fault = refl

-- something is missing at its end
formula_missing : told (codes "World \"W\"\nLevel 1\nStatement : 0 = := by rfl\n") ≡ bad 34 Expected
unfolding chars lib.Utf8.encode block_at entries_of_tokens
formula_missing = refl

-- another number of arguments
arity : told (codes "Function + (a d) | add_zero : a + 0 = a | add_succ : a + succ d = succ (a + d)\nWorld \"W\"\nLevel 1\nStatement : + 0 = 0 := by rfl\n") ≡ bad 109 Expected
unfolding chars lib.Utf8.encode block_at entries_of_tokens
arity = refl

-- the same of a constant
arity_of_constant : told (codes "Constant c := 0 as c_is\nWorld \"W\"\nLevel 1\nStatement : c 0 = 0 := by rfl\n") ≡ bad 54 Expected
unfolding chars lib.Utf8.encode block_at entries_of_tokens
arity_of_constant = refl

-- at least one name
no_names : told (codes "World \"W\"\nLevel 1\nStatement : 0 = 0 := by rfl\nNewTactic\nNewTheorem foo\n") ≡ bad 56 Expected
unfolding chars lib.Utf8.encode block_at entries_of_tokens
no_names = refl

-- at least two worlds
one_world : told (codes "World \"W\"\nLevel 1\nStatement : 0 = 0 := by rfl\nDependency W ") ≡ bad 59 Expected
unfolding chars lib.Utf8.encode block_at entries_of_tokens
one_world = refl

-- a world behind each arrow
arrow_last : told (codes "World \"W\"\nLevel 1\nStatement : 0 = 0 := by rfl\nDependency W → W →\nNewTactic rfl\n") ≡ bad 69 Expected
unfolding chars lib.Utf8.encode block_at entries_of_tokens
arrow_last = refl

-- a reserved word is no world's name there
reserved_dependency : told (codes "World \"W\"\nLevel 1\nStatement : 0 = 0 := by rfl\nDependency W → succ\n") ≡ bad 63 Expected
unfolding chars lib.Utf8.encode block_at entries_of_tokens
reserved_dependency = refl

-- a sign has two parameters
sign_with_one : told (codes "Function + (a) | z : a + 0 = 0 | s : a + 0 = 0\n") ≡ bad 13 Expected
unfolding chars lib.Utf8.encode block_at entries_of_tokens
sign_with_one = refl

-- and no more
sign_with_three : told (codes "Predicate ≤ (a b c) := a = b\n") ≡ bad 19 Expected
unfolding chars lib.Utf8.encode block_at entries_of_tokens
sign_with_three = refl

-- a function has one at least
no_parameter : told (codes "Function f () | z : 0 = 0 | s : 0 = 0\n") ≡ bad 12 Expected
unfolding chars lib.Utf8.encode block_at entries_of_tokens
no_parameter = refl

-- a predicate without parameters has no parentheses
empty_parentheses : told (codes "Predicate p () := 0 = 0\n") ≡ bad 13 Expected
unfolding chars lib.Utf8.encode block_at entries_of_tokens
empty_parentheses = refl

-- a function has two equations
one_equation : told (codes "Function f (d) | z : f 0 = 0\nWorld \"W\"\nLevel 1\nStatement : 0 = 0 := by rfl\n") ≡ bad 29 Expected
unfolding chars lib.Utf8.encode block_at entries_of_tokens
one_equation = refl

-- and no more
third_equation : told (codes "Function f (d) | z : f 0 = 0 | s : f (succ d) = 0 | t : 0 = 0\n") ≡ bad 50 Expected
unfolding chars lib.Utf8.encode block_at entries_of_tokens
third_equation = refl

-- an equation has no other sign outside parentheses
other_sign : told (codes "Function f (d) | z : f 0 ≤ 0 | s : f (succ d) = 0\n") ≡ bad 25 Expected
unfolding chars lib.Utf8.encode block_at entries_of_tokens
other_sign = refl

-- and one =
two_equals : told (codes "Function f (d) | z : f 0 = 0 = 0 | s : f (succ d) = 0\n") ≡ bad 29 Expected
unfolding chars lib.Utf8.encode block_at entries_of_tokens
two_equals = refl

-- which it has
no_equals : told (codes "Function f (d) | z : (f 0 = 0) | s : f (succ d) = 0\n") ≡ bad 31 Expected
unfolding chars lib.Utf8.encode block_at entries_of_tokens
no_equals = refl

-- its sides are terms
quantified_side : told (codes "Function f (d) | z : f 0 = ∀ x, x = x | s : f (succ d) = 0\n") ≡ bad 27 Expected
unfolding chars lib.Utf8.encode block_at entries_of_tokens
quantified_side = refl

-- 0 is no constant
zero_constant : told (codes "Constant 0 := 0 as z\n") ≡ bad 9 Expected
unfolding chars lib.Utf8.encode block_at entries_of_tokens
zero_constant = refl

-- a constant's axiom has a name
constant_without_name : told (codes "Constant c := 0\nWorld \"W\"\nLevel 1\nStatement : 0 = 0 := by rfl\n") ≡ bad 16 Expected
unfolding chars lib.Utf8.encode block_at entries_of_tokens
constant_without_name = refl

-- no token begins so
bad_byte : told (codes "World \"W\"\nLevel 1\nStatement : 0 = 0 $ := by rfl\n") ≡ bad 36 BadToken
unfolding chars lib.Utf8.encode block_at entries_of_tokens
bad_byte = refl

-- what stands before it counts first
bad_byte_first : told (codes "World \"W\"\nLevel 1\nStatement : foo = 0 $\n") ≡ bad 30 Unknown
unfolding chars lib.Utf8.encode block_at entries_of_tokens
bad_byte_first = refl

-- it counts on a line that is passed over too
bad_byte_passed : told (codes "namespace $\nWorld \"W\"\nLevel 1\nStatement : 0 = 0 := by rfl\n") ≡ bad 10 BadToken
unfolding chars lib.Utf8.encode block_at entries_of_tokens
bad_byte_passed = refl

-- at one place it comes first
bad_byte_at_end : told (codes "World \"W\"\nLevel 1\nStatement : 0 = 0 := by rfl\nLevel 2\n$") ≡ bad 54 BadToken
unfolding chars lib.Utf8.encode block_at entries_of_tokens
bad_byte_at_end = refl

-- a text that is not ended
open_text : told (codes "World \"W\n") ≡ bad 6 BadToken
unfolding chars lib.Utf8.encode block_at entries_of_tokens
open_text = refl

-- a comment that is not ended
open_comment : told (codes "World \"W\"\nLevel 1\nStatement : 0 = 0 := by rfl\n/- a") ≡ bad 46 BadToken
unfolding chars lib.Utf8.encode block_at entries_of_tokens
open_comment = refl

-- a name of 49 bytes
long_name : told (codes "World \"W\"\nLevel 1\nStatement : 0 = 0 := by rfl\nNewTheorem aaaaaaaaaaaaaaaaaaaaaaaaaaaaaaaaaaaaaaaaaaaaaaaaa\n") ≡ bad 57 BadToken
unfolding chars lib.Utf8.encode block_at entries_of_tokens
long_name = refl

-- lines that are passed over
passed_lines : told (codes "import A.B\nnamespace W open\nopen x\nWorld \"W\"\nLevel 1\nStatement : 0 = 0 := by rfl\nend W\n") ≡ good
unfolding chars lib.Utf8.encode block_at entries_of_tokens
passed_lines = refl

-- a line that begins further right is none
indented_end : told (codes "World \"W\"\nLevel 1\nStatement : 0 = 0 := by rfl\n end W\n") ≡ bad 47 Expected
unfolding chars lib.Utf8.encode block_at entries_of_tokens
indented_end = refl

-- commands that are passed over
passed_commands : told (codes "TacticDoc rfl \"World\" Level x World\nTheoremDoc MyNat.add \"a\" 3 \"Level\"\nWorld \"W\"\nLevel 1\nStatement : 0 = 0 := by rfl\nMakeGame\n") ≡ good
unfolding chars lib.Utf8.encode block_at entries_of_tokens
passed_commands = refl
