-- Texts at a limit and one over it.
use Rattle.std.proofs.Common.{◌≡◌, ◌++◌, refl}
use Rattle.std.specs.Prelude.{codes}
use Rattle.std.specs.Str.{chars}
use Rattle.pg_script.specs.Blocks.{block_at}
use Rattle.pg_script.specs.Scripts.{entries_of_tokens}
use Rattle.pg_gametext.proofs.Texts.{good, bad, told, decimal, repeated, numbered}
use Rattle.pg_gametext.specs.Faults.{Arity, Blocks, Functions, Height, Hypotheses, Levels, Limit, Nesting, Predicates, Steps, Variables, Worlds}

-- 64 worlds
worlds_64 : told (numbered 0 63 (λ k. codes "World \"W" ++ decimal k ++ codes "\"\n") ++ codes "World \"W\"\nLevel 1\nStatement : 0 = 0 := by rfl\n") ≡ good
unfolding chars lib.Utf8.encode block_at entries_of_tokens
worlds_64 = refl

-- 65
worlds_65 : told (numbered 0 65 (λ k. codes "World \"W" ++ decimal k ++ codes "\"\n")) ≡ bad 758 (Limit Worlds 65)
unfolding chars lib.Utf8.encode block_at entries_of_tokens
worlds_65 = refl

-- a world that stands already is none more
worlds_again : told (numbered 0 64 (λ k. codes "World \"W" ++ decimal k ++ codes "\"\n") ++ codes "World \"W1\"\nLevel 1\nStatement : 0 = 0 := by rfl\n") ≡ good
unfolding chars lib.Utf8.encode block_at entries_of_tokens
worlds_again = refl

-- 64 levels
levels_64 : told (codes "World \"W\"\n" ++ numbered 1 64 (λ k. codes "Level " ++ decimal k ++ codes " Statement : 0 = 0 := by sorry\n")) ≡ good
unfolding chars lib.Utf8.encode block_at entries_of_tokens
levels_64 = refl

-- 65
levels_65 : told (codes "World \"W\"\n" ++ numbered 1 65 (λ k. codes "Level " ++ decimal k ++ codes " Statement : 0 = 0 := by sorry\n")) ≡ bad 2497 (Limit Levels 65)
unfolding chars lib.Utf8.encode block_at entries_of_tokens
levels_65 = refl

-- 64 functions and constants
functions_64 : told (codes "Function + (a d) | add_zero : a + 0 = a | add_succ : a + succ d = succ (a + d)\n" ++ numbered 0 63 (λ k. codes "Constant c" ++ decimal k ++ codes " := 0 as d" ++ decimal k ++ codes "\n") ++ codes "World \"W\"\nLevel 1\nStatement : 0 = 0 := by rfl\n") ≡ good
unfolding chars lib.Utf8.encode block_at entries_of_tokens
functions_64 = refl

-- 65
functions_65 : told (codes "Function + (a d) | add_zero : a + 0 = a | add_succ : a + succ d = succ (a + d)\n" ++ numbered 0 64 (λ k. codes "Constant c" ++ decimal k ++ codes " := 0 as d" ++ decimal k ++ codes "\n") ++ codes "World \"W\"\nLevel 1\nStatement : 0 = 0 := by rfl\n") ≡ bad 1634 (Limit Functions 65)
unfolding chars lib.Utf8.encode block_at entries_of_tokens
functions_65 = refl

-- 32 predicates
predicates_32 : told (numbered 0 32 (λ k. codes "Predicate p" ++ decimal k ++ codes " := 0 = 0\n") ++ codes "World \"W\"\nLevel 1\nStatement : 0 = 0 := by rfl\n") ≡ good
unfolding chars lib.Utf8.encode block_at entries_of_tokens
predicates_32 = refl

-- 33
predicates_33 : told (numbered 0 33 (λ k. codes "Predicate p" ++ decimal k ++ codes " := 0 = 0\n") ++ codes "World \"W\"\nLevel 1\nStatement : 0 = 0 := by rfl\n") ≡ bad 726 (Limit Predicates 33)
unfolding chars lib.Utf8.encode block_at entries_of_tokens
predicates_33 = refl

-- 4 parameters
arity_4 : told (codes "Predicate p (a b c d) := a = b\nWorld \"W\"\nLevel 1\nStatement : 0 = 0 := by rfl\n") ≡ good
unfolding chars lib.Utf8.encode block_at entries_of_tokens
arity_4 = refl

-- 5
arity_5 : told (codes "Function f (a b c e d) | z : f 0 = 0 | s : f (succ d) = 0\n") ≡ bad 20 (Limit Arity 5)
unfolding chars lib.Utf8.encode block_at entries_of_tokens
arity_5 = refl

-- 64 variables
variables_64 : told (codes "World \"W\"\nLevel 1\nStatement (" ++ numbered 0 64 (λ k. codes "x" ++ decimal k ++ codes " ") ++ codes ": ℕ) : 0 = 0 := by rfl\n") ≡ good
unfolding chars lib.Utf8.encode block_at entries_of_tokens
variables_64 = refl

-- 65
variables_65 : told (codes "World \"W\"\nLevel 1\nStatement (" ++ numbered 0 65 (λ k. codes "x" ++ decimal k ++ codes " ") ++ codes ": ℕ) : 0 = 0 := by rfl\n") ≡ bad 275 (Limit Variables 65)
unfolding chars lib.Utf8.encode block_at entries_of_tokens
variables_65 = refl

-- 64 hypotheses
hypotheses_64 : told (codes "World \"W\"\nLevel 1\nStatement " ++ numbered 0 64 (λ k. codes "(h" ++ decimal k ++ codes " : 0 = 0) ") ++ codes ": 0 = 0 := by rfl\n") ≡ good
unfolding chars lib.Utf8.encode block_at entries_of_tokens
hypotheses_64 = refl

-- 65
hypotheses_65 : told (codes "World \"W\"\nLevel 1\nStatement " ++ numbered 0 65 (λ k. codes "(h" ++ decimal k ++ codes " : 0 = 0) ") ++ codes ": 0 = 0 := by rfl\n") ≡ bad 915 (Limit Hypotheses 65)
unfolding chars lib.Utf8.encode block_at entries_of_tokens
hypotheses_65 = refl

-- 100 parentheses
nesting_100 : told (codes "World \"W\"\nLevel 1\nStatement : " ++ repeated 100 (codes "(") ++ codes "0" ++ repeated 100 (codes ")") ++ codes " = 0 := by rfl\n") ≡ good
unfolding chars lib.Utf8.encode block_at entries_of_tokens
nesting_100 = refl

-- a token within 101
nesting_101 : told (codes "World \"W\"\nLevel 1\nStatement : " ++ repeated 101 (codes "(") ++ codes "0" ++ repeated 101 (codes ")") ++ codes " = 0 := by rfl\n") ≡ bad 131 (Limit Nesting 101)
unfolding chars lib.Utf8.encode block_at entries_of_tokens
nesting_101 = refl

-- 100 that open in a script
script_nesting_100 : told (codes "World \"W\"\nLevel 1\nStatement : 0 = 0 := by use " ++ repeated 100 (codes "(") ++ codes "0" ++ repeated 100 (codes ")") ++ codes "\n") ≡ good
unfolding chars lib.Utf8.encode block_at entries_of_tokens
script_nesting_100 = refl

-- the 101st that opens in a script
script_nesting_101 : told (codes "World \"W\"\nLevel 1\nStatement : 0 = 0 := by use " ++ repeated 101 (codes "(") ++ codes "0" ++ repeated 101 (codes ")") ++ codes "\n") ≡ bad 146 (Limit Nesting 101)
unfolding chars lib.Utf8.encode block_at entries_of_tokens
script_nesting_101 = refl

-- 200 steps
steps_200 : told (codes "World \"W\"\nLevel 1\nStatement : 0 = 0 := by rw [a" ++ repeated 199 (codes ", a") ++ codes "]\n") ≡ good
unfolding chars lib.Utf8.encode block_at entries_of_tokens
steps_200 = refl

-- 201
steps_201 : told (codes "World \"W\"\nLevel 1\nStatement : 0 = 0 := by rw [a" ++ repeated 200 (codes ", a") ++ codes "]\n") ≡ bad 646 (Limit Steps 201)
unfolding chars lib.Utf8.encode block_at entries_of_tokens
steps_201 = refl

-- 16 blocks in one another
blocks_16 : told (codes "World \"W\"\nLevel 1\nStatement : 0 = 0 := by " ++ repeated 15 (codes "· ") ++ codes "rfl\n") ≡ good
unfolding chars lib.Utf8.encode block_at entries_of_tokens
blocks_16 = refl

-- 17
blocks_17 : told (codes "World \"W\"\nLevel 1\nStatement : 0 = 0 := by " ++ repeated 16 (codes "· ") ++ codes "rfl\n") ≡ bad 90 (Limit Blocks 17)
unfolding chars lib.Utf8.encode block_at entries_of_tokens
blocks_17 = refl

-- a statement of height 256
height_256 : told (codes "Function + (a d) | add_zero : a + 0 = a | add_succ : a + succ d = succ (a + d)\nWorld \"W\"\nLevel 1\nStatement : " ++ codes "0" ++ repeated 254 (codes " + 0") ++ codes " = 0 := by rfl\n") ≡ good
unfolding chars lib.Utf8.encode block_at entries_of_tokens
height_256 = refl

-- 257
height_257 : told (codes "Function + (a d) | add_zero : a + 0 = a | add_succ : a + succ d = succ (a + d)\nWorld \"W\"\nLevel 1\nStatement : " ++ codes "0" ++ repeated 255 (codes " + 0") ++ codes " = 0 := by rfl\n") ≡ bad 97 (Limit Height 257)
unfolding chars lib.Utf8.encode block_at entries_of_tokens
height_257 = refl

-- the closed formula is measured
closed_height : told (codes "Function + (a d) | add_zero : a + 0 = a | add_succ : a + succ d = succ (a + d)\nWorld \"W\"\nLevel 1\nStatement (x : ℕ) : " ++ codes "0" ++ repeated 254 (codes " + 0") ++ codes " = 0 := by rfl\n") ≡ bad 97 (Limit Height 257)
unfolding chars lib.Utf8.encode block_at entries_of_tokens
closed_height = refl

-- a constant's axiom
constant_height : told (codes "Function + (a d) | add_zero : a + 0 = a | add_succ : a + succ d = succ (a + d)\nConstant c := " ++ codes "0" ++ repeated 255 (codes " + 0") ++ codes " as c_is\nWorld \"W\"\nLevel 1\nStatement : 0 = 0 := by rfl\n") ≡ bad 79 (Limit Height 257)
unfolding chars lib.Utf8.encode block_at entries_of_tokens
constant_height = refl

-- a predicate's body
predicate_height : told (codes "Function + (a d) | add_zero : a + 0 = a | add_succ : a + succ d = succ (a + d)\nPredicate q := " ++ codes "0" ++ repeated 255 (codes " + 0") ++ codes " = 0\nWorld \"W\"\nLevel 1\nStatement : 0 = 0 := by rfl\n") ≡ bad 94 (Limit Height 257)
unfolding chars lib.Utf8.encode block_at entries_of_tokens
predicate_height = refl

-- an equation, whose axiom has a quantifier for each variable
equation_height : told (codes "Function + (a d) | add_zero : a + 0 = a | add_succ : a + succ d = succ (a + d)\nFunction f (a d)\n  | f0 : f a 0 = " ++ codes "0" ++ repeated 254 (codes " + 0") ++ codes "\n  | f1 : f a (succ d) = 0\nWorld \"W\"\nLevel 1\nStatement : 0 = 0 := by rfl\n") ≡ bad 100 (Limit Height 257)
unfolding chars lib.Utf8.encode block_at entries_of_tokens
equation_height = refl

-- which the last parameter has not at zero
equation_height_256 : told (codes "Function + (a d) | add_zero : a + 0 = a | add_succ : a + succ d = succ (a + d)\nFunction f (a d)\n  | f0 : f a 0 = " ++ codes "0" ++ repeated 253 (codes " + 0") ++ codes "\n  | f1 : f a (succ d) = 0\nWorld \"W\"\nLevel 1\nStatement : 0 = 0 := by rfl\n") ≡ good
unfolding chars lib.Utf8.encode block_at entries_of_tokens
equation_height_256 = refl

-- at one name the size comes first
size_before_recursion : told (codes "Function + (a d) | add_zero : a + 0 = a | add_succ : a + succ d = succ (a + d)\nFunction f (d)\n  | f0 : f 0 = f 0 + " ++ codes "0" ++ repeated 255 (codes " + 0") ++ codes "\n  | f1 : f (succ d) = 0\nWorld \"W\"\nLevel 1\nStatement : 0 = 0 := by rfl\n") ≡ bad 98 (Limit Height 259)
unfolding chars lib.Utf8.encode block_at entries_of_tokens
size_before_recursion = refl
