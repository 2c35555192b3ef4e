-- Long texts at a limit and one over it.
use Rattle.std.proofs.Common.{◌≡◌, ◌++◌, refl}
use Rattle.std.specs.Prelude.{codes}
use Rattle.std.specs.Str.{chars}
use Rattle.pg_script.specs.Blocks.{block_at}
use Rattle.pg_script.specs.Scripts.{entries_of_tokens}
use Rattle.pg_gametext.proofs.Texts.{good, bad, told, repeated}
use Rattle.pg_gametext.specs.Faults.{Hints, Limit, Nodes, ScriptBytes, Tokens}

-- a statement of 4,096 nodes
nodes_4096 : told (codes "Function + (a d) | add_zero : a + 0 = a | add_succ : a + succ d = succ (a + d)\nWorld \"W\"\nLevel 1\nStatement : " ++ repeated 20 (codes "0" ++ repeated 49 (codes "+0") ++ codes "=0" ++ repeated 49 (codes "+0") ++ codes "∧") ++ codes "0" ++ repeated 23 (codes "+0") ++ codes "=succ 0" ++ repeated 23 (codes "+0") ++ codes ":= by rfl\n") ≡ good
unfolding chars lib.Utf8.encode block_at entries_of_tokens
nodes_4096 = refl

-- of 4,097
nodes_4097 : told (codes "Function + (a d) | add_zero : a + 0 = a | add_succ : a + succ d = succ (a + d)\nWorld \"W\"\nLevel 1\nStatement : " ++ repeated 20 (codes "0" ++ repeated 49 (codes "+0") ++ codes "=0" ++ repeated 49 (codes "+0") ++ codes "∧") ++ codes "0" ++ repeated 23 (codes "+0") ++ codes "=succ (succ 0)" ++ repeated 23 (codes "+0") ++ codes ":= by rfl\n") ≡ bad 97 (Limit Nodes 4097)
unfolding chars lib.Utf8.encode block_at entries_of_tokens
nodes_4097 = refl

-- a term of 8,192 tokens that has too many nodes
tokens_8192 : told (codes "Function + (a d) | add_zero : a + 0 = a | add_succ : a + succ d = succ (a + d)\nConstant c := succ " ++ repeated 1 (codes "0") ++ repeated 4095 (codes "+0") ++ codes " as c_is\nWorld \"W\"\nLevel 1\nStatement : 0 = 0 := by rfl\n") ≡ bad 79 (Limit Nodes 8194)
unfolding chars lib.Utf8.encode block_at entries_of_tokens
tokens_8192 = refl

-- of 8,193
tokens_8193 : told (codes "Function + (a d) | add_zero : a + 0 = a | add_succ : a + succ d = succ (a + d)\nConstant c := succ 0" ++ repeated 4095 (codes "+0") ++ codes "+ as c_is\nWorld \"W\"\nLevel 1\nStatement : 0 = 0 := by rfl\n") ≡ bad 8289 (Limit Tokens 8193)
unfolding chars lib.Utf8.encode block_at entries_of_tokens
tokens_8193 = refl

-- a sample of 16,384 bytes
bytes_16384 : told (codes "World \"W\"\nLevel 1\nStatement : 0 = 0 := by rfl;" ++ repeated 16377 (codes " ") ++ codes "rfl\n") ≡ good
unfolding chars lib.Utf8.encode block_at entries_of_tokens
bytes_16384 = refl

-- of 16,385
bytes_16385 : told (codes "World \"W\"\nLevel 1\nStatement : 0 = 0 := by rfl;" ++ repeated 16378 (codes " ") ++ codes "rfl\n") ≡ bad 16426 (Limit ScriptBytes 16385)
unfolding chars lib.Utf8.encode block_at entries_of_tokens
bytes_16385 = refl

-- 1,024 hints
hints_1024 : told (codes "World \"W\"\nLevel 1\nStatement : 0 = 0 := by Hint \"\"" ++ repeated 1023 (codes ";Hint \"\"") ++ codes "\n") ≡ good
unfolding chars lib.Utf8.encode block_at entries_of_tokens
hints_1024 = refl

-- hint number 1,025
hints_1025 : told (codes "World \"W\"\nLevel 1\nStatement : 0 = 0 := by Hint \"\"" ++ repeated 1024 (codes ";Hint \"\"") ++ codes "\n") ≡ bad 8234 (Limit Hints 1025)
unfolding chars lib.Utf8.encode block_at entries_of_tokens
hints_1025 = refl
