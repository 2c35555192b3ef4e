-- Whole games, read from their texts.
use Rattle.std.proofs.Common.{◌≡◌, ℕ, suc, ◌+◌, List, [], ◌∷◌, ◌++◌, refl, ap, true, Some, None, length, nat_lt, if◌then◌else◌}
use Rattle.std.specs.Prelude.{codes}
use Rattle.std.specs.Str.{chars, is_utf8}
use Rattle.std.specs.Str.Lossy.{utf8_valid_len}
use Rattle.pg_base.specs.Tokens.{lexed}
use Rattle.pg_logic.specs.Tree.{free, bound, nought, succ, app, none, arg, falsum, eq, pred, imp, ex}
use Rattle.pg_logic.specs.Declarations.{by_recursion, by_term, Declarations}
use Rattle.pg_script.specs.Blocks.{block_at}
use Rattle.pg_script.specs.Scripts.{entries_of_tokens}
use Rattle.pg_worlds.specs.declared.tactic_name.TacticName.TheVariants.{Rfl, Rw, Induction, Intro, Exact}
use Rattle.pg_gametext.specs.Reading.{var, hyp}
use Rattle.pg_gametext.specs.Game.{Level, Game, TooLong, NotUtf8, tokens_reading, reading}
use Rattle.pg_gametext.proofs.Texts.{game, plain_level, plain_game, plain_world, claim, theorem}

-- one level
smallest : game (codes "World \"W\"\nLevel 1\nStatement : succ 0 = succ 0 := by rfl\nNewTactic rfl\n") ≡ Some (plain_game (plain_world (codes "W") 1 ∷ []) (record (plain_level 0 1 (claim [] (eq (succ nought) (succ nought)))) { new_tactics = Rfl ∷ [] } ∷ []))
unfolding chars lib.Utf8.encode block_at entries_of_tokens
smallest = refl

-- all on one line
on_one_line : game (codes "World \"W\" Level 1 Statement : 0 = 0 := by rfl") ≡ Some (plain_game (plain_world (codes "W") 1 ∷ []) (plain_level 0 1 (claim [] (eq nought nought)) ∷ []))
unfolding chars lib.Utf8.encode block_at entries_of_tokens
on_one_line = refl

-- the game of addition

abbrev sums : Declarations
sums = record { functions = by_recursion (codes "+") 2 (codes "a" ∷ codes "d" ∷ []) (free 0) (succ (free 2)) (codes "add_zero") (codes "add_succ") ∷ []; predicates = [] }

abbrev zero_add : ℕ → Level
zero_add at = record (plain_level 0 1 (claim (var (codes "n") ∷ []) (eq (app 0 (arg nought (arg (free 0) none))) (free 0)))) {
  title = codes "zero_add";
  introduction = codes "Prove it by induction.";
  conclusion = codes "Well done.";
  name = Some (codes "zero_add");
  new_tactics = Rw ∷ Rfl ∷ Induction ∷ [];
  new_theorems = theorem (codes "add_zero") at ∷ theorem (codes "add_succ") (at + 15) ∷ [];
}

abbrev addition : ℕ → List Level → Game
addition at more = record (plain_game (plain_world (codes "Addition") (suc (length more)) ∷ []) (zero_add at ∷ more)) { title = codes "NNG"; declared = sums }

abbrev addition_text : List ℕ
addition_text = codes "import Game.Metadata\nGame \"NNG\"\nFunction + (a d)\n  | add_zero : a + 0 = a\n  | add_succ : a + succ d = succ (a + d)\nWorld \"Addition\"\nLevel 1\nTitle \"zero_add\"\nnamespace MyNat\nIntroduction \"Prove it by induction.\"\n/-- Zero on the left. -/\nStatement zero_add (n : ℕ) : 0 + n = n := by\n  Hint \"Use induction on {n}.\"\n  induction n with d hd\n  · rw [add_zero]\n    rfl\n  · Hint \"Now use {hd} after add_succ.\"\n    rw [add_succ, hd]\n    rfl\nConclusion \"Well done.\"\nNewTactic rw rfl induction\nNewTheorem add_zero MyNat.add_succ\nend MyNat\n"

-- as a whole
addition_game : game (addition_text) ≡ Some (addition 498 [])
unfolding chars lib.Utf8.encode block_at entries_of_tokens
addition_game = refl

-- what levels disable and leave
lists : game (addition_text ++ codes "Level 2 Statement : 0 = 0 := by rfl DisabledTactic rw\nLevel 3 Statement : 0 = 0 := by rfl\nLevel 4 Statement : 0 = 0 := by rfl OnlyTactic rfl exact OnlyTactic intro DisabledTheorem add_zero OnlyTheorem succ_inj\n") ≡ Some (addition 498 (record (plain_level 0 2 (claim [] (eq nought nought))) { disabled_tactics = Rw ∷ [] } ∷ plain_level 0 3 (claim [] (eq nought nought)) ∷ record (plain_level 0 4 (claim [] (eq nought nought))) { only_tactics = Some (Rfl ∷ Exact ∷ Intro ∷ []); disabled_theorems = theorem (codes "add_zero") 712 ∷ []; only_theorems = Some (theorem (codes "succ_inj") 733 ∷ []) } ∷ []))
unfolding chars lib.Utf8.encode block_at entries_of_tokens
lists = refl

-- needs in order of the text, each once
needs_in_order : game (codes "World \"A\" Level 1 Statement : 0 = 0 := by rfl\nWorld \"B\" Level 1 Statement : 0 = 0 := by rfl\nDependency A -> B -> A Dependency B → B Dependency A → B\n") ≡ Some (record (plain_game (plain_world (codes "A") 1 ∷ plain_world (codes "B") 1 ∷ []) (plain_level 0 1 (claim [] (eq nought nought)) ∷ plain_level 1 1 (claim [] (eq nought nought)) ∷ [])) { needs = record { before = 0; after = 1 } ∷ record { before = 1; after = 0 } ∷ record { before = 1; after = 1 } ∷ [] })
unfolding chars lib.Utf8.encode block_at entries_of_tokens
needs_in_order = refl

-- a world that comes again goes on; a level whose block is sorry has no sample
worlds_twice : game (codes "World \"A\" Level 1 Statement : 0 = 0 := by rfl\nWorld \"B\" Title \"b\" Introduction \"i\" Level 1 Statement : 0 = 0 := by sorry\nWorld \"A\" Title \"a\" Level 2 Statement : 0 = 0 := by rfl\n") ≡ Some (plain_game (record (plain_world (codes "A") 2) { title = codes "a" } ∷ record (plain_world (codes "B") 1) { title = codes "b"; introduction = codes "i" } ∷ []) (plain_level 0 1 (claim [] (eq nought nought)) ∷ record (plain_level 1 1 (claim [] (eq nought nought))) { sample = None } ∷ plain_level 0 2 (claim [] (eq nought nought)) ∷ []))
unfolding chars lib.Utf8.encode block_at entries_of_tokens
worlds_twice = refl

-- a number, a sign and a proposition; bound and free variables
declared_things : game (codes "Constant 1 := succ 0 as one_is\nPredicate ≤ (a b) := ∃ c, b = c\nPredicate q := 0 = 1\nWorld \"W\"\nLevel 1\nStatement (x y : ℕ) (h : x <= y) : q → x ≠ 1 := by sorry\n") ≡ Some (record (plain_game (plain_world (codes "W") 1 ∷ []) (record (plain_level 0 1 (claim (var (codes "x") ∷ var (codes "y") ∷ hyp (codes "h") (pred 0 (arg (free 0) (arg (free 1) none))) ∷ []) (imp (pred 1 none) (imp (eq (free 0) (app 0 none)) falsum)))) { sample = None } ∷ [])) { declared = record { functions = by_term (codes "1") (succ nought) (codes "one_is") ∷ []; predicates = record { name = 226 ∷ 137 ∷ 164 ∷ []; arity = 2; functions_before = 1; body = ex (codes "c") (eq (free 1) (bound 0)) } ∷ record { name = codes "q"; arity = 0; functions_before = 1; body = eq nought (app 0 none) } ∷ [] } })
unfolding chars lib.Utf8.encode block_at entries_of_tokens
declared_things = refl

-- the first Game gives the title
first_game : game (codes "Game \"a\" Game \"b\"\nWorld \"W\"\nLevel 1\nStatement : 0 = 0 := by rfl\n") ≡ Some (record (plain_game (plain_world (codes "W") 1 ∷ []) (plain_level 0 1 (claim [] (eq nought nought)) ∷ [])) { title = codes "a" })
unfolding chars lib.Utf8.encode block_at entries_of_tokens
first_game = refl

-- a Title counts before it, with its escapes
title_before_game : game (codes "Game \"a\" Title \"b\\n\\\"c\\\"\"\nWorld \"W\"\nLevel 1\nStatement : 0 = 0 := by rfl\n") ≡ Some (record (plain_game (plain_world (codes "W") 1 ∷ []) (plain_level 0 1 (claim [] (eq nought nought)) ∷ [])) { title = codes "b\n\"c\"" })
unfolding chars lib.Utf8.encode block_at entries_of_tokens
title_before_game = refl

-- ---- bytes

-- the first byte that is no UTF-8
broken_bytes : reading (codes "World " ++ 195 ∷ 40 ∷ []) ≡ NotUtf8 6
unfolding is_utf8 utf8_valid_len chars lib.Utf8.encode
broken_bytes = refl

cut_character : reading (codes "World " ++ 226 ∷ 132 ∷ []) ≡ NotUtf8 6
unfolding is_utf8 utf8_valid_len chars lib.Utf8.encode
cut_character = refl

-- too many bytes come first, whatever they are
too_long : (bytes : List ℕ) → nat_lt 1048576 (length bytes) ≡ true → reading bytes ≡ TooLong (length bytes)
too_long bytes e = ap (λ b. if b then TooLong (length bytes) else (if is_utf8 bytes then tokens_reading (length bytes) (lexed bytes) else NotUtf8 (utf8_valid_len bytes))) e
