-- The commands of a game text, told without a reader: how the tokens are cut, and which tokens each command is.
use Rattle.std.specs.Prelude.{◌≡◌, ◌↔◌, ℕ, ◌<◌, Bool, true, false, List, [], ◌∷◌, ◌++◌, length, Option, Some, None, IsTrue, IsFalse, codes}
use Rattle.pg_base.specs.Tokens.{Word}
use Rattle.pg_script.specs.Data.{Part}
use Rattle.pg_script.specs.Marks.{place}
use Rattle.pg_gametext.specs.Commands.{is_text, is_plain, is_word, is_passed, ends_command, Piece, pieces}
use Rattle.pg_gametext.specs.Forms.{is_open, is_close, is_colon, is_assign, is_bar, is_arrow, is_nat, is_function_sign, is_predicate_sign, Told, one_token, names_told, Link, links_told, Equation, FunctionText, can_name_constant, ConstantText, constant_told, PredicateText, predicate_told, BinderText, variables, hypothesis, StatementText, statement_told, function_told, ends_block}

-- ---- cutting

-- none of these tokens ends the command
abbrev pub GoesOn : (passed : Bool) → List Word → Type 0
GoesOn passed [] = Unit {0}
GoesOn passed (w ∷ ws) = IsFalse (ends_command passed w) × GoesOn passed ws

-- the end of the text, or a token that ends the command
abbrev pub Ends : (passed : Bool) → List Word → Type 0
Ends passed [] = Unit {0}
Ends passed (w ∷ ws) = IsTrue (ends_command passed w)

-- The tokens are these pieces: a word each, the tokens that go on with its command, and what ends it.
pub data IsCut (end : ℕ) : List Word → List Piece → Type 0 where
  nothing : IsCut end [] []
  a_piece : (w : Word) (ws next : List Word) (ps : List Piece) → GoesOn (is_passed w) ws → Ends (is_passed w) next → IsCut end next ps
      → IsCut end (w ∷ ws ++ next) (record { word = w; body = ws; end = place end next } ∷ ps)

abbrev pub CutLaw : Type 0
CutLaw = (end : ℕ) (ws : List Word) (ps : List Piece) → (pieces end ws ≡ ps) ↔ IsCut end ws ps

-- ---- tokens of a kind

abbrev pub AreAll : (Word → Bool) → List Word → Type 0
AreAll good [] = Unit {0}
AreAll good (w ∷ ws) = IsTrue (good w) × AreAll good ws

abbrev pub AreNone : (Word → Bool) → List Word → Type 0
AreNone bad [] = Unit {0}
AreNone bad (w ∷ ws) = IsFalse (bad w) × AreNone bad ws

-- one token of a kind: a text behind `Game`, `Title`, `Introduction`, `Conclusion` and `World`, a number behind `Level`
abbrev pub IsOne : (Word → Bool) → List Word → Word → Type 0
IsOne good ws w = (ws ≡ w ∷ []) × IsTrue (good w)

-- names: behind the commands that list moves or theorems
abbrev pub AreNames : List Word → Type 0
AreNames ws = (0 < length ws) × AreAll is_plain ws

-- ---- dependencies

abbrev pub link : Word → Word → Link
link a b = record { before = a; after = b }

-- worlds with arrows between them, two at least
pub data AreLinks : List Word → List Link → Type 0 where
  one_link : (a s b : Word) → IsTrue (is_plain a) → IsTrue (is_arrow s) → IsTrue (is_plain b) → AreLinks (a ∷ s ∷ b ∷ []) (link a b ∷ [])
  more_links : (a s b : Word) (ws : List Word) (ls : List Link) → IsTrue (is_plain a) → IsTrue (is_arrow s) → AreLinks (b ∷ ws) ls → AreLinks (a ∷ s ∷ b ∷ ws) (link a b ∷ ls)

-- ---- declarations

abbrev pub HasTwo : Bool → List Word → Type 0
HasTwo true ws = length ws ≡ 2
HasTwo false ws = 0 < length ws

-- names between parentheses, two where a sign is declared
pub data AreParameters (two : Bool) : List Word → List Word → Type 0 where
  parameters : (o c : Word) (ws : List Word) → IsTrue (is_open o) → AreAll is_plain ws → HasTwo two ws → IsTrue (is_close c) → AreParameters two (o ∷ ws ++ c ∷ []) ws

-- `| n : ` and tokens up to the next `|`, behind which these stand
pub data IsEquation (end : ℕ) : (ws next : List Word) → Equation → Type 0 where
  equation : (b n c : Word) (ws next : List Word) → IsTrue (is_bar b) → IsTrue (is_plain n) → IsTrue (is_colon c) → AreNone is_bar ws
      → IsEquation end (b ∷ n ∷ c ∷ ws) next (record { name = n; says = Some (record { tokens = ws; end = place end next }) })

-- f (x .. d) | n0 : .. | n1 : ..
pub data IsFunction (end : ℕ) : List Word → FunctionText → Type 0 where
  a_function : (f : Word) (ps us vs params : List Word) (e0 e1 : Equation) → IsTrue (is_plain f) → AreParameters false ps params → IsEquation end us vs e0 → IsEquation end vs [] e1
      → IsFunction end (f ∷ ps ++ (us ++ vs)) (record { name = Some f; params = params; at_zero = Some e0; at_succ = Some e1 })
  a_sign : (f : Word) (ps us vs params : List Word) (e0 e1 : Equation) → IsTrue (is_function_sign f) → AreParameters true ps params → IsEquation end us vs e0 → IsEquation end vs [] e1
      → IsFunction end (f ∷ ps ++ (us ++ vs)) (record { name = Some f; params = params; at_zero = Some e0; at_succ = Some e1 })

-- c := tokens as n
pub data IsConstant : List Word → ConstantText → Type 0 where
  a_constant : (c a s n : Word) (ws : List Word) → IsTrue (can_name_constant c) → IsTrue (is_assign a) → AreNone (is_word (codes "as")) ws → IsTrue (is_word (codes "as") s) → IsTrue (is_plain n)
      → IsConstant (c ∷ a ∷ ws ++ s ∷ n ∷ []) (record { name = Some c; body = Some (record { tokens = ws; end = s.at }); equation_name = Some n })

-- p (x ..) := tokens, or p := tokens
pub data IsPredicate (end : ℕ) : List Word → PredicateText → Type 0 where
  a_predicate : (p a : Word) (ps params ws : List Word) → IsTrue (is_plain p) → AreParameters false ps params → IsTrue (is_assign a)
      → IsPredicate end (p ∷ ps ++ a ∷ ws) (record { name = Some p; params = params; body = Some (record { tokens = ws; end = end }) })
  a_relation : (p a : Word) (ps params ws : List Word) → IsTrue (is_predicate_sign p) → AreParameters true ps params → IsTrue (is_assign a)
      → IsPredicate end (p ∷ ps ++ a ∷ ws) (record { name = Some p; params = params; body = Some (record { tokens = ws; end = end }) })
  a_proposition : (p a : Word) (ws : List Word) → IsTrue (is_plain p) → IsTrue (is_assign a)
      → IsPredicate end (p ∷ a ∷ ws) (record { name = Some p; params = []; body = Some (record { tokens = ws; end = end }) })

-- ---- statements

-- tokens without `:=` whose parentheses match
pub data Matches : List Word → Type 0 where
  no_token : Matches []
  a_token : (w : Word) (ws : List Word) → IsFalse (is_open w) → IsFalse (is_close w) → IsFalse (is_assign w) → Matches ws → Matches (w ∷ ws)
  nested : (o c : Word) (inner ws : List Word) → IsTrue (is_open o) → IsTrue (is_close c) → Matches inner → Matches ws → Matches (o ∷ inner ++ c ∷ ws)

-- not with ℕ
abbrev pub BeginsOther : List Word → Type 0
BeginsOther [] = Unit {0}
BeginsOther (w ∷ ws) = IsFalse (is_nat w)

-- (x y : ℕ), or (h : tokens) where the tokens don't begin with ℕ
pub data IsBinder : List Word → BinderText → Type 0 where
  some_variables : (o c n k : Word) (names : List Word) → IsTrue (is_open o) → AreNames names → IsTrue (is_colon c) → IsTrue (is_nat n) → IsTrue (is_close k)
      → IsBinder (o ∷ names ++ c ∷ n ∷ k ∷ []) (variables names)
  a_hypothesis : (o h c k : Word) (ws : List Word) → IsTrue (is_open o) → IsTrue (is_plain h) → IsTrue (is_colon c) → BeginsOther ws → Matches ws → IsTrue (is_close k)
      → IsBinder (o ∷ h ∷ c ∷ ws ++ k ∷ []) (hypothesis h (record { tokens = ws; end = k.at }))

pub data AreBinders : List Word → List BinderText → Type 0 where
  no_binder : AreBinders [] []
  a_binder : (ws vs : List Word) (b : BinderText) (bs : List BinderText) → IsBinder ws b → AreBinders vs bs → AreBinders (ws ++ vs) (b ∷ bs)

-- a text or nothing, a name or nothing
pub data IsText : List Word → Type 0 where
  no_text : IsText []
  a_text : (t : Word) → IsTrue (is_text t) → IsText (t ∷ [])

pub data IsName : List Word → Option Word → Type 0 where
  no_name : IsName [] None
  a_name : (n : Word) → IsTrue (is_plain n) → IsName (n ∷ []) (Some n)

-- a block: up to its command's end no token is first of its line at a smaller column
pub data IsBlock (end : ℕ) : List Word → Part → Type 0 where
  a_block : (w : Word) (ws : List Word) → AreNone (ends_block w.column) ws → IsBlock end (w ∷ ws) (record { tokens = w ∷ ws; end = end })

-- TEXT name binders : tokens := by block
pub data IsStatement (end : ℕ) : List Word → StatementText → Type 0 where
  a_statement : (ts ns bs ws vs : List Word) (c a b : Word) (name : Option Word) (binders : List BinderText) (block : Part) → IsText ts → IsName ns name → AreBinders bs binders
      → IsTrue (is_colon c) → AreNone is_assign ws → IsTrue (is_assign a) → IsTrue (is_word (codes "by") b) → IsBlock end vs block
      → IsStatement end (ts ++ (ns ++ (bs ++ (c ∷ ws ++ a ∷ b ∷ vs)))) (record { name = name; binders = binders; target = Some (record { tokens = ws; end = a.at }); block = Some block })

-- ---- laws

-- What is told of tokens without being stuck is what they are.
abbrev pub whole : {X : Type 0} → X → Told X
whole x = record { value = x; stuck = None }

abbrev pub OneLaw : Type 0
OneLaw = (good : Word → Bool) (end : ℕ) (ws : List Word) (w : Word) → (one_token good end ws ≡ whole (Some w)) ↔ IsOne good ws w

abbrev pub NamesLaw : Type 0
NamesLaw = (end : ℕ) (ws names : List Word) → (names_told end ws ≡ whole names) ↔ ((ws ≡ names) × AreNames ws)

abbrev pub LinksLaw : Type 0
LinksLaw = (end : ℕ) (ws : List Word) (ls : List Link) → (links_told end ws ≡ whole ls) ↔ AreLinks ws ls

abbrev pub FunctionLaw : Type 0
FunctionLaw = (end : ℕ) (ws : List Word) (f : FunctionText) → (function_told end ws ≡ whole f) ↔ IsFunction end ws f

abbrev pub ConstantLaw : Type 0
ConstantLaw = (end : ℕ) (ws : List Word) (c : ConstantText) → (constant_told end ws ≡ whole c) ↔ IsConstant ws c

abbrev pub PredicateLaw : Type 0
PredicateLaw = (end : ℕ) (ws : List Word) (p : PredicateText) → (predicate_told end ws ≡ whole p) ↔ IsPredicate end ws p

abbrev pub StatementLaw : Type 0
StatementLaw = (end : ℕ) (ws : List Word) (t : StatementText) → (statement_told end ws ≡ whole t) ↔ IsStatement end ws t

-- Where it is stuck, some such command begins with the tokens before that place, and none with the token there too.
abbrev pub IsBarred : (front rest : List Word) → (List Word → Type 0) → Type 0
IsBarred front [] Is = Is front → ⊥
IsBarred front (w ∷ ws) Is = (more : List Word) → Is (front ++ w ∷ more) → ⊥

pub record IsStuck (end : ℕ) (ws : List Word) (Is : List Word → Type 0) (at : ℕ) : Type 0 where
  pub front : List Word
  pub rest : List Word
  pub split : ws ≡ front ++ rest
  pub place_is : at ≡ place end rest
  pub more : List Word
  pub begins : Is (front ++ more)
  pub barred : IsBarred front rest Is

abbrev pub IsLinked : List Word → Type 0
IsLinked ws = (ls : List Link) × AreLinks ws ls

abbrev pub LinksStuckLaw : Type 0
LinksStuckLaw = (end : ℕ) (ws : List Word) (at : ℕ) → (links_told end ws).stuck ≡ Some at → IsStuck end ws IsLinked at

-- of a kind of which there is a token at all
abbrev pub IsOneOf : (Word → Bool) → List Word → Type 0
IsOneOf good ws = (w : Word) × IsOne good ws w

abbrev pub OneStuckLaw : Type 0
OneStuckLaw = (good : Word → Bool) (some : Word) (end : ℕ) (ws : List Word) (at : ℕ) → IsTrue (good some) → (one_token good end ws).stuck ≡ Some at → IsStuck end ws (IsOneOf good) at

abbrev pub NamesStuckLaw : Type 0
NamesStuckLaw = (end : ℕ) (ws : List Word) (at : ℕ) → (names_told end ws).stuck ≡ Some at → IsStuck end ws AreNames at
