-- What stands inside an item, told without a reader: parts of moves, the forms of moves, and hints.
use Rattle.std.specs.Prelude.{◌≡◌, ◌↔◌, ℕ, suc, ◌+◌, ◌≤◌, ◌<◌, Bool, true, false, List, [], ◌∷◌, ◌++◌, length, Option, Some, None, Ok, IsTrue, IsFalse, if◌then◌else◌, codes}
use Rattle.pg_base.specs.Tokens.{Word}
use Rattle.pg_script.specs.declared.mark.Mark.TheVariants.{Open, Close, OpenBracket, CloseBracket, Comma, Colon, Assign, LeftArrow, Free, With, At, Number, Text}
use Rattle.pg_script.specs.declared.span.Until.{Until}
use Rattle.pg_script.specs.declared.span.Until.TheVariants as until
use Rattle.pg_script.specs.declared.head.Head.{Head}
use Rattle.pg_script.specs.declared.head.Head.TheVariants as head
use Rattle.pg_script.specs.Data.{Part, Expression, Rule, Shape, plain, exact, intro, apply, rewrite, split, uses, symm, have, revert, by_cases, unknown, Step, Remark}
use Rattle.pg_script.specs.Marks.{mark, is_name, place}
use Rattle.pg_script.specs.Lines.{stops, head_of, exact_at, hint_at}
use Rattle.pg_script.specs.Blocks.{steps_of, move_at}

-- In each relation of a part, `ws` are the part's tokens, `next` those behind it in the item, and `end` is where what
-- stands behind the item begins.

-- ---- tokens whose parentheses match

abbrev pub is_open : Word → Bool
is_open w = elim (mark w) [ Open ↦ true | _ ↦ false ]

abbrev pub is_close : Word → Bool
is_close w = elim (mark w) [ Close ↦ true | _ ↦ false ]

-- Tokens that stand within so many parentheses. Their own parentheses match, of which at most 100 are open at once. None
-- of them that stands outside of their own parentheses is of a kind that ends such a part.
pub data Matches : Until → (depth : ℕ) → List Word → Type 0 where
  no_token : (stop : Until) (depth : ℕ) → Matches stop depth []
  a_token : (stop : Until) (depth : ℕ) (w : Word) (ws : List Word) → IsFalse (is_open w) → IsFalse (is_close w) → IsFalse (stops stop (mark w)) → Matches stop depth ws
      → Matches stop depth (w ∷ ws)
  nested : (stop : Until) (depth : ℕ) (o c : Word) (inner ws : List Word) → mark o ≡ Open → mark c ≡ Close → depth < 100 → Matches until.End (depth + 1) inner → Matches stop depth ws
      → Matches stop depth (o ∷ inner ++ c ∷ ws)

-- A term of `use`, which a comma ends, or a formula, which `:=` ends or the end alone: one token at least.
abbrev pub IsPiece : Until → List Word → Type 0
IsPiece stop ws = (0 < length ws) × Matches stop 0 ws

abbrev pub piece : (end : ℕ) → (ws next : List Word) → Part
piece end ws next = record { tokens = ws; end = place end next }

-- ---- expressions

-- a name that isn't reserved, a number, or any tokens between parentheses
pub data IsArgument (depth : ℕ) : List Word → Type 0 where
  a_name : (w : Word) → mark w ≡ Free → IsArgument depth (w ∷ [])
  a_number : (w : Word) → mark w ≡ Number → IsArgument depth (w ∷ [])
  between : (o c : Word) (ws : List Word) → mark o ≡ Open → mark c ≡ Close → depth < 100 → Matches until.End (depth + 1) ws → IsArgument depth (o ∷ ws ++ c ∷ [])

-- arguments, one behind the other
pub data AreArguments (end depth : ℕ) : (ws next : List Word) → List Part → Type 0 where
  no_argument : (next : List Word) → AreArguments end depth [] next []
  argument : (ws vs next : List Word) (ps : List Part) → IsArgument depth ws → AreArguments end depth vs next ps → AreArguments end depth (ws ++ vs) next (piece end ws (vs ++ next) ∷ ps)

-- a name that isn't reserved and its arguments, between as many parentheses as one likes
pub data IsExpression (end : ℕ) : (depth : ℕ) → (ws next : List Word) → Expression → Type 0 where
  applied : (depth : ℕ) (w : Word) (ws next : List Word) (args : List Part) → mark w ≡ Free → AreArguments end depth ws next args
      → IsExpression end depth (w ∷ ws) next (record { name = w; args = args })
  enclosed : (depth : ℕ) (o c : Word) (ws next : List Word) (e : Expression) → mark o ≡ Open → mark c ≡ Close → depth < 100 → IsExpression end (depth + 1) ws (c ∷ next) e
      → IsExpression end depth (o ∷ ws ++ c ∷ []) next e

-- ---- lists of names, rules and terms

abbrev pub AreNames : List Word → Type 0
AreNames [] = Unit {0}
AreNames (w ∷ ws) = IsTrue (is_name w) × AreNames ws

-- nothing, or `at` and a name
pub data IsPlace : List Word → Option Word → Type 0 where
  nowhere : IsPlace [] None
  at_name : (a h : Word) → mark a ≡ At → IsTrue (is_name h) → IsPlace (a ∷ h ∷ []) (Some h)

-- an expression, or `←` and an expression
pub data IsRule (end : ℕ) : (ws next : List Word) → Rule → Type 0 where
  forwards : (ws next : List Word) (e : Expression) → IsExpression end 0 ws next e → IsRule end ws next (record { back = false; expr = e })
  backwards : (a : Word) (ws next : List Word) (e : Expression) → mark a ≡ LeftArrow → IsExpression end 0 ws next e → IsRule end (a ∷ ws) next (record { back = true; expr = e })

-- rules with commas between them, one at least, and the bracket that closes them
pub data AreRules (end : ℕ) : (ws next : List Word) → List Rule → Type 0 where
  last_rule : (ws next : List Word) (b : Word) (r : Rule) → IsRule end ws (b ∷ next) r → mark b ≡ CloseBracket → AreRules end (ws ++ b ∷ []) next (r ∷ [])
  more_rules : (ws vs next : List Word) (c : Word) (r : Rule) (rs : List Rule) → IsRule end ws (c ∷ vs ++ next) r → mark c ≡ Comma → AreRules end vs next rs
      → AreRules end (ws ++ c ∷ vs) next (r ∷ rs)

-- terms with commas between them, one at least
pub data AreTerms (end : ℕ) : List Word → List Part → Type 0 where
  last_term : (ws : List Word) → IsPiece until.Comma ws → AreTerms end ws (piece end ws [] ∷ [])
  more_terms : (ws vs : List Word) (c : Word) (ps : List Part) → IsPiece until.Comma ws → mark c ≡ Comma → AreTerms end vs ps → AreTerms end (ws ++ c ∷ vs) (piece end ws (c ∷ vs) ∷ ps)

-- how many of these tokens pass
abbrev pub count : (Word → Bool) → List Word → ℕ
count p [] = 0
count p (w ∷ ws) = if p w then suc (count p ws) else count p ws

-- Behind a word that no move has the parentheses need not match, but no stretch of tokens opens over 100 more than it closes.
abbrev pub IsShallow : List Word → Type 0
IsShallow ws = (xs ys zs : List Word) → ws ≡ xs ++ (ys ++ zs) → count is_open ys ≤ 100 + count is_close ys

-- ---- moves

-- What stands behind a move's word: nothing; `exact e`; `intro x y ..`; `apply e`, `apply e at h`; `rw [r, ..]`, `rw [r, ..] at h`;
-- `induction n`, `induction n with d hd`; `use t, ..`; `symm`, `symm at h`; `have h : A`; `have h := e`; `have h : A := e`;
-- `revert x`; `by_cases h : A`; and any tokens behind a word that no move has.
pub data IsForm (end : ℕ) : Head → List Word → Shape → Type 0 where
  a_plain : IsForm end head.Plain [] plain
  an_exact : (ws : List Word) (e : Expression) → IsExpression end 0 ws [] e → IsForm end head.Exact ws (exact e)
  an_intro : (w : Word) (ws : List Word) → AreNames (w ∷ ws) → IsForm end head.Intro (w ∷ ws) (intro (w ∷ ws))
  an_apply : (ws vs : List Word) (e : Expression) (h : Option Word) → IsExpression end 0 ws vs e → IsPlace vs h → IsForm end head.Apply (ws ++ vs) (apply e h)
  a_rewrite : (b : Word) (ws vs : List Word) (rs : List Rule) (h : Option Word) → mark b ≡ OpenBracket → AreRules end ws vs rs → IsPlace vs h → IsForm end head.Rw (b ∷ ws ++ vs) (rewrite rs h)
  a_split : (x : Word) → IsTrue (is_name x) → IsForm end head.Split (x ∷ []) (split x [])
  a_split_with : (x w : Word) (ws : List Word) → IsTrue (is_name x) → mark w ≡ With → AreNames ws → IsForm end head.Split (x ∷ w ∷ ws) (split x ws)
  a_use : (ws : List Word) (ps : List Part) → AreTerms end ws ps → IsForm end head.Use ws (uses ps)
  a_symm : (ws : List Word) (h : Option Word) → IsPlace ws h → IsForm end head.Symm ws (symm h)
  a_have : (h c : Word) (ws : List Word) → IsTrue (is_name h) → mark c ≡ Colon → IsPiece until.Assign ws → IsForm end head.Have (h ∷ c ∷ ws) (have h (Some (piece end ws [])) None)
  a_have_by : (h a : Word) (ws : List Word) (e : Expression) → IsTrue (is_name h) → mark a ≡ Assign → IsExpression end 0 ws [] e → IsForm end head.Have (h ∷ a ∷ ws) (have h None (Some e))
  a_have_of : (h c a : Word) (ws vs : List Word) (e : Expression) → IsTrue (is_name h) → mark c ≡ Colon → IsPiece until.Assign ws → mark a ≡ Assign → IsExpression end 0 vs [] e
      → IsForm end head.Have (h ∷ c ∷ ws ++ a ∷ vs) (have h (Some (piece end ws (a ∷ vs))) (Some e))
  a_revert : (x : Word) → IsTrue (is_name x) → IsForm end head.Revert (x ∷ []) (revert x)
  a_by_cases : (h c : Word) (ws : List Word) → IsTrue (is_name h) → mark c ≡ Colon → IsPiece until.End ws → IsForm end head.ByCases (h ∷ c ∷ ws) (by_cases h (piece end ws []))
  an_unknown : (ws : List Word) → IsShallow ws → IsForm end head.Unknown ws unknown

-- A move of this word and the tokens behind it, where so many more steps may stand.
pub record IsMove (room end : ℕ) (w : Word) (ws : List Word) (m : Step) : Type 0 where
  pub at : m.at ≡ w.at
  pub word : m.head ≡ w.text
  pub form : IsForm end (head_of w.text) ws m.shape
  pub steps : steps_of m.shape ≤ room

-- ---- hints

-- a name that isn't reserved, with this text
abbrev pub IsWord : Word → List ℕ → Type 0
IsWord w text = (mark w ≡ Free) × (w.text ≡ text)

-- a value as it is written
abbrev pub value_text : Bool → List ℕ
value_text true = codes "true"
value_text false = codes "false"

-- an option of this name between its parentheses, as `(hidden := true)`
pub data IsOption (name : List ℕ) (value : Bool) : List Word → Type 0 where
  an_option : (o n a v c : Word) → mark o ≡ Open → IsWord n name → mark a ≡ Assign → IsWord v (value_text value) → mark c ≡ Close → IsOption name value (o ∷ n ∷ a ∷ v ∷ c ∷ [])

-- the two options, each at most once and in either order; what is left out is `false`
pub data AreOptions : List Word → (hidden strict : Bool) → Type 0 where
  no_option : AreOptions [] false false
  hidden_alone : (ws : List Word) (hidden : Bool) → IsOption (codes "hidden") hidden ws → AreOptions ws hidden false
  strict_alone : (ws : List Word) (strict : Bool) → IsOption (codes "strict") strict ws → AreOptions ws false strict
  hidden_first : (ws vs : List Word) (hidden strict : Bool) → IsOption (codes "hidden") hidden ws → IsOption (codes "strict") strict vs → AreOptions (ws ++ vs) hidden strict
  strict_first : (ws vs : List Word) (hidden strict : Bool) → IsOption (codes "strict") strict ws → IsOption (codes "hidden") hidden vs → AreOptions (ws ++ vs) hidden strict

-- options and a text, behind a word `Hint` at this place
pub data IsHint (at : ℕ) : List Word → Remark → Type 0 where
  a_hint_text : (ws : List Word) (t : Word) (hidden strict : Bool) → AreOptions ws hidden strict → mark t ≡ Text
      → IsHint at (ws ++ t ∷ []) (record { at = at; text = t.text; hidden = hidden; strict = strict })

-- ---- laws

-- What is read as an expression and nothing behind it is one, and each one is read.
abbrev pub ExpressionLaw : Type 0
ExpressionLaw = (end : ℕ) (ws : List Word) (e : Expression) → (exact_at end ws ≡ Ok e) ↔ IsExpression end 0 ws [] e

-- What is read as a move is one, and each move is read.
abbrev pub MoveLaw : Type 0
MoveLaw = (room end : ℕ) (w : Word) (ws : List Word) (m : Step) → (move_at room end w ws ≡ Ok m) ↔ IsMove room end w ws m

-- What is read as a hint is one, and each hint is read.
abbrev pub HintLaw : Type 0
HintLaw = (at end : ℕ) (ws : List Word) (h : Remark) → (hint_at at end ws ≡ Ok h) ↔ IsHint at ws h
