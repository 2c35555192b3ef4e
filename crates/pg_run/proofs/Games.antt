-- Reading a game gives what is spelled so, and nothing else.
use Rattle.std.proofs.Common.{◌≡◌, ◌≤◌, ◌<◌, ◌==◌, ℕ, suc, zero, true, false, List, [], ◌∷◌, ◌++◌, Option, Some, None, sym as flip, ◌∙◌, ap, refl, subst, append_assoc, option_map, option_and_then, map, length, Result, Ok, Err, IfOk, arith}
use Rattle.pg_logic.specs.Tree.{Tm, eq}
use Rattle.std.specs.Str.{is_utf8, IsUtf8}
use Rattle.std.proofs.lemmas.Str.{IsUtf8-from_is_utf8}
use Rattle.pg_base.specs.Tokens.{lexed}
use Rattle.pg_worlds.specs.declared.tactic_name.TacticName.{TacticName}
use Rattle.pg_worlds.specs.declared.tactic_name.TacticName.TheVariants as tactic
use Rattle.pg_run.specs.declared.symbol.Symbol.{Symbol}
use Rattle.pg_run.specs.declared.symbol.Symbol.TheVariants.{World, WorldName, Level, One, Statement, Colon, Equal, Assign, By, Sorry, NewTactic, Tactic}
use Rattle.pg_run.specs.declared.game.Game.{Game}
use Rattle.pg_run.specs.declared.game.Sample.{Sample}
use Rattle.pg_run.specs.declared.game.Sample.TheVariants as sample
use Rattle.pg_run.specs.Symbols.{symbol_of}
use Rattle.pg_run.specs.Game.{Shape, spelled, depth, meaning, sample_symbol, ending, game_symbols, Stated, stated, IsGame, IsGameText, Finds}
use Rattle.pg_run.specs.Reading.{Found, numeral_at, after_heads, after_equal, moves_of, sample_at, with_moves, tail_at, right_at, left_at, stated_of, game_at}
use Rattle.pg_run.proofs.Shapes.{IsRead, IsSound, numeral_at-spelled, numeral_at-sound}

-- ---- what is spelled so is read so

moves_of-words : (ts : List TacticName) → moves_of (map Tactic ts) ≡ Some ts
moves_of-words [] = refl
moves_of-words (t ∷ ts) = ap (λ o. option_map (λ xs. t ∷ xs) o) (moves_of-words ts)

with_some : (s : Sample) (ts : List TacticName) → 0 < length ts → with_moves s (Some ts) ≡ Some (s, ts)
with_some s [] some = absurd (omega (arith, some))
with_some s (t ∷ ts) some = refl

sample_at-symbol : (s : Sample) → sample_at (sample_symbol s) ≡ Some s
sample_at-symbol sample.Rfl = refl
sample_at-symbol sample.Sorry = refl

tail_at-spelled : (s : Sample) (ts : List TacticName) → 0 < length ts → tail_at (ending s ts) ≡ Some (s, ts)
tail_at-spelled s ts some =
    ap (λ o. option_and_then (λ x. with_moves x (moves_of (map Tactic ts))) o) (sample_at-symbol s)
    ∙ ap (with_moves s) (moves_of-words ts) ∙ with_some s ts some

-- what a game of these shapes tells
abbrev of_shapes : Shape → Shape → Sample → List TacticName → Stated
of_shapes left right s ts = record { target = eq (meaning left) (meaning right); sample = s; tactics = ts }

game_at-spelled : (left right : Shape) (s : Sample) (ts : List TacticName) → depth left ≤ 100 → depth right ≤ 100 → 0 < length ts
    → game_at (game_symbols left right s ts) ≡ Some (of_shapes left right s ts)
game_at-spelled left right s ts left_fits right_fits some =
    let behind : List Symbol = spelled right ++ ending s ts in
    let l = ap left_at (numeral_at-spelled left 100 (Equal ∷ behind) left_fits) in
    let r = ap (right_at (meaning left)) (numeral_at-spelled right 100 (ending s ts) right_fits) in
    let e = ap (λ o. option_map (λ x. of_shapes left right x.0 x.1) o) (tail_at-spelled s ts some) in
    l ∙ r ∙ e

-- ---- and nothing else is

one-more : (x : TacticName) (symbols : List Symbol) (ts : List TacticName) (o : Option (List TacticName))
    → ((xs : List TacticName) → o ≡ Some xs → symbols ≡ map Tactic xs) → option_map (λ xs. x ∷ xs) o ≡ Some ts → Tactic x ∷ symbols ≡ map Tactic ts
one-more x symbols ts None sound e = cc
one-more x symbols ts (Some xs) sound e =
    let is : x ∷ xs ≡ ts = cc e in
    ap (λ s. Tactic x ∷ s) (sound xs refl) ∙ ap (map Tactic) is

moves_of-sound : (symbols : List Symbol) (ts : List TacticName) → moves_of symbols ≡ Some ts → symbols ≡ map Tactic ts
moves_of-sound [] [] e = refl
moves_of-sound [] (t ∷ ts) e = cc
moves_of-sound (Tactic x ∷ symbols) ts e = one-more x symbols ts (moves_of symbols) (λ xs is. moves_of-sound symbols xs is) e
moves_of-sound (_ ∷ symbols) ts e = cc

-- one move more is read
pub further : (read : List TacticName) (t : TacticName) (o : Option (List TacticName))
    → option_map (λ ts. read ++ ts) (option_map (λ ts. t ∷ ts) o) ≡ option_map (λ ts. (read ++ t ∷ []) ++ ts) o
further read t None = refl
further read t (Some ts) = ap Some (flip (append_assoc read (t ∷ []) ts))

after_heads-sound : (symbols rest : List Symbol) → after_heads symbols ≡ Some rest → symbols ≡ World ∷ WorldName ∷ Level ∷ One ∷ Statement ∷ Colon ∷ rest
after_heads-sound (World ∷ WorldName ∷ Level ∷ One ∷ Statement ∷ Colon ∷ symbols) rest e = cc
after_heads-sound _ rest e = cc

after_equal-sound : (symbols rest : List Symbol) → after_equal symbols ≡ Some rest → symbols ≡ Equal ∷ rest
after_equal-sound (Equal ∷ symbols) rest e = cc
after_equal-sound _ rest e = cc

-- these symbols spell a game that tells this
abbrev IsSoundGame : List Symbol → Option Stated → Type 0
IsSoundGame symbols None = Unit {0}
IsSoundGame symbols (Some g) = IsGame symbols g

-- a sample with moves, behind its symbols
record IsEnding (symbols : List Symbol) (s : Sample) (ts : List TacticName) : Type 0 where
  spelling : symbols ≡ ending s ts
  some : 0 < length ts

abbrev IsSoundEnding : List Symbol → Option (Sample × List TacticName) → Type 0
IsSoundEnding symbols None = Unit {0}
IsSoundEnding symbols (Some e) = IsEnding symbols e.0 e.1

sample_at-sound : (symbol : Symbol) (s : Sample) → sample_at symbol ≡ Some s → symbol ≡ sample_symbol s
sample_at-sound (Tactic tactic.Rfl) sample.Rfl e = refl
sample_at-sound (Tactic tactic.Rfl) sample.Sorry e = cc
sample_at-sound Sorry sample.Rfl e = cc
sample_at-sound Sorry sample.Sorry e = refl
sample_at-sound _ s e = cc

moves-sound : (symbol : Symbol) (rest : List Symbol) (s : Sample) (o : Option (List TacticName)) → sample_at symbol ≡ Some s → moves_of rest ≡ o
    → IsSoundEnding (Assign ∷ By ∷ symbol ∷ NewTactic ∷ rest) (with_moves s o)
moves-sound symbol rest s None is e = tt
moves-sound symbol rest s (Some []) is e = tt
moves-sound symbol rest s (Some (t ∷ ts)) is e = record {
  spelling = cc (sample_at-sound symbol s is, moves_of-sound rest (t ∷ ts) e);
  some = omega arith;
}

symbol-sound : (symbol : Symbol) (rest : List Symbol) (o : Option Sample) → sample_at symbol ≡ o
    → IsSoundEnding (Assign ∷ By ∷ symbol ∷ NewTactic ∷ rest) (option_and_then (λ s. with_moves s (moves_of rest)) o)
symbol-sound symbol rest None e = tt
symbol-sound symbol rest (Some s) e = moves-sound symbol rest s (moves_of rest) e refl

tail_at-sound : (symbols : List Symbol) → IsSoundEnding symbols (tail_at symbols)
tail_at-sound (Assign ∷ By ∷ symbol ∷ NewTactic ∷ rest) = symbol-sound symbol rest (sample_at symbol) refl
tail_at-sound _ = tt

ending-sound : (heads symbols middle rest : List Symbol) (left right : Tm) (o : Option (Sample × List TacticName)) → symbols ≡ World ∷ WorldName ∷ Level ∷ One ∷ Statement ∷ Colon ∷ heads
    → (l : IsRead 100 heads left (Equal ∷ middle)) → IsRead 100 middle right rest → IsSoundEnding rest o
    → IsSoundGame symbols (option_map (λ e. record { target = eq left right; sample = e.0; tactics = e.1 }) o)
ending-sound heads symbols middle rest left right None is l r e = tt
ending-sound heads symbols middle rest left right (Some s) is l r e = record {
  left = l.shape;
  right = r.shape;
  left_nesting = l.fits;
  right_nesting = r.fits;
  spelling = is ∙ ap (λ x. World ∷ WorldName ∷ Level ∷ One ∷ Statement ∷ Colon ∷ x)
      (l.spelling ∙ ap (λ x. spelled l.shape ++ Equal ∷ x) (r.spelling ∙ ap (λ x. spelled r.shape ++ x) e.spelling));
  states = ap (λ x. eq x right) l.is ∙ ap (λ x. eq (meaning l.shape) x) r.is;
  some_move = e.some;
}

right-sound : (heads symbols middle : List Symbol) (left : Tm) (found : Found) → symbols ≡ World ∷ WorldName ∷ Level ∷ One ∷ Statement ∷ Colon ∷ heads
    → IsRead 100 heads left (Equal ∷ middle) → IsSound 100 middle found → IsSoundGame symbols (right_at left found)
right-sound heads symbols middle left None is l h = tt
right-sound heads symbols middle left (Some (right, rest)) is l h = ending-sound heads symbols middle rest left right (tail_at rest) is l h (tail_at-sound rest)

equal-sound : (heads symbols rest : List Symbol) (left : Tm) (o : Option (List Symbol)) → symbols ≡ World ∷ WorldName ∷ Level ∷ One ∷ Statement ∷ Colon ∷ heads
    → IsRead 100 heads left rest → after_equal rest ≡ o → IsSoundGame symbols (option_and_then (λ middle. right_at left (numeral_at 100 middle)) o)
equal-sound heads symbols rest left None is l e = tt
equal-sound heads symbols rest left (Some middle) is l e =
    let P : List Symbol → Type 0 = λ r. IsRead 100 heads left r in
    right-sound heads symbols middle left (numeral_at 100 middle) is (subst P (after_equal-sound rest middle e) l) (numeral_at-sound 100 middle)

left-sound : (heads symbols : List Symbol) (found : Found) → symbols ≡ World ∷ WorldName ∷ Level ∷ One ∷ Statement ∷ Colon ∷ heads → IsSound 100 heads found → IsSoundGame symbols (left_at found)
left-sound heads symbols None is h = tt
left-sound heads symbols (Some (left, rest)) is h = equal-sound heads symbols rest left (after_equal rest) is h refl

heads-sound : (symbols : List Symbol) (o : Option (List Symbol)) → after_heads symbols ≡ o → IsSoundGame symbols (option_and_then (λ rest. left_at (numeral_at 100 rest)) o)
heads-sound symbols None e = tt
heads-sound symbols (Some rest) e = left-sound rest symbols (numeral_at 100 rest) (after_heads-sound symbols rest e) (numeral_at-sound 100 rest)

game_at-sound : (symbols : List Symbol) → IsSoundGame symbols (game_at symbols)
game_at-sound symbols = heads-sound symbols (after_heads symbols) refl

-- the game that is read is one
pub found-game : (symbols : List Symbol) (g : Stated) → game_at symbols ≡ Some g → IsGame symbols g
found-game symbols g e =
    let P : Option Stated → Type 0 = λ o. IsSoundGame symbols o in
    subst P e (game_at-sound symbols)

pub game_at-game : (symbols : List Symbol) (g : Stated) → IsGame symbols g → game_at symbols ≡ Some g
game_at-game symbols g h =
    ap game_at h.spelling ∙ game_at-spelled h.left h.right g.sample g.tactics h.left_nesting h.right_nesting h.some_move
    ∙ ap (λ a. Some (record { target = a; sample = g.sample; tactics = g.tactics })) (flip h.states)

-- what is read is what there is to find
pub game-found : (symbols : List Symbol) (found : Option Game) → stated_of found ≡ game_at symbols → Finds found (IsGame symbols)
game-found symbols None e = λ g h. let f = game_at-game symbols g h in cc (e, f)
game-found symbols (Some game) e = found-game symbols (stated game) (flip e)

-- the same games, said otherwise
Finds-same : (found : Option Game) (P Q : Stated → Type 0) → ((g : Stated) → P g → Q g) → ((g : Stated) → Q g → P g) → Finds found P → Finds found Q
Finds-same None P Q f g h = λ t q. h t (g t q)
Finds-same (Some game) P Q f g h = f (stated game) h

-- the game of a text is that of its symbols
pub text-found : (text : List ℕ) (symbols : List Symbol) (found : Option Game) → length text ≤ 1048576 → is_utf8 text ≡ true → (lexed text).fault ≡ None → symbols ≡ map symbol_of (lexed text).words
    → Finds found (IsGame symbols) → Finds found (IsGameText text)
text-found text symbols found size utf8 no_fault is h =
    let P : List Symbol → Type 0 = λ x. Finds found (IsGame x) in
    Finds-same found (IsGame (map symbol_of (lexed text).words)) (IsGameText text)
    (λ g h. record { size = size; utf8 = utf8; no_fault = no_fault; game = h }) (λ g h. h.game) (subst P is h)

pub ok-map : {T E : Type 0} (r : Result T E) (P Q : T → Type 0) → ((x : T) → P x → Q x) → IfOk r P → IfOk r Q
ok-map (Ok x) P Q f h = f x h
ok-map (Err e) P Q f h = tt

pub not-utf8 : (text : List ℕ) → (IsUtf8 text → ⊥) → Finds None (IsGameText text)
not-utf8 text h g t = h (IsUtf8-from_is_utf8 text t.utf8)

more-moves : (x : TacticName) (s : Sample) (ts : List TacticName) (o : Option (List TacticName)) → option_map (λ xs. x ∷ xs) o ≡ Some ts → with_moves s (option_map (λ xs. x ∷ xs) o) ≡ Some (s, ts)
more-moves x s ts None e = cc
more-moves x s ts (Some xs) e = let is : x ∷ xs ≡ ts = cc e in ap (λ l. Some (s, l)) is

-- the moves of some symbols are some moves
pub some-moves : (symbols : List Symbol) (s : Sample) (ts : List TacticName) → (length symbols == 0) ≡ false → moves_of symbols ≡ Some ts → with_moves s (moves_of symbols) ≡ Some (s, ts)
some-moves [] s ts some e = cc some
some-moves (Tactic x ∷ rest) s ts some e = more-moves x s ts (moves_of rest) e
some-moves (_ ∷ rest) s ts some e = cc
