-- The commands of tokens in order stand one behind the other, and the faults of each within it.
use Rattle.std.proofs.Common.{◌≡◌, ℕ, suc, ◌<◌, ◌≤◌, Bool, true, false, not, ◌&&◌, ◌||◌, List, [], ◌∷◌, ◌++◌, length, map, subst, arith, inl, inr, if◌then◌else◌, codes}
use Rattle.std.specs.Prelude.{All}
use Rattle.std.specs.Str.{bytes_eq}
use Rattle.std.proofs.lemmas.Str.{chars-nil}
use Rattle.pg_base.specs.declared.token.TokenKind.{TokenKind}
use Rattle.pg_base.specs.declared.token.TokenKind.TheVariants.{Name, Number, Text, Sign as SignToken}
use Rattle.pg_base.specs.Layout.{IsToken, written}
use Rattle.pg_base.specs.Spans.{IsTokenText, AreInOrder, AreTokens, token_end}
use Rattle.pg_base.specs.Tokens.{Word}
use Rattle.pg_grammar.proofs.Unique.{reading-law}
use Rattle.pg_shape.specs.Answers.{limits}
use Rattle.pg_script.specs.Marks.{place}
use Rattle.pg_gametext.specs.Commands.{begins_passed_line, standing_after, standing, is_command, is_passed, Piece, pieces}
use Rattle.pg_gametext.specs.Grammar.{IsCut, nothing, a_piece}
use Rattle.pg_gametext.specs.Placed.{Title, Introduction, Conclusion, New, Disabled, Only, Command, Placed, level_command, word_command, command_of, placed, commands}
use Rattle.pg_gametext.specs.Checks.{command_faults}
use Rattle.pg_gametext.specs.Laws.{Each, IsWithin, AreOrdered, GoesOnAt, AreLaid}
use Rattle.pg_gametext.proofs.Cut.{cut}
use Rattle.pg_gametext.proofs.Formulas.{ReadsRight}
use Rattle.pg_gametext.proofs.Within.{text_within, level_within, dependency_within, game_within, passed_within, no_command_within}
use Rattle.pg_gametext.proofs.Declared.{tactics_within, theorems_within, world_within, constant_within}
use Rattle.pg_gametext.proofs.Predicates.{predicate_within}
use Rattle.pg_gametext.proofs.Functions.{function_within}
use Rattle.pg_gametext.proofs.Stated.{statement_within}

reads_right : ReadsRight
reads_right syms r e = (reading-law limits syms r).0 e

-- ---- one command

-- the faults of this command stand within it
abbrev CommandWithin : (at end : ℕ) → List Placed → Command → Type 0
CommandWithin at end before c = Each (IsWithin at end) (command_faults before (record { at = at; command = c; end = end }))

-- one of two
either : (at end : ℕ) (before : List Placed) (b : Bool) (x y : Command) → CommandWithin at end before x → CommandWithin at end before y → CommandWithin at end before (if b then x else y)
either at end before true x y p q = p
either at end before false x y p q = q

level_command_within : (before : List Placed) (p : Piece) → p.word.at < p.end → AreOrdered p.word.at p.end p.body → CommandWithin p.word.at p.end before (level_command p)
level_command_within before p l o =
    let pick = either p.word.at p.end before in
    pick (bytes_eq p.word.text (codes "Title")) _ _ (text_within Title before p.word.at p.end p.body l o)
    (pick (bytes_eq p.word.text (codes "Introduction")) _ _ (text_within Introduction before p.word.at p.end p.body l o)
    (pick (bytes_eq p.word.text (codes "Conclusion")) _ _ (text_within Conclusion before p.word.at p.end p.body l o)
    (pick (bytes_eq p.word.text (codes "Statement")) _ _ (statement_within reads_right before p.word.at p.end p.body l o)
    (pick (bytes_eq p.word.text (codes "NewTactic")) _ _ (tactics_within New before p.word.at p.end p.body l o)
    (pick (bytes_eq p.word.text (codes "DisabledTactic")) _ _ (tactics_within Disabled before p.word.at p.end p.body l o)
    (pick (bytes_eq p.word.text (codes "OnlyTactic")) _ _ (tactics_within Only before p.word.at p.end p.body l o)
    (pick (bytes_eq p.word.text (codes "NewTheorem")) _ _ (theorems_within New before p.word.at p.end p.body l o)
    (pick (bytes_eq p.word.text (codes "DisabledTheorem")) _ _ (theorems_within Disabled before p.word.at p.end p.body l o) (theorems_within Only before p.word.at p.end p.body l o)))))))))

word_command_within : (before : List Placed) (p : Piece) → p.word.at < p.end → AreOrdered p.word.at p.end p.body → CommandWithin p.word.at p.end before (word_command p)
word_command_within before p l o =
    let pick = either p.word.at p.end before in
    pick (bytes_eq p.word.text (codes "Game")) _ _ (game_within before p.word.at p.end p.body l o)
    (pick (bytes_eq p.word.text (codes "World")) _ _ (world_within before p.word.at p.end p.body l o)
    (pick (bytes_eq p.word.text (codes "Level")) _ _ (level_within before p.word.at p.end p.body l o)
    (pick (bytes_eq p.word.text (codes "Dependency")) _ _ (dependency_within before p.word.at p.end p.body l o)
    (pick (bytes_eq p.word.text (codes "Function")) _ _ (function_within reads_right before p.word.at p.end p.body l o)
    (pick (bytes_eq p.word.text (codes "Constant")) _ _ (constant_within reads_right before p.word.at p.end p.body l o)
    (pick (bytes_eq p.word.text (codes "Predicate")) _ _ (predicate_within reads_right before p.word.at p.end p.body l o) (level_command_within before p l o)))))))

command_within : (before : List Placed) (p : Piece) → p.word.at < p.end → AreOrdered p.word.at p.end p.body → CommandWithin p.word.at p.end before (command_of p)
command_within before p l o =
    let pick = either p.word.at p.end before in
    pick (is_command p.word) _ _ (pick (is_passed p.word) _ _ (passed_within before p.word.at p.end p.body l o) (word_command_within before p l o)) (no_command_within before p.word.at p.end p.body l o)

-- ---- tokens in order

-- Tokens in order of place that don't overlap, each with a byte at least.
abbrev AreApart : (at end : ℕ) → List Word → Type 0
AreApart at end [] = at ≤ end
AreApart at end (w ∷ ws) = (at ≤ w.at) × (w.at < token_end w) × AreApart (token_end w) end ws

from_lower : (low at end : ℕ) (ws : List Word) → low ≤ at → AreApart at end ws → AreApart low end ws
from_lower low at end [] l h = omega (arith, l, h)
from_lower low at end (w ∷ ws) l h = (omega (arith, l, h.0), h.1, h.2)

-- the next token, or the end, stands no earlier
next_up : (at end : ℕ) (ws next : List Word) → AreApart at end (ws ++ next) → at ≤ place end next
next_up at end [] [] h = h
next_up at end [] (v ∷ next) h = h.0
next_up at end (w ∷ ws) next h = let up = next_up (token_end w) end ws next h.2 in omega (arith, h.0, h.1, up)

front_ordered : (from at end : ℕ) (ws next : List Word) → from < at → AreApart at end (ws ++ next) → AreOrdered from (place end next) ws
front_ordered from at end [] next l h = tt
front_ordered from at end (w ∷ ws) next l h =
    let up = next_up (token_end w) end ws next h.2 in ((omega (arith, l, h.0), omega (arith, h.1, up)), up, front_ordered w.at (token_end w) end ws next h.1 h.2)

back_apart : (at end : ℕ) (ws next : List Word) → AreApart at end (ws ++ next) → AreApart at end next
back_apart at end [] next h = h
back_apart at end (w ∷ ws) next h = from_lower at (token_end w) end next (omega (arith, h.0, h.1)) (back_apart (token_end w) end ws next h.2)

-- ---- commands

next_goes_on : (end : ℕ) (ws : List Word) (ps : List Piece) → IsCut end ws ps → GoesOnAt end (place end ws) (map placed ps)
next_goes_on end _ _ nothing = omega arith
next_goes_on end _ _ (a_piece w ws next ps g e c) = omega arith

pieces_laid : (end : ℕ) (ws : List Word) (ps : List Piece) → IsCut end ws ps → (at : ℕ) → AreApart at end ws → (before : List Placed) → AreLaid end before (map placed ps)
pieces_laid end _ _ nothing at h before = tt
pieces_laid end _ _ (a_piece w ws next ps g e c) at h before =
    let up = next_up (token_end w) end ws next h.2 in
    let p : Piece = record { word = w; body = ws; end = place end next } in (
      omega (arith, h.1, up),
      next_goes_on end next ps c,
      command_within before p (omega (arith, h.1, up)) (front_ordered w.at (token_end w) end ws next h.1 h.2),
      pieces_laid end next ps c (token_end w) (back_apart (token_end w) end ws next h.2) (placed p ∷ before),
    )

standing_apart : (passed : Bool) (at end : ℕ) (ws : List Word) → AreApart at end ws → AreApart at end (standing_after passed ws)
standing_apart passed at end [] h = h
standing_apart passed at end (w ∷ ws) h =
    elim (begins_passed_line w || (passed && not w.first)) as (λ b. AreApart at end (if b then standing_after true ws else w ∷ standing_after false ws)) [
      | true ↦ from_lower at (token_end w) end (standing_after true ws) (omega (arith, h.0, h.1)) (standing_apart true (token_end w) end ws h.2)
      | false ↦ (h.0, h.1, standing_apart false (token_end w) end ws h.2)
    ]

-- ---- each token has a byte at least

longer_text : (kind : TokenKind) (c : ℕ) (cs : List ℕ) → 0 < length (written kind (c ∷ cs))
longer_text Name c cs = omega arith
longer_text Number c cs = omega arith
longer_text Text c cs = omega arith
longer_text (SignToken sign) c cs = omega arith

empty_text : (kind : TokenKind) → IsToken kind [] [] → 0 < length (written kind [])
empty_text Name h = let clashes : false ≡ true = h.0.0 in cc
empty_text Number h = absurd (omega (arith, h.0.0))
empty_text Text h = omega arith
empty_text (SignToken sign) (inl h) = absurd h
empty_text (SignToken sign) (inr h) = let clashes : false ≡ true = h.0.0 in cc

has_byte : (kind : TokenKind) (text : List ℕ) → IsTokenText kind text → 0 < length (written kind text)
has_byte kind (c ∷ cs) h = longer_text kind c cs
has_byte kind [] h = let P : List ℕ → Type 0 = λ cs. IsToken kind cs [] in empty_text kind (subst P chars-nil h)

apart : (at end : ℕ) (ws : List Word) → AreInOrder at end ws → All (λ (w : Word). IsTokenText w.kind w.text) ws → AreApart at end ws
apart at end [] h texts = h
apart at end (w ∷ ws) h texts =
    let some = has_byte w.kind w.text (texts 0 w (omega arith)) in (h.0, omega (arith, some), apart (token_end w) end ws h.1 (λ k d lt. texts (suc k) d (omega (arith, lt))))

pub laid : (end : ℕ) (ws : List Word) → AreTokens end ws → AreLaid end [] (commands end (standing ws))
laid end ws t = pieces_laid end (standing ws) (pieces end (standing ws)) (cut 0 end (standing ws)) 0 (standing_apart false 0 end ws (apart 0 end ws t.in_order t.texts)) []
