-- Names of moves, and the faults of those that are none.
use Rattle.std.proofs.Common.{◌≡◌, ◌∙◌, ℕ, ◌<◌, Bool, true, false, ◌+◌, not, List, [], ◌∷◌, ◌++◌, length, take, get_or, refl, sym, ap, append_assoc, Option, Some, None, lit<}
use Rattle.std.specs.Prelude.{IfSome}
use Rattle.std.specs.Option.{is_some}
use Rattle.std.specs.List.{list_any}
use Rattle.std.specs.Str.{bytes_eq}
use Rattle.std.proofs.lemmas.List.{take_more}
use Rattle.std.proofs.lemmas.List.Folds.{list_any_at}
use Rattle.std.proofs.lemmas.Slice.Eq.{bytes_eq-Decides}
use Rattle.pg_base.specs.declared.token.Token.{Token}
use Rattle.pg_base.specs.Tokens.{Word, word}
use Rattle.pg_script.specs.View.{words}
use Rattle.pg_worlds.specs.declared.tactic_name.TacticName.{TacticName}
use Rattle.pg_worlds.specs.declared.tactic_name.TacticName.TheVariants.{Rfl, Rw, Induction, Intro, Exact, Apply, Cases, Left, Right, Constructor, Use, Symm, Exfalso, Have, Revert, ByCases}
use Rattle.pg_worlds.specs.Moves.{word_of}
use Rattle.pg_gametext.specs.Faults.{Fault, fault_if, Unknown, least}
use Rattle.pg_gametext.specs.Checks.{moves, move_faults}
use Rattle.pg_faults.specs.View.{sooner}
use Rattle.pg_faults.specs.Laws.{LeastLaw}

-- ---- names

-- each move is one of the list
pub any-move : (p : TacticName → Bool) (t : TacticName) → p t ≡ true → list_any p moves ≡ true
any-move p Rfl e = list_any_at p moves 0 Rfl (lit< tt) e
any-move p Rw e = list_any_at p moves 1 Rw (lit< tt) e
any-move p Induction e = list_any_at p moves 2 Induction (lit< tt) e
any-move p Intro e = list_any_at p moves 3 Intro (lit< tt) e
any-move p Exact e = list_any_at p moves 4 Exact (lit< tt) e
any-move p Apply e = list_any_at p moves 5 Apply (lit< tt) e
any-move p Cases e = list_any_at p moves 6 Cases (lit< tt) e
any-move p Left e = list_any_at p moves 7 Left (lit< tt) e
any-move p Right e = list_any_at p moves 8 Right (lit< tt) e
any-move p Constructor e = list_any_at p moves 9 Constructor (lit< tt) e
any-move p Use e = list_any_at p moves 10 Use (lit< tt) e
any-move p Symm e = list_any_at p moves 11 Symm (lit< tt) e
any-move p Exfalso e = list_any_at p moves 12 Exfalso (lit< tt) e
any-move p Have e = list_any_at p moves 13 Have (lit< tt) e
any-move p Revert e = list_any_at p moves 14 Revert (lit< tt) e
any-move p ByCases e = list_any_at p moves 15 ByCases (lit< tt) e

no-move : (p : TacticName → Bool) → ((t : TacticName) → p t ≡ false) → (ts : List TacticName) → list_any p ts ≡ false
no-move p none [] = refl
no-move p none (t ∷ ts) = rw (none t) (no-move p none ts)

false_unless : (b : Bool) → (b ≡ true → ⊥) → b ≡ false
false_unless true never = absurd (never refl)
false_unless false never = refl

-- a text has a move exactly where it is the word of one
pub has-move : (x : List ℕ) (o : Option TacticName) → IfSome o (λ t. word_of t ≡ x) → ((t : TacticName) → word_of t ≡ x → o ≡ Some t) →
    is_some o ≡ list_any (λ t. bytes_eq x (word_of t)) moves
has-move x (Some t) e all = sym (any-move (λ s. bytes_eq x (word_of s)) t ((bytes_eq-Decides x (word_of t)).1 (sym e)))
has-move x None e all =
    sym
    (no-move
    (λ s. bytes_eq x (word_of s))
    (λ s. false_unless (bytes_eq x (word_of s)) (λ same. (let found = all s (sym ((bytes_eq-Decides x (word_of s)).0 same)) in cc)))
    moves)

-- ---- faults

faults_append : (ws vs : List Word) → move_faults (ws ++ vs) ≡ move_faults ws ++ move_faults vs
faults_append [] vs = refl
faults_append (w ∷ ws) vs =
    ap (λ (fs : List Fault). fault_if (not (list_any (λ t. bytes_eq w.text (word_of t)) moves)) w.at Unknown ++ fs) (faults_append ws vs)
    ∙ sym (append_assoc (fault_if (not (list_any (λ t. bytes_eq w.text (word_of t)) moves)) w.at Unknown) (move_faults ws) (move_faults vs))

words_append : (ts us : List Token) → words (ts ++ us) ≡ words ts ++ words us
words_append [] us = refl
words_append (t ∷ ts) us = ap (λ (ws : List Word). word t ∷ ws) (words_append ts us)

-- the first fault with one name more
pub least-more : LeastLaw → (ts : List Token) (i : ℕ) (d : Token) → i < length ts →
    sooner (least (move_faults (words (take i ts)))) (least (move_faults (word (get_or ts i d) ∷ []))) ≡ least (move_faults (words (take (i + 1) ts)))
least-more law ts i d l =
    sym (law (move_faults (words (take i ts))) (move_faults (word (get_or ts i d) ∷ [])))
    ∙ ap least
    (sym (faults_append (words (take i ts)) (word (get_or ts i d) ∷ []))
    ∙ ap move_faults (sym (words_append (take i ts) (get_or ts i d ∷ [])) ∙ ap words (sym (take_more ts i d l))))
