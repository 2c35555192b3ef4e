-- Pieces one behind the other.
use Rattle.std.proofs.Common.{◌≡◌, ◌∙◌, ℕ, zero, suc, List, [], ◌∷◌, take, drop, refl, sym, ap}
use Rattle.std.proofs.lemmas.List.{take-map, drop-map}
use Rattle.pg_base.specs.declared.token.Token.{Token}
use Rattle.pg_base.specs.Tokens.{Word, word}
use Rattle.pg_script.specs.Marks.{place}
use Rattle.pg_script.specs.View.{words}
use Rattle.pg_gametext.specs.Commands.{Piece, is_passed, body_length, pieces, pieces_from}

-- behind the first so many tokens the cut begins anew
from_drop : (n end : ℕ) (ws : List Word) → pieces_from n end ws ≡ pieces end (drop n ws)
from_drop zero end ws = refl
from_drop (suc n) end [] = refl
from_drop (suc n) end (w ∷ ws) = from_drop n end ws

abbrev cut_at : (end : ℕ) (w : Word) (ws : List Word) (n : ℕ) → List Piece
cut_at end w ws n = record { word = w; body = take n ws; end = place end (drop n ws) } ∷ pieces_from n end ws

abbrev piece_then : (end : ℕ) (w : Word) (body rest : List Word) → List Piece
piece_then end w body rest = record { word = w; body = body; end = place end rest } ∷ pieces end rest

-- the first piece, and those of the tokens behind it
pub first_cut : (end : ℕ) (tokens : List Token) (w : Token) (ts : List Token) (n e : ℕ) → tokens ≡ w ∷ ts → n ≡ body_length (is_passed (word w)) (words ts)
    → e ≡ place end (words (drop n ts))
    → pieces end (words tokens) ≡ record { word = word w; body = words (take n ts); end = e } ∷ pieces end (words (drop n ts))
first_cut end tokens w ts n e tis nis eis =
    let ws = words ts in
    let taken : take n ws ≡ words (take n ts) = take-map word n ts in
    let left : drop n ws ≡ words (drop n ts) = drop-map word n ts in
    ap (λ (l : List Token). pieces end (words l)) tis
    ∙ (ap (cut_at end (word w) ws) (sym nis)
    ∙ (ap (λ (ps : List Piece). record { word = word w; body = take n ws; end = place end (drop n ws) } ∷ ps) (from_drop n end ws)
    ∙ (ap (λ (b : List Word). piece_then end (word w) b (drop n ws)) taken
    ∙ (ap (piece_then end (word w) (words (take n ts))) left
    ∙ ap (λ (x : ℕ). record { word = word w; body = words (take n ts); end = x } ∷ pieces end (words (drop n ts))) (sym eis)))))
