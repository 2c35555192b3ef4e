-- Tokens in order end at the end or before it.
use Rattle.std.proofs.Common.{◌≡◌, ℕ, ◌≤◌, ◌<◌, ◌^◌, List, [], ◌∷◌, drop, subst, arith}
use Rattle.pg_base.specs.declared.token.Token.{Token}
use Rattle.pg_base.specs.Tokens.{Word, word}
use Rattle.pg_script.specs.View.{words}
use Rattle.pg_base.specs.Spans.{AreInOrder, token_end}

pub order_bound : (at end : ℕ) (ws : List Word) → AreInOrder at end ws → at ≤ end
order_bound at end [] h = h
order_bound at end (w ∷ ws) h = omega (arith, h.0, order_bound (token_end w) end ws h.1)

-- the token at an index ends at the end or before it
pub bound_at : (reached end i : ℕ) (ts rest : List Token) (t : Token) → drop i ts ≡ t ∷ rest → AreInOrder reached end (words (drop i ts)) → end < 2 ^ 32 → token_end (word t) < 2 ^ 32
bound_at reached end i ts rest t is h small =
    let P : List Token → Type 0 = λ xs. AreInOrder reached end (words xs) in
    let g : AreInOrder reached end (words (t ∷ rest)) = subst P is h in
    omega (arith, small, order_bound (token_end (word t)) end (words rest) g.1)
