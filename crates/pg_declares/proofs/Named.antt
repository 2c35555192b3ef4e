-- Tokens that have texts.
use Rattle.std.proofs.Common.{◌≢◌, ◌<◌, ℕ, List, [], length, subst, sym, slice_index_or}
use Rattle.std.proofs.lemmas.List.{length-map, get_or-map}
use Rattle.pg_base.specs.declared.token.Token.{Token}
use Rattle.pg_base.specs.Tokens.{Word, word}
use Rattle.pg_script.specs.View.{words}
use Rattle.pg_declares.specs.Judged.{AreNamed}

pub named_token : (tokens : List Token) (k : ℕ) (d : Token) → AreNamed (words tokens) → k < length tokens → (slice_index_or tokens k d).text.now ≢ []
named_token tokens k d h lt =
    subst (λ (w : Word). w.text ≢ []) (get_or-map word tokens k d (word d) lt) (h k (word d) (subst (λ n. k < n) (sym (length-map tokens word)) lt))
