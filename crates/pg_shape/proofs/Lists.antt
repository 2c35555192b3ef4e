-- Lists of the Rust side and of the grammar, one more at the end.
use Rattle.std.proofs.Common.{◌≡◌, List, [], ◌∷◌, ◌++◌, map}
use Rattle.std.proofs.lemmas.List.{map-append}
use Rattle.pg_shape.specs.View.{word, bracket}
use Rattle.pg_shape.specs.declared.shape.Word.{Word}
use Rattle.pg_shape.specs.declared.shape.Bracket.{Bracket}

pub words_push : (ws : List Word) (w : Word) → map word (ws ++ w ∷ []) ≡ map word ws ++ word w ∷ []
words_push ws w = map-append word ws (w ∷ [])

pub brackets_push : (bs : List Bracket) (b : Bracket) → map bracket (bs ++ b ∷ []) ≡ map bracket bs ++ bracket b ∷ []
brackets_push bs b = map-append bracket bs (b ∷ [])

pub ruleset reads = (words_push, brackets_push)
