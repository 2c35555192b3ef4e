-- The words of hints in a block that does not read.
use Rattle.std.specs.Prelude.{ℕ, ◌-◌, Bool, true, List, [], ◌∷◌, ◌++◌, if◌then◌else◌, nat_lt, ◌==◌}
use Rattle.std.specs.List.{list_any}
use Rattle.pg_base.specs.Tokens.{Word}
use Rattle.pg_base.specs.Spans.{token_end}
use Rattle.pg_script.specs.Marks.{place}
use Rattle.pg_script.specs.Scripts.{items_of}
use Rattle.pg_gametext.specs.Checks.{some_text, hints_of, is_hint_word}

-- the place of this token, if it is the word of a hint
abbrev pub word_hint : List Word → Word → List ℕ
word_hint front w = if is_hint_word front w then w.at ∷ [] else []

-- whether a text behind this token ends over 16,384 bytes behind the first token
abbrev pub is_far : List Word → Word → Bool
is_far front w = nat_lt 16384 (token_end (some_text w) - place w.at front)

-- whether a text behind this token makes it the word of a hint
abbrev pub reads_hint : List Word → Word → Bool
reads_hint front w = list_any (λ at. at == w.at) (hints_of (items_of (front ++ w ∷ some_text w ∷ []) (token_end (some_text w)) true))
