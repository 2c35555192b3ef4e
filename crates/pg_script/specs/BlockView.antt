-- Items that were read, as plain data.
use Rattle.std.specs.Prelude.{ℕ, List, map, Option, option_map}
use Rattle.std.specs.Borrow.{Bor}
use Rattle.pg_base.specs.declared.token.Token.{Token}
use Rattle.pg_base.specs.Tokens.{Word}
use Rattle.pg_script.specs.declared.item.Item.{Item}
use Rattle.pg_script.specs.Data.{Entry}
use Rattle.pg_script.specs.View.{words, entry, rest_words}

abbrev pub read_entry : Item × ℕ × Bor (List Token) → Entry × ℕ × List Word
read_entry x = (entry x.0, x.1, words x.2.now)

abbrev pub read_entries : List Item × ℕ × Bor (List Token) → List Entry × ℕ × List Word
read_entries x = (map entry x.0, x.1, words x.2.now)

abbrev pub rest_of : Option (Bor (List Token)) → Option (List Word)
rest_of = option_map rest_words
