-- The records of a file by csv's default reading, the header as a record like the others, with any number of fields.
use Rattle.std.specs.Prelude.{ℕ, List}
use Rattle.csv.specs.Reading.{default_config, records, strip_bom}

-- each record as its fields
abbrev pub file_records : List ℕ → List (List (List ℕ))
file_records bytes = records default_config (strip_bom bytes)
