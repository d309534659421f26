-- The records of a table.
use Rattle.std.specs.Prelude.{ℕ, List}
use Rattle.csv.specs.Reading.{default_config, records, strip_bom}
use Rattle.opa_words.specs.Layout.Lines.{without_mark}

-- the records that `csv` defines for these bytes: a comma between cells, quotes doubled inside quotes, no heading of its own, any number of cells, nothing trimmed
unfoldable pub csv_records : List ℕ → List (List (List ℕ))
csv_records bytes = records default_config (strip_bom bytes)

-- without the byte order mark that a file may begin with
abbrev pub table_records : List ℕ → List (List (List ℕ))
table_records bytes = csv_records (without_mark bytes)
