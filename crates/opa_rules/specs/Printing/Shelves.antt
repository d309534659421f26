-- A shelf with one file.
use Rattle.std.specs.Prelude.{ℕ, List, [], ◌∷◌}
use Rattle.std.specs.FinMap.{from_entries}
use Rattle.opa_io.specs.Outside.{Files}

abbrev pub one_file : List ℕ → List ℕ → Files
one_file name text = from_entries ((name, text) ∷ [])
