-- What is printed of a rulebase.
use Rattle.std.specs.Prelude.{ℕ, List, Ok}
use Rattle.opa_tree.specs.declared.rulebase.Rulebase.{Rulebase}
use Rattle.opa_rulebase.specs.Loading.{Opens}
use Rattle.opa_rules.specs.Printing.Same.{IsSame}
use Rattle.opa_rules.specs.Printing.Shelves.{one_file}

-- The text, as the only file, opens the same rulebase.
pub record IsPrintOf (name : List ℕ) (base : Rulebase) (text : List ℕ) : Type 0 where
  pub other : Rulebase
  pub opens : Opens (one_file name text) name (Ok other)
  pub same : IsSame base other
