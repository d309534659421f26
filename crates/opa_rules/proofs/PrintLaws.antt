-- What is read back of a print.
use Rattle.std.proofs.Common.{◌≡◌, ℕ, List, Option, Some, IfSome, Ok, subst}
use Rattle.opa_io.specs.Outside.{Files}
use Rattle.opa_tree.specs.declared.rulebase.Rulebase.{Rulebase}
use Rattle.opa_rulebase.specs.Loading.{Opens}
use Rattle.opa_rules.specs.Printing.Prints.{IsPrintOf}
use Rattle.opa_rules.specs.Printing.Same.{IsSame}
use Rattle.opa_rules.specs.Printing.Shelves.{one_file}

-- what a shelf opens whose files are known
pub opens_on : (o : Option Files) (files : Files) (name : List ℕ) (other : Rulebase) → o ≡ Some files → IfSome o (λ fs. Opens fs name (Ok other)) → Opens files name (Ok other)
opens_on o files name other e opens = subst (λ (o : Option Files). IfSome o (λ fs. Opens fs name (Ok other))) e opens

pub is_print : (name : List ℕ) (base other : Rulebase) (text : List ℕ) → Opens (one_file name text) name (Ok other) → IsSame base other → IsPrintOf name base text
is_print name base other text opens same = record { other = other; opens = opens; same = same }
