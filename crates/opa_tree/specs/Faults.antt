-- The numbers of refusals.
use Rattle.std.specs.Prelude.{ℕ}
use Rattle.opa_tree.specs.declared.faults.RbKind.{RbKind}
use Rattle.opa_tree.specs.declared.faults.RbKind.TheVariants.{Bytes, Syntax, Name, Scope, Kind, Twice, Cycle, Limit, Missing}

abbrev pub number_of : RbKind → ℕ
number_of Bytes = 1
number_of Syntax = 2
number_of Name = 3
number_of Scope = 4
number_of Kind = 5
number_of Twice = 6
number_of Cycle = 7
number_of Limit = 8
number_of Missing = 9
