-- Keys of cells: a number, as that of an attribute or a relation, and an instance.
use Rattle.std.specs.Prelude.{ℕ}
use Rattle.std.specs.Ordering.{nat_cmp, ordering_then}
use Rattle.std.specs.declared.cmp.Ordering.{Ordering}
use Rattle.std.specs.Coded.{Coded, coded×, coded_ℕ}
use Rattle.opa_cells.specs.declared.instance.InstanceId.{InstanceId}
use Rattle.opa_cells.specs.Instances.{instance_cmp, coded_instance}

-- by number, and then by instance
abbrev pub cell_cmp : ℕ × InstanceId → ℕ × InstanceId → Ordering
cell_cmp x y = ordering_then (nat_cmp x.0 y.0) (instance_cmp x.1 y.1)

abbrev pub coded_key : Coded (ℕ × InstanceId)
coded_key = coded× coded_ℕ coded_instance
