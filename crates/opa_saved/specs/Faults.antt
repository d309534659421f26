-- The numbers of faults.
use Rattle.std.specs.Prelude.{ℕ}
use Rattle.opa_saved.specs.declared.fault.LoadFault.{LoadFault}
use Rattle.opa_saved.specs.declared.fault.LoadFault.TheVariants.{NotJson, Shape, Name, Kind, Range, Limit, NoMemory}

-- 1 to 6; want of memory has none
abbrev pub fault_number : LoadFault → ℕ
fault_number NotJson = 1
fault_number Shape = 2
fault_number Name = 3
fault_number Kind = 4
fault_number Range = 5
fault_number Limit = 6
fault_number NoMemory = 0
