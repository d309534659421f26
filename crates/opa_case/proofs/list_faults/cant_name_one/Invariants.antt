use Rattle.std.specs.Prelude.{◌≡◌, false, take}
use Rattle.std.specs.List.{list_any}
use Rattle.opa_case.specs.Shapes.{shape_of}
use Rattle.opa_case.specs.Steps.{cant_name}
use Rattle.opa_case.proofs.list_faults.cant_name_one.Given as goal

abbrev pub invariant-loop-name : goal.invariant-loop-name
invariant-loop-name g l = list_any (cant_name (shape_of l.model) (g.S.Standing.case l.case) l.rel l.inst) (take l.name-index l.names) ≡ false
