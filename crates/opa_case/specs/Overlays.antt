-- The case that a list makes which isn't written yet.
use Rattle.std.specs.Option.{option_copied}
use Rattle.opa_case.specs.Shapes.{shape_of}
use Rattle.opa_case.specs.Cases.{CaseView}
use Rattle.opa_case.specs.Relists.{relisted}
use Rattle.opa_case.specs.declared.relisted.Relisted.{Relisted}

abbrev pub relisted_case : Relisted → CaseView
relisted_case n = relisted (shape_of n.model.now) n.case.now n.rel n.inst.now (option_copied n.names)
