use Rattle.std.specs.Prelude.{◌&&◌}
use Rattle.opa_case.specs.Shapes.{shape_of}
use Rattle.opa_case.specs.Listed.{is_indexed}
use Rattle.opa_case.specs.Touched.{may_refer}
use Rattle.opa_case.proofs.Touching.{Leads}
use Rattle.opa_case.proofs.lists_naming.add_indexed.Given as goal

abbrev pub invariant-loop-number : goal.invariant-loop-number
invariant-loop-number l =
    Leads l.fn.keys l.keys (λ q j. may_refer (shape_of l.model) l.inst q && is_indexed l.index.entries q l.inst.name j)
    (λ q j. may_refer (shape_of l.model) l.inst q && is_indexed l.number-iterator q l.inst.name j)
