use Rattle.std.specs.Prelude.{take}
use Rattle.std.specs.List.{list_any}
use Rattle.std.specs.FinMap.{get}
use Rattle.opa_case.specs.Lost.{refers_to}
use Rattle.opa_case.specs.Shapes.{shape_of}
use Rattle.opa_case.specs.Touched.{AddsKeys}
use Rattle.opa_case.proofs.touched.add_naming_each.Given as goal

abbrev pub invariant-loop-inst : goal.invariant-loop-inst
invariant-loop-inst l = AddsKeys l.fn.keys l.keys (λ q j. list_any (λ g. refers_to (shape_of l.model) g.0 q (get l.lists (q, j))) (take l.inst-index l.gone))
