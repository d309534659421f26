use Rattle.std.proofs.Common.{◌≡◌, map, take}
use Rattle.opa_case.specs.Shapes.{shape_of}
use Rattle.opa_code.specs.Coding.{coded}
use Rattle.opa_code.proofs.rules.code_each.Given as goal

abbrev pub invariant-loop-rule : goal.invariant-loop-rule
invariant-loop-rule l = l.codes ≡ map (coded (shape_of l.model)) (take l.rule-index l.rules)
