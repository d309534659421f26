use Rattle.opa_need.specs.Steps.{part_value}
use Rattle.opa_need.proofs.Steadiness.{value_on_line}
use Rattle.opa_need.proofs.looking.value_by_line.Goals as goal

pub returns : goal.returns
returns g c =
    let r = g.H.Held.rules c.args.held.now in let held = g.H.Held.held c.args.held.now in
    value_on_line (part_value r held c.args.tree.now c.args.enclosing.now) c.in_ok-line.line c.args.day c.at.result.now c.in_ok-value.value c.in_ok-line.ensures c.requires.day c.at.ensures c.in_ok-value.ensures
