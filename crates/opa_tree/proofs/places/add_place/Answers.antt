use Rattle.std.proofs.Common.{arith}
use Rattle.opa_tree.proofs.PlaceLaws.{placed_past}
use Rattle.opa_tree.proofs.places.add_place.Goals as goal

pub returns-else-rule-len : goal.returns-else-rule-len
returns-else-rule-len c before here are = placed_past before c.args.rule.now c.args.places.now.items are (omega (arith, c.if-rule-len.false, c.len.ensures))
