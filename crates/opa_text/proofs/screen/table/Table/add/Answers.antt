use Rattle.opa_text.proofs.screen.TableLaws.{item_more, items_done}
use Rattle.opa_text.proofs.screen.table.Table.add.Goals as goal

pub loop-item-preserved : goal.loop-item-preserved
loop-item-preserved c = item_more c.args.items.now c.loop-item.rest.now c.in-Some.later.now c.in-Some.item.now c.args.number c.args.self.now c.loop-item.self c.add_one.new.self c.in-Some.ensures c.in_ok-add_one.ensures c.loop-item.invariant

pub returns : goal.returns
returns c = items_done c.args.items.now c.loop-item.rest.now c.args.number c.args.self.now c.loop-item.self c.in_default.ensures c.loop-item.invariant
