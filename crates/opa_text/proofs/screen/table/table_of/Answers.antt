use Rattle.std.proofs.Common.{arith, ◌≡◌, ◌+◌, ◌-◌}
use Rattle.opa_text.proofs.screen.TableLaws.{all_there, none_yet, screen_more}
use Rattle.opa_text.proofs.screen.table.table_of.Goals as goal

pub loop-left-init : goal.loop-left-init
loop-left-init c = (none_yet c.args.model.now.screens c.screen_count-left.result c.new-table.result c.screen_count-left.ensures.count c.new-table.ensures, omega (arith, c.screen_count-left.ensures.count))

pub loop-left-preserved : goal.loop-left-preserved
loop-left-preserved c =
    (screen_more c.args.model.now.screens (c.loop-left.left - 1) c.loop-left.left c.screen.result.now c.as_slice.result.now c.loop-left.table c.add.new.self (let behind : c.loop-left.left ≡ c.loop-left.left - 1 + 1 = omega (arith, c.loop-left-test.true) in behind) c.screen.ensures c.as_slice.ensures c.in_ok-add.ensures c.loop-left.invariant.0, omega (arith, c.loop-left.invariant.1))

pub returns : goal.returns
returns c = all_there c.args.model.now c.loop-left.left c.loop-left.table (omega (arith, c.loop-left-test.false)) c.loop-left.invariant.0
