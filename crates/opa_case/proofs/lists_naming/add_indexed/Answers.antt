use Rattle.opa_case.specs.Shapes.{shape_of}
use Rattle.opa_case.proofs.Touching.{rows_more, rows_end}
use Rattle.opa_case.proofs.lists_naming.add_indexed.Goals as goal

pub loop-number-preserved : goal.loop-number-preserved
loop-number-preserved c =
    rows_more c.args.keys.now c.loop-number.keys c.add_of_row.new.keys (shape_of c.args.model.now) c.args.inst.now c.loop-number.number-iterator c.args.index.now.entries c.in-Some.number.now c.in-Some.row.now c.next.new.self
    c.in-Some.ensures.steps c.loop-number.invariant c.in_ok-add_of_row.ensures

pub returns : goal.returns
returns c = rows_end c.args.keys.now c.loop-number.keys (shape_of c.args.model.now) c.args.inst.now c.loop-number.number-iterator c.args.index.now.entries c.in-None.ensures.steps.0 c.loop-number.invariant
