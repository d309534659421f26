use Rattle.opa_case.proofs.Listing.{without_more, unnamed_more}
use Rattle.opa_case.proofs.listed.take_each.Goals as goal

pub loop-inst-preserved : goal.loop-inst-preserved
loop-inst-preserved c = record {
  cells = without_more c.args.cells.now c.loop-inst.cells c.args.number c.loop-inst.yielded c.in-Some.inst c.in-Some.field-0-1 c.take_out.new.cells c.loop-inst.invariant.cells c.take_out.ensures.cells;
  index = unnamed_more c.args.cells.now c.loop-inst.cells c.args.number c.loop-inst.yielded c.in-Some.inst c.in-Some.field-0-1 c.args.index.now.entries c.loop-inst.index.entries c.take_out.new.index.entries c.loop-inst.invariant.cells c.loop-inst.invariant.index c.take_out.ensures.index;
}

pub loop-inst-preserved-in-Some : goal.loop-inst-preserved-in-Some
loop-inst-preserved-in-Some c = record {
  cells = without_more c.args.cells.now c.loop-inst.cells c.args.number c.loop-inst.yielded c.in-Some.inst c.in-Some.field-0-1 c.take_out.new.cells c.loop-inst.invariant.cells c.take_out.ensures.cells;
  index = unnamed_more c.args.cells.now c.loop-inst.cells c.args.number c.loop-inst.yielded c.in-Some.inst c.in-Some.field-0-1 c.args.index.now.entries c.loop-inst.index.entries c.take_out.new.index.entries c.loop-inst.invariant.cells c.loop-inst.invariant.index c.take_out.ensures.index;
}
