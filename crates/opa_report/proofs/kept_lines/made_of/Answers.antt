use Rattle.std.proofs.Common.{◌∙◌}
use Rattle.opa_io.proofs.Places.{take_whole}
use Rattle.opa_report.proofs.LinesKept.{made_is}
use Rattle.opa_report.proofs.kept_lines.made_of.Goals as goal

pub returns : goal.returns
returns c = λ s l stands. made_is s l c.args.tree.now c.args.enclosing.now c.loop-inst.copied c.args.line.now c.in_ok-line.line (c.loop-inst.invariant ∙ take_whole c.args.enclosing.now c.loop-inst.inst-index c.loop-inst-test.false) stands c.in_ok-line.ensures
