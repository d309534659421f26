use Rattle.std.proofs.Common.{◌+◌, ◌∷◌, [], ◌∙◌, ap, length, take, length-append, subst, sym, arith}
use Rattle.opa_io.proofs.Places.{take_whole}
use Rattle.opa_report.specs.Spreading.{AreLines}
use Rattle.opa_report.proofs.LinesOfParts.{lines_step}
use Rattle.opa_report.proofs.part_lines.lines_of.Goals as goal

pub loop-tree-preserved : goal.loop-tree-preserved
loop-tree-preserved g c = (
  ap length c.in_ok-push.ensures.ok ∙ omega (arith, length-append c.loop-tree.lines (c.in_ok-line.line ∷ []), c.loop-tree.invariant.0),
  λ live found known. subst (λ xs. AreLines (g.S.Sight.shape c.args.sight.now) (g.S.Sight.look c.args.sight.now) c.args.enclosing.now (take (c.loop-tree.tree-index + 1) c.args.trees.now) xs) (sym c.in_ok-push.ensures.ok)
      (lines_step (g.S.Sight.shape c.args.sight.now) (g.S.Sight.look c.args.sight.now) c.args.enclosing.now c.args.trees.now c.loop-tree.lines c.loop-tree.tree-index c.tree-item.result c.in_ok-line.line c.loop-tree-test.true c.tree-item.is (c.loop-tree.invariant.1 live found known) (c.in_ok-line.ensures.line live (c.loop-tree.invariant.2 live found known).1)),
  λ live found known. c.in_ok-line.ensures.stay live found (c.loop-tree.invariant.2 live found known),
)

pub returns-clause-lines : goal.returns-clause-lines
returns-clause-lines g c = λ live found known.
    subst (λ ts. AreLines (g.S.Sight.shape c.args.sight.now) (g.S.Sight.look c.args.sight.now) c.args.enclosing.now ts c.loop-tree.lines) (take_whole c.args.trees.now c.loop-tree.tree-index c.loop-tree-test.false) (c.loop-tree.invariant.1 live found known)
