use Rattle.std.proofs.Common.{◌∙◌, sym, ap, nat_le}
use Rattle.opa_tree.specs.Trees.{depth}
use Rattle.opa_tree.proofs.DepthLaws.{none_within}
use Rattle.opa_tree.proofs.depth.+walk.Goals as goal

pub is_within-returns-then-levels-eq0 : goal.is_within-returns-then-levels-eq0
is_within-returns-then-levels-eq0 t c = sym (ap (nat_le (depth c.args.expr.now)) c.if-levels-eq0.true ∙ none_within c.args.expr.now)
