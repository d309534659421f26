use Rattle.opa_rules.proofs.reviewing.TreeLaws.{same_tree_by}
use Rattle.opa_rules.proofs.same_trees.is_same.Goals as goal

pub returns : goal.returns
returns c = same_tree_by c.same_tree.result c.args.tree.now c.args.other.now c.same_tree.ensures
