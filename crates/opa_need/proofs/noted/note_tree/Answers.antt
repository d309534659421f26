use Rattle.std.proofs.Common.{List, sym, subst}
use Rattle.std.proofs.lemmas.Result.{on_ok_weaker}
use Rattle.opa_cells.specs.declared.instance.InstanceId.{InstanceId}
use Rattle.opa_need.specs.Finding.{AreFound}
use Rattle.opa_need.specs.Steps.{tree_needs}
use Rattle.opa_need.proofs.noted.note_tree.Goals as goal

pub returns : goal.returns
returns c = on_ok_weaker c.put.result (λ h r k found there before. h r k found (subst (λ (e : List InstanceId). AreFound found (tree_needs r k c.args.tree.now e c.args.day)) (sym c.in_ok-enclosing.ensures) there) before) c.put.ensures
