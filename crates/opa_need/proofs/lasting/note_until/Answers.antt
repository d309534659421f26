use Rattle.std.proofs.Common.{List, sym, subst}
use Rattle.std.proofs.lemmas.Result.{on_ok_weaker}
use Rattle.opa_cells.specs.declared.instance.InstanceId.{InstanceId}
use Rattle.opa_need.specs.Steps.{Settles, tree_needs}
use Rattle.opa_need.proofs.lasting.note_until.Goals as goal

pub returns : goal.returns
returns c = on_ok_weaker c.put.result (λ h r k found runs there before. h r k found runs (subst (λ (e : List InstanceId). Settles r k found runs (tree_needs r k c.args.tree.now e) c.args.day c.args.until) (sym c.in_ok-enclosing.ensures) there) before) c.put.ensures
