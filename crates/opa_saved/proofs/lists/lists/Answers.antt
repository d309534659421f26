use Rattle.std.proofs.Common.{◌++◌, map, ap, ◌∙◌}
use Rattle.serde_json.specs.View.{view}
use Rattle.opa_saved.specs.Told.{lists_told}
use Rattle.opa_saved.proofs.SavedLaws.{told_none, told_next}
use Rattle.opa_saved.proofs.lists.lists.Goals as goal

pub loop-n-init : goal.loop-n-init
loop-n-init c = ap (map view) c.new-out.ensures.items ∙ told_none c.args.model.now c.args.case.now

pub loop-n-preserved : goal.loop-n-preserved
loop-n-preserved c = c.in_ok-add_relation.ensures ∙ ap (λ x. x ++ lists_told c.args.model.now c.args.case.now c.loop-n.n) c.loop-n.invariant ∙ told_next c.args.model.now c.args.case.now c.loop-n.n
