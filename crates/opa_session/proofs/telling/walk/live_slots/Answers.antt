use Rattle.std.proofs.Common.{sym, ◌∙◌, ap, subst}
use Rattle.std.specs.Prelude.{length}
use Rattle.opa_case.specs.Instances.{AreInstances}
use Rattle.opa_case.specs.Shapes.{shape_of}
use Rattle.opa_session.specs.Telling.Walking.{slots_over}
use Rattle.opa_session.proofs.telling.Walked.{slots_are}
use Rattle.opa_session.proofs.telling.walk.live_slots.Goals as goal

pub returns : goal.returns
returns c =
    let r = c.args.base.now in let k = c.args.case.now in
    let are : AreInstances (length r.model.entities) k c.as_slice-lists.result.now = subst (AreInstances (length r.model.entities) k) (sym c.as_slice-lists.ensures) c.in_ok-live.ensures in
    c.in_ok-all.ensures ∙ ap (slots_over (shape_of r.model) c.as_slice-lists.result.now) (c.as_slice-attrs.ensures ∙ c.in_ok-order.ensures) ∙ slots_are r k c.requires c.as_slice-lists.result.now are
