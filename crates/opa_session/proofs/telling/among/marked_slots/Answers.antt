use Rattle.std.proofs.Common.{List, length, sym, ◌∙◌, ap, subst}
use Rattle.opa_model.specs.declared.ids.AttrId.{AttrId}
use Rattle.opa_cells.specs.declared.instance.InstanceId.{InstanceId}
use Rattle.opa_case.specs.Shapes.{shape_of}
use Rattle.opa_tree.specs.declared.rulebase.Rulebase.{Rulebase}
use Rattle.opa_session.specs.Telling.Among.{AreChosen, marked_among}
use Rattle.opa_session.specs.Telling.Wanted.{AreAmong, has_wanted}
use Rattle.opa_session.proofs.telling.Choosing.{chosen_by_marks}
use Rattle.opa_session.proofs.telling.among.marked_slots.Goals as goal

pub returns : goal.returns
returns g c = λ old told same are have.
    let r = g.K.Lined.rules c.args.held.now in let n = g.K.Lined.over c.args.held.now in
    let lists = c.as_slice-lists.result.now in let marks = c.in_ok-marks.marks in let w = has_wanted c.in_ok-sought.sought.wanted in
    let among : AreAmong (length r.model.entities) n.live w lists = subst (AreAmong (length r.model.entities) n.live w) (sym c.as_slice-lists.ensures) c.in_ok-live.ensures in
    subst (λ (xs : List (AttrId × InstanceId)). AreChosen r old n xs)
    (sym (c.in_ok-all.ensures ∙ ap (λ (q : Rulebase). marked_among (shape_of q.model) lists marks c.args.attrs.now) c.base-base.ensures.base ∙ ap (marked_among (shape_of r.model) lists marks) (sym same)))
    (chosen_by_marks r old n c.base-base.ensures.fits c.args.slots.now have told are lists w among c.in_ok-sought.ensures.each marks c.in_ok-marks.ensures)
