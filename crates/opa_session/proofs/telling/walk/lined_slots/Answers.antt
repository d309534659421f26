use Rattle.std.proofs.Common.{refl, sym, ◌∙◌, ap, subst}
use Rattle.std.specs.Prelude.{length, true}
use Rattle.opa_case.specs.Shapes.{shape_of}
use Rattle.opa_session.specs.Telling.Walking.{slots_over}
use Rattle.opa_session.specs.Telling.Wanted.{AreAmong}
use Rattle.opa_session.proofs.telling.Walked.{slots_among}
use Rattle.opa_session.proofs.telling.walk.lined_slots.Goals as goal

pub instances_among-requires : goal.instances_among-requires
instances_among-requires g c i d h e = refl

pub returns : goal.returns
returns g c =
    let r = g.K.Lined.rules c.args.held.now in let n = g.K.Lined.over c.args.held.now in let lists = c.as_slice-lists.result.now in
    c.in_ok-all.ensures ∙ ap (slots_over (shape_of c.base-base.result.now.model) lists) (c.as_slice-attrs.ensures ∙ c.in_ok-order.ensures)
    ∙ slots_among c.base-base.result.now r n c.base-base.ensures.base c.base-base.ensures.fits lists (subst (AreAmong (length r.model.entities) n.live (λ i. true)) (sym c.as_slice-lists.ensures) c.in_ok-live.ensures)
