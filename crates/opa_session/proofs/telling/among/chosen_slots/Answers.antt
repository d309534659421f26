use Rattle.std.proofs.Common.{List, sym, subst}
use Rattle.opa_model.specs.declared.ids.AttrId.{AttrId}
use Rattle.opa_cells.specs.declared.instance.InstanceId.{InstanceId}
use Rattle.opa_session.specs.Telling.Among.{AreChosen}
use Rattle.opa_session.proofs.telling.Choosing.{chosen_alone}
use Rattle.opa_session.proofs.telling.among.chosen_slots.Goals as goal

pub returns-in_ok-all : goal.returns-in_ok-all
returns-in_ok-all g c = λ old have.
    let r = g.K.Lined.rules c.args.held.now in let n = g.K.Lined.over c.args.held.now in
    subst (λ (xs : List (AttrId × InstanceId)). AreChosen r old n xs) (sym c.in_ok-all.ensures)
    (chosen_alone r old n c.base-base.ensures.fits c.args.slots.now have c.args.told.now c.requires c.if-told.true)

pub returns-in_ok-all-2 : goal.returns-in_ok-all-2
returns-in_ok-all-2 g c = λ old have. c.in_ok-all-2.ensures old c.args.told.now (sym c.as_slice-attrs.ensures) c.requires have
