use Rattle.std.proofs.Common.{Option, IfSome, subst}
use Rattle.opa_mean.specs.Given.{base_of}
use Rattle.opa_tree.specs.declared.rulebase.Rulebase.{Rulebase}
use Rattle.opa_session.specs.Telling.Among.{AreTold}
use Rattle.opa_session.specs.declared.telling.told_attrs.ToldAttrs.{ToldAttrs}
use Rattle.opa_session.proofs.telling.Alive.{all_chosen}
use Rattle.opa_session.proofs.telling.among.chosen_or_all.Goals as goal

pub chosen_slots-requires : goal.chosen_slots-requires
chosen_slots-requires g c =
    subst (λ (q : Rulebase). AreTold (base_of q) c.args.slots.now c.in-Some.attrs) c.base-base.ensures.base
    (subst (λ (o : Option ToldAttrs). IfSome o (AreTold (base_of c.base-base.result.now) c.args.slots.now)) c.in-Some.is c.in_ok-found.ensures)

pub returns-in_ok-all-in-None : goal.returns-in_ok-all-in-None
returns-in_ok-all-in-None g c = λ old have. all_chosen (g.K.Lined.rules c.args.held.now) old (g.K.Lined.over c.args.held.now) c.base-base.ensures.fits c.in_ok-all-in-None.all c.in_ok-all-in-None.ensures
