use Rattle.std.proofs.Common.{List, ◌∙◌, subst}
use Rattle.std.specs.List.{AllZip}
use Rattle.opa_model.specs.declared.ids.AttrId.{AttrId}
use Rattle.opa_cells.specs.declared.instance.InstanceId.{InstanceId}
use Rattle.opa_mean.specs.Given.{base_of, facts_of}
use Rattle.opa_session.specs.Telling.Telling.{TellsOf, changes_among}
use Rattle.opa_session.proofs.telling.Walked.{are_slots}
use Rattle.opa_session.proofs.telling.tell.changes.Goals as goal

pub changes_of-requires-clause-slots : goal.changes_of-requires-clause-slots
changes_of-requires-clause-slots g c = are_slots (g.K.Held.rules c.args.new.now) (g.K.Held.held c.args.new.now) c.case-case.ensures.fits c.as_slice-items.result.now (c.as_slice-items.ensures ∙ c.in_ok-all.ensures)

pub returns : goal.returns
returns g c =
    subst (λ (xs : List (AttrId × InstanceId)). AllZip (TellsOf (g.K.Held.rules c.args.new.now).model) (changes_among (base_of (g.K.Held.rules c.args.new.now)) (facts_of (g.H.Held.held c.args.old.now)) (facts_of (g.K.Held.held c.args.new.now)) xs) c.in_ok-told.told.items)
    (c.as_slice-items.ensures ∙ c.in_ok-all.ensures) c.in_ok-told.ensures
