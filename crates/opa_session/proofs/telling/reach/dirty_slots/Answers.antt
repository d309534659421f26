use Rattle.std.proofs.Common.{List, filter, length, ◌∙◌, ap}
use Rattle.opa_model.specs.declared.ids.AttrId.{AttrId}
use Rattle.opa_cells.specs.declared.instance.InstanceId.{InstanceId}
use Rattle.opa_mean.specs.Changes.{is_dirty}
use Rattle.opa_mean.specs.Given.{base_of, facts_of}
use Rattle.opa_session.proofs.telling.Walked.{are_slots}
use Rattle.opa_session.proofs.telling.reach.dirty_slots.Goals as goal

pub count_dirty-requires-clause-slots : goal.count_dirty-requires-clause-slots
count_dirty-requires-clause-slots g c = are_slots (g.K.Held.rules c.args.new.now) (g.K.Held.held c.args.new.now) c.case-case.ensures.fits c.as_slice-items.result.now (c.as_slice-items.ensures ∙ c.in_ok-all.ensures)

pub returns : goal.returns
returns g c =
    c.in_ok-count.ensures ∙ ap (λ (xs : List (AttrId × InstanceId)). length (filter (λ s. is_dirty (base_of (g.K.Held.rules c.args.new.now)) (facts_of (g.H.Held.held c.args.old.now)) (facts_of (g.K.Held.held c.args.new.now)) s.0 s.1) xs)) (c.as_slice-items.ensures ∙ c.in_ok-all.ensures)
