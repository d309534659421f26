use Rattle.std.proofs.Common.{List, sym, ◌∙◌, ap, subst}
use Rattle.std.specs.List.{AllZip}
use Rattle.opa_model.specs.declared.ids.AttrId.{AttrId}
use Rattle.opa_cells.specs.declared.instance.InstanceId.{InstanceId}
use Rattle.opa_mean.specs.Changes.{Changed}
use Rattle.opa_mean.specs.Given.{base_of, facts_of}
use Rattle.opa_session.specs.Telling.Reaching.{AreSlots}
use Rattle.opa_session.specs.Telling.Telling.{TellsOf, changes_among}
use Rattle.opa_session.proofs.telling.among.changes_over.Goals as goal

pub lined_changes-requires-clause-slots : goal.lined_changes-requires-clause-slots
lined_changes-requires-clause-slots g c =
    let r = g.K.Lined.rules c.args.new.now in let o = g.H.Lined.over c.args.old.now in let n = g.K.Lined.over c.args.new.now in
    subst (λ (xs : List (AttrId × InstanceId)). AreSlots r n xs) (sym c.as_slice-items.ensures) (c.in_ok-chosen.ensures o c.requires.slots).live

pub returns : goal.returns
returns g c =
    let r = g.K.Lined.rules c.args.new.now in let o = g.H.Lined.over c.args.old.now in let n = g.K.Lined.over c.args.new.now in
    subst (λ (xs : List Changed). AllZip (TellsOf r.model) xs c.in_ok-told.told.items)
    (ap (changes_among (base_of r) (facts_of o) (facts_of n)) c.as_slice-items.ensures ∙ (c.in_ok-chosen.ensures o c.requires.slots).same)
    c.in_ok-told.ensures
