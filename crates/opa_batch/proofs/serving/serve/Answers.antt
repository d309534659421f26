use Rattle.std.proofs.Common.{inr, refl, subst}
use Rattle.opa_io.proofs.Appended.{Appends-none}
use Rattle.opa_rulebase.specs.Loading.{HasLoadError}
use Rattle.opa_batch.specs.Serving.{Serves}
use Rattle.opa_batch.proofs.ServeLaws.{decides_beside, refusal_opened}
use Rattle.opa_batch.proofs.serving.serve.Goals as goal

pub returns-in-Ok-clause-serves : goal.returns-in-Ok-clause-serves
returns-in-Ok-clause-serves g c =
    let old = c.args.shelf.now in let new = c.load_rulebase.new.shelf in
    Serves.decides c.in-Ok.base c.declares_a_model.ensures c.in-Ok.ensures.accepted c.in-Ok.ensures.files
    (decides_beside c.in-Ok.base _ _ (g.F.Shelf.files old) (g.F.Shelf.files new) (g.F.Shelf.take_faults old) (g.F.Shelf.take_faults new) (g.F.Shelf.keep_faults old) (g.F.Shelf.keep_faults new) c.decide.result c.decide.ensures.decides)

pub returns-in-Refused-clause-serves : goal.returns-in-Refused-clause-serves
returns-in-Refused-clause-serves g c =
    let old = c.args.shelf.now in let new = c.load_rulebase.new.shelf in
    Serves.refuses c.in-Refused.text
    (refusal_opened (g.F.Shelf.files old) c.args.name.now (g.F.Shelf.take_faults old) (g.F.Shelf.take_faults new) c.in-Err.error c.in-Refused.fault c.in-Refused.text c.in-Refused.is c.in-Err.ensures.refused)
    (record { left = refl; files = c.in-Err.ensures.files }) (rw (c.as_bytes.ensures.value, c.as_str.ensures) at c.tell.ensures)

pub returns-in-ReadFault-clause-serves : goal.returns-in-ReadFault-clause-serves
returns-in-ReadFault-clause-serves g c =
    let old = c.args.shelf.now in let new = c.load_rulebase.new.shelf in
    Serves.cannot_take
    (subst (HasLoadError (g.F.Shelf.files old) c.args.name.now (g.F.Shelf.take_faults old) (g.F.Shelf.take_faults new)) c.in-ReadFault.is c.in-Err.ensures.refused)
    (record { left = refl; files = c.in-Err.ensures.files }) (Appends-none _)

pub returns-clause-serves : goal.returns-clause-serves
returns-clause-serves g c = Serves.cannot_hold (record { left = refl; files = c.in-Err.ensures.files }) (Appends-none _)

pub returns-in-Ok-clause-counts : goal.returns-in-Ok-clause-counts
returns-in-Ok-clause-counts g c = inr (c.in-Ok.base, c.in-Ok.ensures.accepted, c.decide.ensures.counts)
