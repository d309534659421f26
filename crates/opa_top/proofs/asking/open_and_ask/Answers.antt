use Rattle.std.proofs.Common.{refl, subst}
use Rattle.opa_io.proofs.Appended.{Appends-none}
use Rattle.opa_rulebase.specs.Loading.{HasLoadError}
use Rattle.opa_top.specs.Running.{Runs, an_interview}
use Rattle.opa_top.proofs.CheckLaws.{refusal_opened}
use Rattle.opa_top.proofs.TalkLaws.{fed}
use Rattle.opa_top.proofs.asking.open_and_ask.Goals as goal

pub returns-in-Ok : goal.returns-in-Ok
returns-in-Ok g c =
    rw c.end_of.ensures (Runs.talks c.in-Ok.base c.declares_a_model.ensures c.in-Ok.ensures.accepted (fed an_interview c.in-Ok.base _ _ (g.F.Shelf.take_faults c.load_rulebase.new.shelf) c.in-Ok.ensures.later c.ask.result
    (rw c.in-Ok.ensures.files at c.ask.ensures.all) (rw (c.in-Ok.ensures.files, c.in-Ok.ensures.kept) at c.ask.ensures.part) (rw c.in-Ok.ensures.kept at c.ask.ensures.cause)))

pub returns-in-Refused : goal.returns-in-Refused
returns-in-Refused g c =
    Runs.refuses c.in-Refused.text
    (refusal_opened (g.F.Shelf.files c.args.shelf.now) c.args.name.now (g.K.Sink.written c.args.out.now) (g.K.Sink.written c.tell.new.out) (g.F.Shelf.take_faults c.args.shelf.now) (g.F.Shelf.take_faults c.load_rulebase.new.shelf) (g.K.Sink.faults c.args.out.now)
    (g.K.Sink.faults c.tell.new.out) c.in-Err.error c.in-Refused.fault c.in-Refused.text c.in-Refused.is c.in-Err.ensures.refused)
    (record { left = refl; files = c.in-Err.ensures.files; hearers = refl; steps = refl }) (rw c.as_str.ensures at c.tell.ensures)

pub returns-in-ReadFault : goal.returns-in-ReadFault
returns-in-ReadFault g c =
    Runs.cannot_take
    (subst (HasLoadError (g.F.Shelf.files c.args.shelf.now) c.args.name.now (g.F.Shelf.take_faults c.args.shelf.now) (g.F.Shelf.take_faults c.load_rulebase.new.shelf)) c.in-ReadFault.is c.in-Err.ensures.refused)
    (record { left = refl; files = c.in-Err.ensures.files; hearers = refl; steps = refl }) (Appends-none _)

pub returns : goal.returns
returns g c = Runs.cannot_hold (record { left = refl; files = c.in-Err.ensures.files; hearers = refl; steps = refl }) (Appends-none _)
