use Rattle.std.proofs.Common.{refl, subst}
use Rattle.opa_io.proofs.Appended.{Appends-none}
use Rattle.opa_talk.specs.WholeInput.Outside.{outside}
use Rattle.opa_rulebase.specs.Loading.{HasLoadError}
use Rattle.opa_cases.specs.Serving.{Ran}
use Rattle.opa_cases.proofs.OpenedLaws.{refusal_opened}
use Rattle.opa_cases.proofs.TalkLaws.{fed, fed_files, of_sink}
use Rattle.opa_cases.proofs.serving.open_and_serve.Goals as goal

pub returns-in-Ok : goal.returns-in-Ok
returns-in-Ok g c =
    let base = c.in-Ok.base in
    let old = outside g.F.Shelf.files g.F.Shelf.take_faults g.F.Shelf.keep_faults g.S.Source.left g.S.Source.faults g.K.Sink.written g.K.Sink.faults c.args.shelf.now c.args.input.now c.args.out.now in
    let new = outside g.F.Shelf.files g.F.Shelf.take_faults g.F.Shelf.keep_faults g.S.Source.left g.S.Source.faults g.K.Sink.written g.K.Sink.faults c.talk.new.shelf c.talk.new.input c.talk.new.out in
    let all = rw c.in-Ok.ensures.files at c.talk.ensures.all in
    let part = rw (c.in-Ok.ensures.files, c.in-Ok.ensures.kept) at c.talk.ensures.part in
    rw c.end_of.ensures (Ran.talks base c.declares_a_model.ensures c.in-Ok.ensures.accepted (fed_files base old new c.talk.result all part)
    (fed base old new (g.F.Shelf.take_faults c.load_rulebase.new.shelf) c.in-Ok.ensures.later c.talk.result all part (rw c.in-Ok.ensures.kept at c.talk.ensures.cause))
    (of_sink old new (g.F.Shelf.take_faults c.load_rulebase.new.shelf) c.talk.result c.talk.ensures.kept (rw c.in-Ok.ensures.kept at c.talk.ensures.cause)))

pub returns-in-Refused : goal.returns-in-Refused
returns-in-Refused g c =
    let old = c.args.shelf.now in let new = c.load_rulebase.new.shelf in
    Ran.refuses c.in-Refused.text
    (refusal_opened (g.F.Shelf.files old) c.args.name.now (g.F.Shelf.take_faults old) (g.F.Shelf.take_faults new) c.in-Err.error c.in-Refused.fault c.in-Refused.text c.in-Refused.is c.in-Err.ensures.refused)
    (record { left = refl; files = c.in-Err.ensures.files }) (rw (c.as_bytes.ensures.value, c.as_str.ensures) at c.tell.ensures)

pub returns-in-ReadFault : goal.returns-in-ReadFault
returns-in-ReadFault g c =
    let old = c.args.shelf.now in let new = c.load_rulebase.new.shelf in
    Ran.cannot_take
    (subst (HasLoadError (g.F.Shelf.files old) c.args.name.now (g.F.Shelf.take_faults old) (g.F.Shelf.take_faults new)) c.in-ReadFault.is c.in-Err.ensures.refused)
    (record { left = refl; files = c.in-Err.ensures.files }) (Appends-none _)

pub returns : goal.returns
returns g c = Ran.cannot_hold (record { left = refl; files = c.in-Err.ensures.files }) (Appends-none _)
