use Rattle.std.proofs.Common.{refl}
use Rattle.std.proofs.lemmas.Result.{err_from_is_err_and}
use Rattle.opa_talk.specs.WholeInput.Outside.{outside}
use Rattle.opa_cases.proofs.TalkLaws.{not_kept, talks_all, talks_part, talks_not, unkept_all, unkept_cause, unkept_part}
use Rattle.opa_cases.proofs.serving.talk.Goals as goal

pub returns-in_err-caseload-clause-part : goal.returns-in_err-caseload-clause-part
returns-in_err-caseload-clause-part g c =
    let p = err_from_is_err_and c.from_residual.result c.from_residual.ensures.1 in
    rw (p.1, p.2) (talks_not c.args.base (outside g.F.Shelf.files g.F.Shelf.take_faults g.F.Shelf.keep_faults g.S.Source.left g.S.Source.faults g.K.Sink.written g.K.Sink.faults c.args.shelf.now c.args.input.now c.args.out.now))

pub returns-clause-all : goal.returns-clause-all
returns-clause-all g c =
    let old = outside g.F.Shelf.files g.F.Shelf.take_faults g.F.Shelf.keep_faults g.S.Source.left g.S.Source.faults g.K.Sink.written g.K.Sink.faults c.args.shelf.now c.args.input.now c.args.out.now in
    let new = outside g.F.Shelf.files g.F.Shelf.take_faults g.F.Shelf.keep_faults g.S.Source.left g.S.Source.faults g.K.Sink.written g.K.Sink.faults c.converse-end.new.shelf c.converse-end.new.input c.converse-end.new.out in
    rw c.unkept.ensures (unkept_all c.args.base old new c.converse-end.result (talks_all c.args.base old new _ _ (c.in_ok-caseload.ensures _) refl c.converse-end.result c.converse-end.ensures.ok))

pub returns-clause-part : goal.returns-clause-part
returns-clause-part g c =
    let old = outside g.F.Shelf.files g.F.Shelf.take_faults g.F.Shelf.keep_faults g.S.Source.left g.S.Source.faults g.K.Sink.written g.K.Sink.faults c.args.shelf.now c.args.input.now c.args.out.now in
    let new = outside g.F.Shelf.files g.F.Shelf.take_faults g.F.Shelf.keep_faults g.S.Source.left g.S.Source.faults g.K.Sink.written g.K.Sink.faults c.converse-end.new.shelf c.converse-end.new.input c.converse-end.new.out in
    rw c.unkept.ensures (unkept_part c.args.base old new c.converse-end.result (talks_part c.args.base old new _ _ (c.in_ok-caseload.ensures _) refl c.converse-end.result c.converse-end.ensures.err))

pub returns-clause-cause : goal.returns-clause-cause
returns-clause-cause g c = rw c.unkept.ensures (unkept_cause _ _ _ _ _ _ _ _ c.converse-end.result c.converse-end.ensures.cause)

pub returns-clause-kept : goal.returns-clause-kept
returns-clause-kept g c = λ e. not_kept c.converse-end.result (rw c.unkept.ensures at e)
