use Rattle.std.proofs.Common.{refl, arith}
use Rattle.opa_top.specs.Running.{a_run, outside}
use Rattle.opa_top.proofs.TalkLaws.{talks_all, talks_part, talks_not}
use Rattle.opa_top.proofs.talk.talk.Goals as goal

pub returns-in-Err-clause-part : goal.returns-in-Err-clause-part
returns-in-Err-clause-part g c = talks_not a_run c.args.base _ c.start.new.steps c.in-Err.ensures.bound

pub returns-in-Ok-clause-all : goal.returns-in-Ok-clause-all
returns-in-Ok-clause-all g c =
    talks_all a_run c.args.base
    (outside g.F.Shelf.files g.F.Shelf.take_faults g.F.Shelf.keep_faults g.S.Source.left g.S.Source.faults g.K.Sink.written g.K.Sink.faults c.args.shelf.now _ c.args.input.now c.args.out.now c.args.steps.now)
    (outside g.F.Shelf.files g.F.Shelf.take_faults g.F.Shelf.keep_faults g.S.Source.left g.S.Source.faults g.K.Sink.written g.K.Sink.faults c.converse-end.new.shelf _ c.converse-end.new.input c.converse-end.new.out c.converse-end.new.steps)
    c.start.new.steps c.in-Ok.ensures.bound _ _ (c.in-Ok.ensures.first _ _) (record { files = refl; hearers = refl; steps = omega arith }) c.converse-end.result c.converse-end.ensures.ok

pub returns-in-Ok-clause-part : goal.returns-in-Ok-clause-part
returns-in-Ok-clause-part g c =
    talks_part a_run c.args.base
    (outside g.F.Shelf.files g.F.Shelf.take_faults g.F.Shelf.keep_faults g.S.Source.left g.S.Source.faults g.K.Sink.written g.K.Sink.faults c.args.shelf.now _ c.args.input.now c.args.out.now c.args.steps.now)
    (outside g.F.Shelf.files g.F.Shelf.take_faults g.F.Shelf.keep_faults g.S.Source.left g.S.Source.faults g.K.Sink.written g.K.Sink.faults c.converse-end.new.shelf _ c.converse-end.new.input c.converse-end.new.out c.converse-end.new.steps)
    c.start.new.steps c.in-Ok.ensures.bound _ _ (c.in-Ok.ensures.first _ _) (record { files = refl; hearers = refl; steps = omega arith }) c.converse-end.result c.converse-end.ensures.err
