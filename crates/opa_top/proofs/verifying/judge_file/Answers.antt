use Rattle.std.proofs.Common.{subst}
use Rattle.opa_io.specs.Outside.{HasTakeCause}
use Rattle.opa_top.specs.Verifying.{REPORT_MOST}
use Rattle.opa_top.proofs.VerifyLaws.{file_judged, file_missing, file_too_long}
use Rattle.opa_top.proofs.verifying.judge_file.Goals as goal

pub returns-in-Ok-judge-clause-judges : goal.returns-in-Ok-judge-clause-judges
returns-in-Ok-judge-clause-judges g c =
    file_judged c.args.base.now (g.F.Shelf.files c.args.shelf.now) c.args.report.now _ _ _ _ _ _ c.in-Ok.bytes.items c.as_slice.result.now c.in-Ok-judge.told.text c.as_str.result.now c.in-Ok-judge.told.verdict c.status_of.result
    c.tell-in-Ok-judge.result c.in-Ok.ensures.bytes c.in-Ok.ensures.bound c.as_slice.ensures.value c.in-Ok-judge.ensures c.status_of.ensures c.as_str.ensures c.tell-in-Ok-judge.ensures

pub returns-in-Err-Missing-clause-judges : goal.returns-in-Err-Missing-clause-judges
returns-in-Err-Missing-clause-judges g c =
    file_missing c.args.base.now (g.F.Shelf.files c.args.shelf.now) c.args.report.now _ _ (g.F.Shelf.take_faults c.args.shelf.now) (g.F.Shelf.take_faults c.take.new.self) _ _ c.tell-in-Err-Missing.result (subst (HasTakeCause (g.F.Shelf.files c.args.shelf.now) c.args.report.now REPORT_MOST (g.F.Shelf.take_faults c.args.shelf.now) (g.F.Shelf.take_faults c.take.new.self)) c.in-Err-Missing.field-0-is c.in-Err-Missing.ensures.bytes) c.tell-in-Err-Missing.ensures

pub returns-in-Err-TooLong-clause-judges : goal.returns-in-Err-TooLong-clause-judges
returns-in-Err-TooLong-clause-judges g c =
    file_too_long c.args.base.now (g.F.Shelf.files c.args.shelf.now) c.args.report.now _ _ (g.F.Shelf.take_faults c.args.shelf.now) (g.F.Shelf.take_faults c.take.new.self) _ _ c.tell-in-Err-TooLong.result (subst (HasTakeCause (g.F.Shelf.files c.args.shelf.now) c.args.report.now REPORT_MOST (g.F.Shelf.take_faults c.args.shelf.now) (g.F.Shelf.take_faults c.take.new.self)) c.in-Err-TooLong.field-0-is c.in-Err-TooLong.ensures.bytes) c.tell-in-Err-TooLong.ensures
