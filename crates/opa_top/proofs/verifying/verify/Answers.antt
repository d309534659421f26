use Rattle.std.proofs.Common.{subst}
use Rattle.opa_io.proofs.Appended.{Appends-none}
use Rattle.opa_rulebase.specs.Loading.{HasLoadError}
use Rattle.opa_top.specs.Verifying.{Verifies}
use Rattle.opa_top.proofs.CheckLaws.{refusal_opened}
use Rattle.opa_top.proofs.VerifyLaws.{judged_later}
use Rattle.opa_top.proofs.verifying.verify.Goals as goal

pub returns-in-Ok-clause-verifies : goal.returns-in-Ok-clause-verifies
returns-in-Ok-clause-verifies g c =
    Verifies.opens c.in-Ok.base c.in-Ok.ensures.accepted
    (judged_later c.in-Ok.base (g.F.Shelf.files c.args.shelf.now) c.args.report.now _ _ (g.F.Shelf.take_faults c.args.shelf.now) (g.F.Shelf.take_faults c.load_rulebase.new.shelf) (g.F.Shelf.take_faults c.judge_file-status.new.shelf) _ _ _ c.in-Ok.ensures.later
    (rw c.in-Ok.ensures.files at c.judge_file-status.ensures.judges))

pub returns-in-Refused-clause-verifies : goal.returns-in-Refused-clause-verifies
returns-in-Refused-clause-verifies g c =
    Verifies.refuses c.in-Refused.text
    (refusal_opened (g.F.Shelf.files c.args.shelf.now) c.args.name.now (g.K.Sink.written c.args.out.now) (g.K.Sink.written c.tell.new.out) (g.F.Shelf.take_faults c.args.shelf.now) (g.F.Shelf.take_faults c.load_rulebase.new.shelf) (g.K.Sink.faults c.args.out.now)
    (g.K.Sink.faults c.tell.new.out) c.in-Err.error c.in-Refused.fault c.in-Refused.text c.in-Refused.is c.in-Err.ensures.refused)
    (rw c.as_str.ensures at c.tell.ensures)

pub returns-in-ReadFault-clause-verifies : goal.returns-in-ReadFault-clause-verifies
returns-in-ReadFault-clause-verifies g c =
    Verifies.cannot_load
    (subst (HasLoadError (g.F.Shelf.files c.args.shelf.now) c.args.name.now (g.F.Shelf.take_faults c.args.shelf.now) (g.F.Shelf.take_faults c.load_rulebase.new.shelf)) c.in-ReadFault.is c.in-Err.ensures.refused)
    (Appends-none _)

pub returns-clause-verifies : goal.returns-clause-verifies
returns-clause-verifies g c = Verifies.cannot_keep (Appends-none _)
