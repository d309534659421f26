use Rattle.std.proofs.Common.{◌∙◌}
use Rattle.opa_io.proofs.Appended.{Appends-none}
use Rattle.opa_rules.specs.Promises.{Outside, outside}
use Rattle.opa_rules.proofs.OpeningLaws.{not_taken}
use Rattle.opa_rules.proofs.ReviewLaws.{tells_review, tells_refused}
use Rattle.opa_rules.specs.Reviewing.Findings.{shown}
use Rattle.opa_rules.proofs.review.review.Goals as goal

pub returns-in-Ok-text-clause-reviews : goal.returns-in-Ok-text-clause-reviews
returns-in-Ok-text-clause-reviews g c =
    let F = g.F.Shelf in let K = g.K.Sink in
    let old : Outside = outside F.files F.take_faults K.written K.faults c.args.shelf.now c.args.out.now in
    let new : Outside = outside F.files F.take_faults K.written K.faults c.load_rulebase.new.shelf c.tell.new.out in
    tells_review c.args.name.now old new (shown c.args.form) c.in-Ok.base _ c.tell.result c.in-Ok.ensures.accepted (c.as_slice.ensures.value ∙ c.in-Ok-text.ensures) c.tell.ensures

pub returns-in-Ok-clause-reviews : goal.returns-in-Ok-clause-reviews
returns-in-Ok-clause-reviews g c = Appends-none (g.K.Sink.written c.args.out.now)

pub returns-in-Refused-clause-reviews : goal.returns-in-Refused-clause-reviews
returns-in-Refused-clause-reviews g c =
    let F = g.F.Shelf in let K = g.K.Sink in
    let old : Outside = outside F.files F.take_faults K.written K.faults c.args.shelf.now c.args.out.now in
    let new : Outside = outside F.files F.take_faults K.written K.faults c.load_rulebase.new.shelf c.tell-in-Refused.new.out in
    tells_refused c.args.name.now old new (shown c.args.form) c.in-Err.error c.in-Refused.fault c.in-Refused.text _ c.tell-in-Refused.result c.in-Refused.is c.in-Err.ensures.refused (c.as_bytes.ensures.value ∙ c.as_str.ensures) c.tell-in-Refused.ensures

pub returns-in-ReadFault-clause-reviews : goal.returns-in-ReadFault-clause-reviews
returns-in-ReadFault-clause-reviews g c = not_taken (g.F.Shelf.files c.args.shelf.now) c.args.name.now (g.K.Sink.written c.args.out.now) _ _ c.in-Err.error c.in-ReadFault.is c.in-Err.ensures.refused
