use Rattle.std.proofs.Common.{◌∙◌}
use Rattle.opa_top.proofs.CheckLaws.{tells_accepted, tells_refused, not_taken, not_held}
use Rattle.opa_top.proofs.check.check.Goals as goal

pub returns-in-Ok-text-clause-checks : goal.returns-in-Ok-text-clause-checks
returns-in-Ok-text-clause-checks g c =
    tells_accepted (g.F.Shelf.files c.args.shelf.now) c.args.name.now _ _ _ _ _ _ c.in-Ok.base c.as_str.result.now c.tell.result c.in-Ok.ensures.accepted (c.as_str.ensures ∙ c.in-Ok-text.ensures) c.tell.ensures

pub returns-in-Ok-clause-checks : goal.returns-in-Ok-clause-checks
returns-in-Ok-clause-checks g c = not_held (g.F.Shelf.files c.args.shelf.now) c.args.name.now _ _ _ _

pub returns-in-Refused-clause-checks : goal.returns-in-Refused-clause-checks
returns-in-Refused-clause-checks g c =
    tells_refused (g.F.Shelf.files c.args.shelf.now) c.args.name.now _ _ _ _ _ _ c.in-Err.error c.in-Refused.fault c.in-Refused.text c.as_str-in-Refused.result.now c.tell-in-Refused.result c.in-Refused.is c.in-Err.ensures.refused c.as_str-in-Refused.ensures c.tell-in-Refused.ensures

pub returns-in-ReadFault-clause-checks : goal.returns-in-ReadFault-clause-checks
returns-in-ReadFault-clause-checks g c = not_taken (g.F.Shelf.files c.args.shelf.now) c.args.name.now _ _ _ _ c.in-Err.error c.in-ReadFault.is c.in-Err.ensures.refused

pub returns-clause-checks : goal.returns-clause-checks
returns-clause-checks g c = not_held (g.F.Shelf.files c.args.shelf.now) c.args.name.now _ _ _ _
