use Rattle.std.proofs.Common.{sym, subst}
use Rattle.opa_line.proofs.Zipping.{ok_weaker}
use Rattle.opa_rules.specs.Faults.Listing.{AreErrors}
use Rattle.opa_rules.proofs.faults.telling.errors_of.Goals as goal

pub returns-in-Err-Refused : goal.returns-in-Err-Refused
returns-in-Err-Refused c = ok_weaker c.error_of_layout.result _ _ (λ text e.
    subst (AreErrors c.args.files.now) (sym e) (AreErrors.of_layout c.args.wrong.now c.in-Err-Refused.field-0-0 (c.in-Err-Refused.ensures.fault c.in-Err-Refused.field-0-0 c.in-Err-Refused.field-0-is) c.requires.first)) c.error_of_layout.ensures
