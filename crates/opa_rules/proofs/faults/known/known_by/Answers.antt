use Rattle.std.proofs.Common.{sym, subst}
use Rattle.opa_line.proofs.Zipping.{ok_weaker}
use Rattle.opa_parse.specs.Memberships.{AreInferences}
use Rattle.opa_rules.specs.Faults.Known.{AreKnownIn}
use Rattle.opa_rules.proofs.faults.known.known_by.Goals as goal

pub returns-in-Ok : goal.returns-in-Ok
returns-in-Ok c =
    let m = c.args.model.now in let blocks = c.args.blocks.now in
    ok_weaker c.known_with.result _ _ (λ k e. subst (AreKnownIn blocks) (sym e)
    (AreKnownIn.inferred m c.as_slice.result.now c.requires.declared (subst (AreInferences m blocks) (sym c.as_slice.ensures) c.in-Ok.ensures.inferences))) c.known_with.ensures

pub returns-in-Err-Refused : goal.returns-in-Err-Refused
returns-in-Err-Refused c =
    ok_weaker c.known_with-in-Err-Refused.result _ _ (λ k e. subst (AreKnownIn c.args.blocks.now) (sym e)
    (AreKnownIn.declared c.args.model.now c.in-Err-Refused.field-0-0 c.requires.declared (c.in-Err-Refused.ensures.refused c.in-Err-Refused.field-0-0 c.in-Err-Refused.field-0-is))) c.known_with-in-Err-Refused.ensures
