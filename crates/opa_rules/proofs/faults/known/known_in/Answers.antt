use Rattle.std.proofs.Common.{sym, subst, ◌∙◌}
use Rattle.opa_line.proofs.Zipping.{ok_weaker}
use Rattle.opa_rules.specs.Faults.Known.{AreKnownIn}
use Rattle.opa_rules.proofs.FaultLaws.{short_lines}
use Rattle.opa_rules.proofs.faults.known.known_in.Goals as goal

pub read_declarations-requires : goal.read_declarations-requires
read_declarations-requires c = short_lines c.args.blocks.now c.requires

pub returns-in-Err-Refused : goal.returns-in-Err-Refused
returns-in-Err-Refused c =
    ok_weaker c.known_as.result _ _ (λ k e. subst (AreKnownIn c.args.blocks.now) (sym (e ∙ c.new.ensures))
    (AreKnownIn.undeclared c.in-Err-Refused.field-0-0 (c.in-Err-Refused.ensures.refused c.in-Err-Refused.field-0-0 c.in-Err-Refused.field-0-is))) c.known_as.ensures
