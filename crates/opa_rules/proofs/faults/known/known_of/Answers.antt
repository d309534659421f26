use Rattle.std.proofs.Common.{All, sym, subst, ◌∙◌}
use Rattle.opa_line.proofs.Zipping.{ok_weaker}
use Rattle.opa_words.specs.declared.layout.block.Block.{Block}
use Rattle.opa_parse.specs.Fronts.{AreShort}
use Rattle.opa_rules.specs.Faults.Known.{AreKnown, AreKnownIn}
use Rattle.opa_rules.proofs.FaultLaws.{short_declaring}
use Rattle.opa_rules.proofs.faults.known.known_of.Goals as goal

pub known_in-requires : goal.known_in-requires
known_in-requires c = subst (All (λ (b : Block). AreShort b.lines)) (sym (c.as_slice-in-Ok.ensures ∙ c.declaring.ensures)) (short_declaring _ c.in-Ok.ensures.short_blocks)

pub returns-in-Ok : goal.returns-in-Ok
returns-in-Ok c =
    ok_weaker c.known_in.result _ _
    (λ k a. AreKnown.laid c.in-Ok.laid k.texts (record { laid = c.in-Ok.ensures.laid; sound = c.in-Ok.ensures.sound }) (subst (λ b. AreKnownIn b k.texts) (c.as_slice-in-Ok.ensures ∙ c.declaring.ensures) a)) c.known_in.ensures

pub returns-in-Err-Refused : goal.returns-in-Err-Refused
returns-in-Err-Refused c =
    ok_weaker c.known_as.result _ _
    (λ k e. subst (AreKnown c.args.files.now) (sym (e ∙ c.new.ensures)) (AreKnown.unlaid c.in-Err-Refused.field-0-0 (c.in-Err-Refused.ensures.fault c.in-Err-Refused.field-0-0 c.in-Err-Refused.field-0-is))) c.known_as.ensures
