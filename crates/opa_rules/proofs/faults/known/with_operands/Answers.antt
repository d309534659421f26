use Rattle.std.proofs.Common.{◌++◌}
use Rattle.opa_verbs.specs.Phrasing.{operand_phrases}
use Rattle.opa_parse.proofs.NameLaws.{more_texts}
use Rattle.opa_rules.proofs.faults.known.with_operands.Goals as goal

pub loop-place-preserved : goal.loop-place-preserved
loop-place-preserved c =
    let m = c.args.model.now in
    more_texts m c.loop-place.place c.attribute.result.now c.loop-place.all c.in_ok-all.all (c.args.texts ++ operand_phrases m) c.attribute.ensures c.in_ok-all.ensures c.loop-place.invariant
