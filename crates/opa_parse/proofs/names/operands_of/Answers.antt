use Rattle.opa_parse.specs.Naming.{operand_meanings}
use Rattle.opa_verbs.specs.Phrasing.{operand_phrases}
use Rattle.opa_parse.proofs.NameLaws.{more_texts, more_meanings}
use Rattle.opa_parse.proofs.names.operands_of.Goals as goal

pub loop-place-preserved : goal.loop-place-preserved
loop-place-preserved c =
    let m = c.args.model.now in
    record {
      texts = more_texts m c.loop-place.place c.attribute.result.now c.loop-place.operands.texts c.take.new.self.texts (operand_phrases m) c.attribute.ensures c.in_ok-take.ensures.texts c.loop-place.invariant.texts;
      meanings = more_meanings m c.loop-place.place c.attribute.result.now c.loop-place.operands.meanings c.take.new.self.meanings (operand_meanings m) c.attribute.ensures c.in_ok-take.ensures.meanings c.loop-place.invariant.meanings;
    }
