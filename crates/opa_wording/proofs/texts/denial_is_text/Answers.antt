use Rattle.std.proofs.Common.{arith}
use Rattle.opa_wording.proofs.TextsLaws.{denied, undenied}
use Rattle.opa_wording.proofs.texts.denial_is_text.Goals as goal

pub returns-then-sentence-verb_count : goal.returns-then-sentence-verb_count
returns-then-sentence-verb_count c =
    denied c.args.model.now c.args.sentence.now c.verb-verb.result.now c.verb-verb.ensures c.is_utf8.ensures c.is_utf8-then-sentence-verb_count.ensures c.is_utf8-then-sentence-verb_count-2.ensures

pub returns-else-sentence-verb_count : goal.returns-else-sentence-verb_count
returns-else-sentence-verb_count c =
    let count = c.verb_count.ensures.count in
    let past = c.if-sentence-verb_count.false in
    undenied c.args.model.now c.args.sentence.now (grind (arith, count, past))
