use Rattle.opa_wording.proofs.TextsLaws.{more_inferred}
use Rattle.opa_wording.proofs.texts.inferences_are_texts.Goals as goal

pub loop-inferred-preserved : goal.loop-inferred-preserved
loop-inferred-preserved c = more_inferred c.args.inferences.now c.loop-inferred.rest.now c.in-Some.later.now c.in-Some.inferred.now c.in-Some.ensures c.is_utf8.ensures c.loop-inferred.invariant
