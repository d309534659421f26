use Rattle.std.proofs.lemmas.Result.{IfErr-weaker}
use Rattle.opa_words.specs.Pieces.{seen}
use Rattle.opa_script.proofs.Found.{unbegun, begun_none}
use Rattle.opa_script.proofs.reading.command_of.Goals as goal

pub returns-in-None-clause-fault : goal.returns-in-None-clause-fault
returns-in-None-clause-fault c = unbegun c.args.model.now (seen c.args.pieces) c.in-None.ensures.begins

pub returns-in-Some-clause-fault : goal.returns-in-Some-clause-fault
returns-in-Some-clause-fault c =
    IfErr-weaker c.said.result _ _ (λ f h. begun_none c.args.model.now c.in-Some.verb (seen c.args.pieces) (seen c.in-Some.rest) f c.in-Some.ensures.begins h) c.said.ensures.fault
