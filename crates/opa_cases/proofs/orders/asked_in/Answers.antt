use Rattle.std.proofs.Common.{ap, ◌∙◌}
use Rattle.opa_words.specs.Pieces.{seen, pieces}
use Rattle.opa_cases.proofs.OrderLaws.{asks_of}
use Rattle.opa_cases.proofs.orders.asked_in.Goals as goal

pub returns-in-Ok-clause-asked : goal.returns-in-Ok-clause-asked
returns-in-Ok-clause-asked c =
    asks_of c.args.text.now c.in-Ok.found.items (seen c.new.result) c.asked_of.result c.in-Ok.ensures.cut (c.new.ensures.tokens ∙ ap (pieces c.args.text.now) c.deref.ensures.value) c.asked_of.ensures
