use Rattle.std.specs.Prelude.{IfSome}
use Rattle.opa_io.proofs.Places.{All_at}
use Rattle.opa_model.specs.declared.things.Attribute.{Attribute}
use Rattle.opa_model.specs.Models.{HasVerb}
use Rattle.opa_text.proofs.questions.declared.Goals as goal

pub returns-clause-verb : goal.returns-clause-verb
returns-clause-verb c =
    All_at (λ (a : Attribute). IfSome a.sentence (HasVerb c.args.model.now)) c.args.model.now.attributes c.args.attr.0 c.attribute.result.now c.attribute.ensures c.attribute_count-count.ensures.form.in_range.verbs
