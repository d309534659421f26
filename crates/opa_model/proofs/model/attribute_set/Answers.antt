use Rattle.std.proofs.Common.{ℕ, List, sym, subst, Contains}
use Rattle.opa_model.proofs.PhrasesLaws.{new_phrase}
use Rattle.opa_model.proofs.model.attribute_set.Goals as goal

pub add_phrase-requires : goal.add_phrase-requires
add_phrase-requires c =
    subst (λ (ps : List (List ℕ)). Contains ps c.attribute-item.result.phrase → ⊥) (sym c.loop-attribute.invariant)
    (new_phrase (λ x. x.phrase) c.args.attributes.now c.loop-attribute.attribute-index c.attribute-item.result c.requires c.loop-attribute-test.true c.attribute-item.is)
