use Rattle.std.proofs.Common.{ℕ, List, sym, subst, Contains}
use Rattle.opa_model.proofs.PhrasesLaws.{new_phrase}
use Rattle.opa_model.proofs.model.relation_set.Goals as goal

pub add_phrase-requires : goal.add_phrase-requires
add_phrase-requires c =
    subst (λ (ps : List (List ℕ)). Contains ps c.relation-item.result.phrase → ⊥) (sym c.loop-relation.invariant)
    (new_phrase (λ x. x.phrase) c.args.relations.now c.loop-relation.relation-index c.relation-item.result c.requires c.loop-relation-test.true c.relation-item.is)
