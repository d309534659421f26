use Rattle.std.proofs.Common.{◌≢◌, List, AllPairs, map, sym, subst}
use Rattle.opa_model.specs.declared.things.Attribute.{Attribute}
use Rattle.opa_model.specs.declared.things.Relation.{Relation}
use Rattle.opa_model.proofs.PhrasesLaws.{pairs_left, pairs_right}
use Rattle.opa_model.proofs.model.Model.from_lists.Goals as goal

pub attribute_set-requires : goal.attribute_set-requires
attribute_set-requires c =
    subst (λ (xs : List Attribute). AllPairs (λ p q. p ≢ q) (map (λ a. a.phrase) xs)) (sym c.as_slice.ensures) (pairs_left (λ p q. p ≢ q) _ (map (λ r. r.phrase) c.args.relations) c.requires.phrases_differ)

pub relation_set-requires : goal.relation_set-requires
relation_set-requires c =
    subst (λ (xs : List Relation). AllPairs (λ p q. p ≢ q) (map (λ r. r.phrase) xs)) (sym c.as_slice-2.ensures) (pairs_right (λ p q. p ≢ q) (map (λ a. a.phrase) c.args.attributes) _ c.requires.phrases_differ)
