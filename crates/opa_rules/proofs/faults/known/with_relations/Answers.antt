use Rattle.std.proofs.Common.{[], ◌∷◌, ◌++◌, ap, ◌∙◌}
use Rattle.opa_model.specs.Lookups.{relation_phrases}
use Rattle.opa_parse.proofs.NameLaws.{more_phrases}
use Rattle.opa_rules.proofs.faults.known.with_relations.Goals as goal

pub loop-place-preserved : goal.loop-place-preserved
loop-place-preserved c =
    let m = c.args.model.now in let old = c.loop-place.all in
    more_phrases m c.loop-place.place c.relation-relation.result.now old c.push.new.self (c.args.texts ++ relation_phrases m) c.relation-relation.ensures
    (c.in_ok-push.ensures.ok ∙ ap (λ t. old ++ t ∷ []) (c.in_ok-from_str.ensures ∙ c.as_str.ensures)) c.loop-place.invariant
