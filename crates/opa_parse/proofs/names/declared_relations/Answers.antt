use Rattle.opa_model.specs.Lookups.{relation_phrases}
use Rattle.opa_parse.specs.Naming.{declared_from}
use Rattle.opa_parse.proofs.NameLaws.{more_phrases, more_related}
use Rattle.opa_parse.proofs.names.declared_relations.Goals as goal

pub loop-place-preserved : goal.loop-place-preserved
loop-place-preserved c =
    let m = c.args.model.now in
    record {
      texts = more_phrases m c.loop-place.place c.relation.result.now c.loop-place.relations.texts c.put.new.self.texts (relation_phrases m) c.relation.ensures c.in_ok-put.ensures.texts c.loop-place.invariant.texts;
      related = more_related m c.loop-place.place c.relation.result.now c.loop-place.relations.related c.put.new.self.related (declared_from 0 m.relations) c.relation.ensures c.in_ok-put.ensures.related c.loop-place.invariant.related;
    }
