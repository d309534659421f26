use Rattle.std.proofs.Common.{◌∙◌, length, ap, arith}
use Rattle.opa_decl.specs.Names.{verb_name, entity_name, attribute_name, relation_name}
use Rattle.opa_decl.proofs.CountLaws.{flat_map_short, verb_name-short, entity_name-short, attribute_name-short, relation_name-short}
use Rattle.opa_decl.proofs.tabling.tables_of.Goals as goal

pub new-requires : goal.new-requires
new-requires c = omega (arith, c.requires, ap length (c.as_slice.ensures ∙ c.in_ok-verbs.ensures), flat_map_short verb_name verb_name-short c.args.items.now)

pub new-requires-2 : goal.new-requires-2
new-requires-2 c = omega (arith, c.requires, ap length (c.as_slice-2.ensures ∙ c.in_ok-entities.ensures), flat_map_short entity_name entity_name-short c.args.items.now)

pub new-requires-3 : goal.new-requires-3
new-requires-3 c = omega (arith, c.requires, ap length (c.as_slice-3.ensures ∙ c.in_ok-attributes.ensures), flat_map_short attribute_name attribute_name-short c.args.items.now)

pub new-requires-4 : goal.new-requires-4
new-requires-4 c = omega (arith, c.requires, ap length (c.as_slice-4.ensures ∙ c.in_ok-relations.ensures), flat_map_short relation_name relation_name-short c.args.items.now)
