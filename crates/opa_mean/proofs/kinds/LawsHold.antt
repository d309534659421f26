-- The laws that the crate's public functions state.
use Rattle.std.proofs.Common.{◌≡◌, ℕ, suc, true, false, IsTrue, Option, None, Some, refl, sym, ◌∙◌}
use Rattle.std.specs.Option.{option_map_or}
use Rattle.std.proofs.lemmas.List.Elements.{All-contains}
use Rattle.opa_model.specs.declared.ids.AttrId.{AttrId}
use Rattle.opa_cells.specs.declared.instance.InstanceId.{InstanceId}
use Rattle.opa_model.specs.declared.things.Attribute.{Attribute}
use Rattle.opa_model.specs.declared.things.Kind.TheVariants as kind
use Rattle.opa_model.specs.Lookups.{attribute_at}
use Rattle.opa_tree.specs.declared.rulebase.Rulebase.{Rulebase}
use Rattle.opa_tree.specs.declared.rules.Rule.{Rule}
use Rattle.opa_tree.specs.Kinds.{can_have, rule_has_kind}
use Rattle.opa_tree.specs.Ranks.{rank_at}
use Rattle.opa_case.specs.Cases.{CaseView}
use Rattle.opa_case.specs.Shapes.{shape_of}
use Rattle.opa_mean.specs.Meaning.{value}
use Rattle.opa_mean.specs.Rulebases.{IsOf, value_at}
use Rattle.opa_mean.specs.Kinds.Laws.{ValuesHaveKinds, ConditionsAreTruths, ForStandsToOne, kind_of, values_of}
use Rattle.opa_mean.proofs.kinds.Concluding.{steps_have}
use Rattle.opa_mean.proofs.kinds.Plain.{Has, bound_is, truth_is}
use Rattle.opa_mean.proofs.kinds.Parts.{CanBe, within_can, condition_can, for_to_one}
use Rattle.opa_mean.proofs.kinds.Stepping.{tree_has}

pub values_have_kinds_holds : ValuesHaveKinds
values_have_kinds_holds r c is a i d = sym (bound_is (kind_of r a) (value_at r c a i d)) ∙ steps_have false r c is (suc (rank_at r.ranks a)) a i d

-- the tree of a rule can have a kind
pub rule_can : (r : Rulebase) (rule : Rule) (o : Option Attribute) → option_map_or (λ (x : Attribute). can_have r.model rule.expr x.kind) o false ≡ true → CanBe r.model rule.expr
rule_can r rule None h = absurd (cc h)
rule_can r rule (Some x) h = (x.kind, h)

-- each value has its attribute's kind where days are free
values_freely : (r : Rulebase) (c : CaseView) → IsOf r c → (a : AttrId) (i : InstanceId) (d : ℕ) → Has true (kind_of r a) (value_at r c a i d)
values_freely r c is a = steps_have true r c is (suc (rank_at r.ranks a)) a

pub conditions_are_truths_holds : ConditionsAreTruths
conditions_are_truths_holds r c is rule one e x within condition enclosing d =
    let own = rule_can r rule (attribute_at r.model rule.attr) (All-contains (λ (y : Rule). IsTrue (rule_has_kind r.model y)) r.rules rule r.sound.of_kinds one) in
    let able = within_can r.model rule.expr within own in
    sym (truth_is true (value (shape_of r.model) (values_of r c) x enclosing d))
    ∙ tree_has true r.model (values_of r c) (values_freely r c is) x false refl kind.Bool (condition_can r.model x condition able.0 able.1) enclosing d

pub for_stands_to_one_holds : ForStandsToOne
for_stands_to_one_holds r rule one q es within =
    let own = rule_can r rule (attribute_at r.model rule.attr) (All-contains (λ (y : Rule). IsTrue (rule_has_kind r.model y)) r.rules rule r.sound.of_kinds one) in
    let able = within_can r.model rule.expr within own in
    for_to_one r.model q es able.0 able.1

pub ruleset laws = (values_have_kinds_holds, conditions_are_truths_holds, for_stands_to_one_holds)
