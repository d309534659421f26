-- A slot is a live instance with an attribute of its entity that has a rule.
use Rattle.std.proofs.Common.{◌≡◌, true, is_some, ◌∙◌, ap}
use Rattle.std.specs.Prelude.{◌&&◌, ◌==◌}
use Rattle.std.proofs.lemmas.Bool.{and_parts, eqb-true, eq-eqb}
use Rattle.opa_model.specs.declared.ids.AttrId.{AttrId}
use Rattle.opa_cells.specs.declared.instance.InstanceId.{InstanceId}
use Rattle.opa_case.specs.Cases.{CaseView, IsLive}
use Rattle.opa_case.specs.Shapes.{shape_of}
use Rattle.opa_tree.specs.declared.rulebase.Rulebase.{Rulebase}
use Rattle.opa_tree.specs.Rules.{rule_of}
use Rattle.opa_mean.specs.Places.{owner_of}
use Rattle.opa_mean.specs.Slots.{is_slot}

pub record Parts (r : Rulebase) (c : CaseView) (a : AttrId) (i : InstanceId) : Type 0 where
  pub live : IsLive c i
  pub owner : i.entity.0 ≡ owner_of (shape_of r.model) a
  pub ruled : is_some (rule_of r.rules a) ≡ true

pub parts_of : (r : Rulebase) (c : CaseView) (a : AttrId) (i : InstanceId) → is_slot r c a i ≡ true → Parts r c a i
parts_of r c a i h = let both = and_parts _ _ h in let first = and_parts _ _ both.0 in record { live = first.0; owner = eqb-true i.entity.0 (owner_of (shape_of r.model) a) first.1; ruled = both.1 }

pub slot_is : (r : Rulebase) (c : CaseView) (a : AttrId) (i : InstanceId) → IsLive c i → i.entity.0 ≡ owner_of (shape_of r.model) a → is_some (rule_of r.rules a) ≡ true → is_slot r c a i ≡ true
slot_is r c a i live owner ruled =
    ap (λ b. (b && (i.entity.0 == owner_of (shape_of r.model) a)) && is_some (rule_of r.rules a)) live
    ∙ ap (λ b. b && is_some (rule_of r.rules a)) (eq-eqb i.entity.0 (owner_of (shape_of r.model) a) owner) ∙ ruled
