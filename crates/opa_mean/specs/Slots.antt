-- Where lines and lists can stand: at live instances of the entity that has them.
use Rattle.std.specs.Prelude.{Bool, ◌&&◌, ◌==◌, is_some}
use Rattle.opa_model.specs.declared.ids.AttrId.{AttrId}
use Rattle.opa_model.specs.declared.ids.RelId.{RelId}
use Rattle.opa_cells.specs.declared.instance.InstanceId.{InstanceId}
use Rattle.opa_case.specs.Cases.{CaseView}
use Rattle.opa_case.specs.Live.{is_live}
use Rattle.opa_case.specs.Shapes.{shape_of}
use Rattle.opa_tree.specs.declared.rulebase.Rulebase.{Rulebase}
use Rattle.opa_tree.specs.Rules.{rule_of}
use Rattle.opa_mean.specs.Places.{owner_of}

-- the instance is live and of the attribute's entity
abbrev pub has_place : Rulebase → CaseView → AttrId → InstanceId → Bool
has_place r c a i = is_live c.live i && (i.entity.0 == owner_of (shape_of r.model) a)

-- the instance is live and of the relation's source
abbrev pub has_list_place : Rulebase → CaseView → RelId → InstanceId → Bool
has_list_place r c q i = is_live c.live i && (i.entity.0 == (shape_of r.model).source q)

-- an attribute with a rule has a place there
abbrev pub is_slot : Rulebase → CaseView → AttrId → InstanceId → Bool
is_slot r c a i = has_place r c a i && is_some (rule_of r.rules a)
