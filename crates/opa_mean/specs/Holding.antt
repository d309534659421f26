-- The lines that are held with a case.
use Rattle.std.specs.Prelude.{ℕ, Bool, cond, ◌&&◌, ◌||◌, ◌==◌, is_some}
use Rattle.std.specs.FinMap.{get}
use Rattle.opa_value.specs.declared.value.Value.{Value}
use Rattle.opa_value.specs.declared.value.Value.TheVariants.{Unknown}
use Rattle.opa_model.specs.declared.ids.AttrId.{AttrId}
use Rattle.opa_cells.specs.declared.instance.InstanceId.{InstanceId}
use Rattle.opa_case.specs.Cases.{CaseView}
use Rattle.opa_case.specs.Live.{is_live}
use Rattle.opa_case.specs.Shapes.{shape_of}
use Rattle.opa_tree.specs.declared.rulebase.Rulebase.{Rulebase}
use Rattle.opa_tree.specs.Rules.{rule_of}
use Rattle.opa_mean.specs.Given.{facts_of}
use Rattle.opa_mean.specs.Looks.{Look}
use Rattle.opa_mean.specs.Mean.{look_of}
use Rattle.opa_mean.specs.Places.{owner_of}
use Rattle.opa_mean.specs.Rulebases.{value_at}

-- the instance is live and of the attribute's entity, and the attribute has a rule or an answer
abbrev pub has_line : Rulebase → CaseView → AttrId → InstanceId → Bool
has_line r c a i = (is_live c.live i && (i.entity.0 == owner_of (shape_of r.model) a)) && (is_some (rule_of r.rules a) || is_some (get c.answers (a.0, i)))

abbrev pub held_value : Rulebase → CaseView → AttrId → InstanceId → ℕ → Value
held_value r c a i d = cond (has_line r c a i) (value_at r c a i d) Unknown

-- the values of the lines that are held, and the lists and containers of the case
abbrev pub held_look : Rulebase → CaseView → Look
held_look r c = look_of (facts_of c) (held_value r c)
