-- What is told of a point, and of a list.
use Rattle.std.specs.Prelude.{ℕ, List, [], ◌∷◌, ◌++◌, codes, if◌then◌else◌}
use Rattle.opa_model.specs.declared.ids.AttrId.{AttrId}
use Rattle.opa_model.specs.declared.ids.RelId.{RelId}
use Rattle.opa_cells.specs.declared.instance.InstanceId.{InstanceId}
use Rattle.opa_case.specs.Cases.{CaseView, list_of}
use Rattle.opa_case.specs.Shapes.{attribute_or, relation_or}
use Rattle.opa_tree.specs.declared.rulebase.Rulebase.{Rulebase}
use Rattle.opa_mean.specs.Changes.{line}
use Rattle.opa_mean.specs.Given.{base_of, facts_of}
use Rattle.opa_mean.specs.Slots.{has_place, has_list_place}
use Rattle.opa_text.specs.Texts.{line_text}
use Rattle.opa_text.specs.Points.{point_text, names_text}

-- the instance isn't live, or isn't of the entity
abbrev pub refused_point : List ℕ
refused_point = codes "refused: point" ++ 10 ∷ []

-- `POINT: WHAT`
abbrev pub told : List ℕ → InstanceId → List ℕ → List ℕ
told phrase i what = point_text phrase i ++ (codes ": " ++ (what ++ 10 ∷ []))

-- the text of the line of an attribute for an instance: its values by the fresh determination
abbrev pub told_line : Rulebase → CaseView → AttrId → InstanceId → List ℕ
told_line r c a i = line_text (attribute_or r.model a).kind (line (base_of r) (facts_of c) a i)

-- `POINT: LINE`, where the instance has the attribute
abbrev pub value_told : Rulebase → CaseView → AttrId → InstanceId → List ℕ
value_told r c a i = if has_place r c a i then told (attribute_or r.model a).phrase i (told_line r c a i) else refused_point

-- `POINT: NAMES`, where the instance has the list
abbrev pub names_told : Rulebase → CaseView → RelId → InstanceId → List ℕ
names_told r c n i = if has_list_place r c n i then told (relation_or r.model n).phrase i (names_text (list_of c n i)) else refused_point
