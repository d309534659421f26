-- What a rulebase declares, as one JSON document.
use Rattle.std.specs.Prelude.{ℕ, ◌-◌, Bool, true, false, List, [], ◌∷◌, ◌++◌, length, map, Option, None, Some, option_map, slice_index_or}
use Rattle.serde_json.specs.Data.{Data, null}
use Rattle.serde_json.specs.Written.{compact_text}
use Rattle.opa_model.specs.declared.ids.AttrId.{AttrId}
use Rattle.opa_model.specs.declared.ids.RelId.{RelId}
use Rattle.opa_model.specs.declared.lists.Lists.{Lists}
use Rattle.opa_model.specs.declared.things.Attribute.{Attribute}
use Rattle.opa_model.specs.declared.things.Relation.{Relation}
use Rattle.opa_model.specs.Lookups.{attribute_at, relation_at}
use Rattle.opa_cells.specs.Instances.{global}
use Rattle.opa_case.specs.declared.question.Question.{Question}
use Rattle.opa_case.specs.declared.question.Question.TheVariants as question
use Rattle.opa_text.specs.Points.{question_text}
use Rattle.opa_tree.specs.declared.rulebase.Rulebase.{Rulebase}
use Rattle.opa_tree.specs.Rules.{rule_of}
use Rattle.opa_text.specs.Screen.Screens.{screen_of, numbered}
use Rattle.opa_rules.specs.Describing.Parts.{text_or_null, list_data, upto, attr, rel, denied_data, rule_data, attribute_with, relation_with, entity_data, screen_data, goal_data, file_data, whole_data}

-- ---- questions and screens

-- the question for the case itself
abbrev pub question_data : Lists → Question → Data
question_data m q = text_or_null (question_text m q)

-- the title of the screen that shows what is asked
abbrev pub screen_name : Lists → Question → Data
screen_name m q = text_or_null (option_map (λ s. s.title) (numbered m (screen_of m q)))

-- ---- things

abbrev pub attribute_by : Rulebase → AttrId → Option Attribute → Data
attribute_by b n None = null
attribute_by b n (Some a) =
    attribute_with (denied_data b.model a.sentence) (question_data b.model (question.Attr n global)) (rule_data b.model b.files (rule_of b.rules n))
    (screen_name b.model (question.Attr n global)) b.model a

abbrev pub attribute_data : Rulebase → ℕ → Data
attribute_data b n = attribute_by b (attr n) (attribute_at b.model (attr n))

-- what is asked, unless all instances are listed
abbrev pub asked_data : Bool → Lists → Question → Data
asked_data true m q = null
asked_data false m q = question_data m q

abbrev pub relation_by : Lists → RelId → Option Relation → Data
relation_by m n None = null
relation_by m n (Some r) = relation_with (asked_data r.every m (question.Members n global)) (screen_name m (question.Members n global)) m r

abbrev pub relation_data : Lists → ℕ → Data
relation_data m n = relation_by m (rel n) (relation_at m (rel n))

-- ---- the whole

-- all that is declared, in declared order
unfoldable pub description : Rulebase → Data
description b =
    let m = b.model in
    whole_data (list_data (upto (attribute_data b) (length m.attributes))) (list_data (upto (entity_data m) (length m.entities - 1))) (list_data (map file_data b.files))
    (list_data (upto (goal_data m) (length m.goals))) (list_data (upto (relation_data m) (length m.relations))) (list_data (upto (screen_data m) (length m.screens))) (slice_index_or b.files 0 [])

-- printed compactly, and a line feed
unfoldable pub described : Rulebase → List ℕ
described b = compact_text (description b) ++ 10 ∷ []
