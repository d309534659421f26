-- The texts of points, of names and of questions.
use Rattle.std.specs.Prelude.{ℕ, List, [], ◌∷◌, ◌++◌, Option, Some, None, codes, if◌then◌else◌}
use Rattle.std.specs.Option.{option_map, option_and_then}
use Rattle.opa_words.specs.Kinds.{quoted}
use Rattle.opa_model.specs.declared.lists.Lists.{Lists}
use Rattle.opa_model.specs.declared.things.Sentence.{Sentence}
use Rattle.opa_model.specs.Lookups.{attribute_at, relation_at}
use Rattle.opa_model.specs.Models.{HasAttribute, HasRelation}
use Rattle.opa_verbs.specs.declared.sentence.Form.TheVariants as form
use Rattle.opa_verbs.specs.Forms.{said}
use Rattle.opa_cells.specs.declared.instance.InstanceId.{InstanceId}
use Rattle.opa_cells.specs.Instances.{is_same, global}
use Rattle.opa_case.specs.declared.question.Question.{Question}
use Rattle.opa_case.specs.declared.question.Question.TheVariants as question

-- ` of "NAME"`, and nothing for the global instance
abbrev pub instance_part : InstanceId → List ℕ
instance_part i = if is_same i global then [] else codes " of " ++ quoted i.name

-- a phrase at an instance
abbrev pub point_text : List ℕ → InstanceId → List ℕ
point_text phrase i = phrase ++ instance_part i

-- names between quotes, each after `, `
abbrev pub more_names : List (List ℕ) → List ℕ
more_names [] = []
more_names (n ∷ ns) = codes ", " ++ (quoted n ++ more_names ns)

abbrev pub known_names : List (List ℕ) → List ℕ
known_names [] = codes "none"
known_names (n ∷ ns) = quoted n ++ more_names ns

abbrev pub names_text : Option (List (List ℕ)) → List ℕ
names_text None = codes "unknown"
names_text (Some ns) = known_names ns

-- what is asked of an attribute: its question, and where it has no sentence `what is PHRASE`
abbrev pub asked_attribute : Lists → Option Sentence → List ℕ → Option (List ℕ)
asked_attribute m None phrase = Some (codes "what is " ++ phrase)
asked_attribute m (Some s) phrase = said m s form.Question

-- without the instance
abbrev pub asked : Lists → Question → Option (List ℕ)
asked m (question.Attr a i) = option_and_then (λ x. asked_attribute m x.sentence x.phrase) (attribute_at m a)
asked m (question.Members r i) = option_map (λ x. codes "which are " ++ x.phrase) (relation_at m r)

abbrev pub asked_at : Question → InstanceId
asked_at (question.Attr a i) = i
asked_at (question.Members r i) = i

-- what is asked, of which instance, and a question mark
abbrev pub question_text : Lists → Question → Option (List ℕ)
question_text m q = option_map (λ t. t ++ (instance_part (asked_at q) ++ 63 ∷ [])) (asked m q)

-- what is asked is declared
abbrev pub HasAsked : Lists → Question → Type 0
HasAsked m (question.Attr a i) = HasAttribute m a
HasAsked m (question.Members r i) = HasRelation m r
