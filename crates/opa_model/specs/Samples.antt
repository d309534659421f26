-- Attributes as the simplest model has them.
use Rattle.std.specs.Prelude.{ℕ, ◌≡◌, Some}
use Rattle.opa_model.specs.declared.things.Attribute.{Attribute}
use Rattle.opa_model.specs.declared.things.Kind.TheVariants as kind
use Rattle.opa_model.specs.declared.things.Sentence.{Sentence}

-- a bool of the global entity that is said with the first verb
pub record IsGlobalBool (a : Attribute) : Type 0 where
  pub of_global : a.entity.0 ≡ 0
  pub is_bool : a.kind ≡ kind.Bool
  pub without_decimals : a.decimals ≡ 0
  pub sentence : Sentence
  pub is_said : a.sentence ≡ Some sentence
  pub by_first_verb : sentence.verb ≡ 0
