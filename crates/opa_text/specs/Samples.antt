-- What the smallest model with a number and a list has.
use Rattle.std.specs.Prelude.{◌≡◌, false, None}
use Rattle.opa_model.specs.declared.things.Attribute.{Attribute}
use Rattle.opa_model.specs.declared.things.Relation.{Relation}
use Rattle.opa_model.specs.declared.things.Kind.TheVariants as kind

-- a number of the global entity
pub record IsGlobalNumber (a : Attribute) : Type 0 where
  pub of_global : a.entity.0 ≡ 0
  pub is_number : a.kind ≡ kind.Number
  pub without_decimals : a.decimals ≡ 0
  pub without_sentence : a.sentence ≡ None

-- a list that refers from the global entity to itself
pub record IsGlobalList (r : Relation) : Type 0 where
  pub from_global : r.source.0 ≡ 0
  pub to_global : r.target.0 ≡ 0
  pub contains_none : r.contains ≡ false
  pub not_every : r.every ≡ false
