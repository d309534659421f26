use Rattle.std.proofs.Common.{◌≡◌, ◌∙◌, ap, sym, false}
use Rattle.std.specs.Prelude.{Option}
use Rattle.std.specs.Option.{option_map_or}
use Rattle.opa_model.specs.declared.things.Attribute.{Attribute}
use Rattle.opa_tree.specs.Kinds.{is_kind, typed}
use Rattle.opa_rulebase.proofs.checking.kinds.attribute_kinds.Goals as goal

pub returns-in-Some : goal.returns-in-Some
returns-in-Some c = c.exactly.ensures ∙ ap (λ (o : Option Attribute). typed (λ k. option_map_or (λ x. is_kind x.kind k) o false)) c.in-Some.ensures

pub returns-in-None : goal.returns-in-None
returns-in-None c = c.none.ensures ∙ ap (λ (o : Option Attribute). typed (λ k. option_map_or (λ x. is_kind x.kind k) o false)) c.in-None.ensures
