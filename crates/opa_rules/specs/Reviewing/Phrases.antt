-- The phrases that findings name.
use Rattle.std.specs.Prelude.{ℕ, List, []}
use Rattle.std.specs.Option.{unwrap_or}
use Rattle.opa_model.specs.declared.ids.AttrId.{AttrId}
use Rattle.opa_model.specs.declared.ids.RelId.{RelId}
use Rattle.opa_model.specs.declared.lists.Lists.{Lists}
use Rattle.opa_rules.specs.Describing.Parts.{attribute_phrase, relation_phrase}

abbrev pub phrase_of : Lists → AttrId → List ℕ
phrase_of m a = unwrap_or (attribute_phrase m a) []

abbrev pub list_phrase_of : Lists → RelId → List ℕ
list_phrase_of m r = unwrap_or (relation_phrase m r) []
