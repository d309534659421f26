use Rattle.std.proofs.Common.{ℕ, List, [], map, ap, ◌∙◌}
use Rattle.std.specs.Prelude.{slice_index_or}
use Rattle.serde_json.specs.View.{view}
use Rattle.opa_rules.specs.Describing.Parts.{list_data, file_data}
use Rattle.opa_rules.proofs.describing.PlainLaws.{whole_is}
use Rattle.opa_rules.proofs.describing.describing.description_json.Goals as goal

pub returns : goal.returns
returns c =
    whole_is c.args.base.now (view c.in_ok-json.json) _ _ _ _ _ _ _ c.in_ok-json.ensures c.in_ok-attributes.ensures c.in_ok-entities.ensures (c.in_ok-files_json.ensures ∙ ap (λ (fs : List (List ℕ)). list_data (map file_data fs)) c.as_slice.ensures)
    c.in_ok-goals.ensures c.in_ok-relations.ensures c.in_ok-screens.ensures (c.file_name.ensures ∙ ap (λ (fs : List (List ℕ)). slice_index_or fs 0 []) c.as_slice-2.ensures)
