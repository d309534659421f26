use Rattle.std.proofs.Common.{ap, sym, ◌∙◌, map}
use Rattle.std.specs.Prelude.{Some}
use Rattle.std.specs.Option.{option_map}
use Rattle.serde_json.specs.View.{view, items_view}
use Rattle.opa_saved.proofs.PartLaws.{items_known}
use Rattle.opa_saved.proofs.parts.items_in.Goals as goal

pub returns-in-Some : goal.returns-in-Some
returns-in-Some c =
    ap (λ vs. Some (map view vs)) c.as_slice.ensures.value
    ∙ items_known (view c.args.value.now) (map view c.in-Some.items.now.items) (sym c.as_array.ensures ∙ ap (option_map (λ v. items_view v.now.items)) c.in-Some.is)
