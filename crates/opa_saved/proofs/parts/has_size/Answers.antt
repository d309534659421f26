use Rattle.std.proofs.Common.{ap, sym, ◌∙◌}
use Rattle.std.specs.Option.{option_map}
use Rattle.serde_json.specs.View.{view, members_view}
use Rattle.serde_json.proofs.Views.{members_len-members_view}
use Rattle.opa_saved.proofs.PartLaws.{size_known}
use Rattle.opa_saved.proofs.parts.has_size.Goals as goal

pub returns-in-Some : goal.returns-in-Some
returns-in-Some c =
    size_known (view c.args.value.now) (members_view c.in-Some.members.now.entries) c.len.result c.args.size
    (sym c.as_object.ensures ∙ ap (option_map (λ m. members_view m.now.entries)) c.in-Some.is)
    (c.len.ensures.len ∙ sym (members_len-members_view c.in-Some.members.now.entries))
