use Rattle.std.proofs.Common.{sym, ◌∙◌}
use Rattle.std.specs.Prelude.{Some}
use Rattle.std.specs.String.{string_bytes}
use Rattle.std.specs.HashMap.{get_by_text}
use Rattle.std.proofs.lemmas.Map.Text.{hash_map_updates_text}
use Rattle.opa_words.proofs.FoundLaws.{also_new}
use Rattle.opa_decl.proofs.places.note.Goals as goal

pub returns-in_ok-insert : goal.returns-in_ok-insert
returns-in_ok-insert c =
    also_new (get_by_text c.args.places.now) (get_by_text c.insert.new.self) c.args.text.now (string_bytes c.in_ok-from_str.field-0) c.args.place c.in_ok-from_str.ensures.ok (sym c.contains_key.ensures ∙ c.if-not-contains_key.true)
    (hash_map_updates_text (string_bytes c.in_ok-from_str.field-0) c.args.places.now c.insert.new.self (Some c.args.place) c.in_ok-insert.ensures.updates)
