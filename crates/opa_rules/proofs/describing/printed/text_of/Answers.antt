use Rattle.std.proofs.Common.{◌≡◌, ◌++◌, ◌∷◌, [], rules, refl}
use Rattle.std.proofs.lemmas.Str.{IsUtf8-append}
use Rattle.json.proofs.Printed.Utf8.{IsUtf8-are_ascii}
use Rattle.opa_saved.proofs.Newline.{read-line_feed}
use Rattle.opa_rules.proofs.describing.printed.text_of.Goals as goal

pub returns-in-Ok-clause-back : goal.returns-in-Ok-clause-back
returns-in-Ok-clause-back c =
    let items : c.push.new.self.items ≡ c.in_ok-text.text.items ++ 10 ∷ [] = search rules in
    rw items (
      IsUtf8-append _ _ c.in_ok-text.ensures.utf8 (IsUtf8-are_ascii (10 ∷ []) refl),
      read-line_feed _ _ c.in_ok-text.ensures.compact (c.in_ok-text.ensures.reads_back c.requires.shallow),
    )
