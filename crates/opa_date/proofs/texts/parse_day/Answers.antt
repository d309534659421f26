use Rattle.std.proofs.Common.{◌≡◌, rules}
use Rattle.opa_date.specs.Texts.{read_day}
use Rattle.opa_date.proofs.ReadTexts.{ok_text}
use Rattle.opa_date.proofs.texts.parse_day.Goals as goal

pub returns-clause-text : goal.returns-clause-text
returns-clause-text c =
    let is : c.day_of_digits.result ≡ read_day c.args.text.now = search rules in
    ok_text c.args.text.now c.day_of_digits.result is
