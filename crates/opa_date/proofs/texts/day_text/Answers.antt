use Rattle.std.proofs.Common.{ap, ◌∙◌}
use Rattle.opa_date.specs.Texts.{read_day}
use Rattle.opa_date.proofs.ReadTexts.{texts_are_read}
use Rattle.opa_date.proofs.texts.day_text.Goals as goal

pub returns-clause-reads_back : goal.returns-clause-reads_back
returns-clause-reads_back c = ap read_day c.text_bytes.ensures ∙ texts_are_read c.args.day c.requires
