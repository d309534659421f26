use Rattle.std.proofs.Common.{sym, ◌∙◌}
use Rattle.opa_cases.proofs.ReadLaws.{too_long_name}
use Rattle.opa_cases.proofs.naming.taken.Goals as goal

pub returns : goal.returns
returns c = too_long_name c.args.«_text».now c.args.name c.args.rest.now c.requires.begins (sym c.is_short.ensures ∙ c.if-is_short.false)
