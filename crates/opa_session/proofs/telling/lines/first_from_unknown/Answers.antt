use Rattle.std.proofs.Common.{sym, ap, ◌∙◌, None}
use Rattle.std.specs.Option.{option_copied}
use Rattle.opa_date.specs.declared.TheConstants.{DAYS}
use Rattle.opa_mean.specs.Changes.{first_difference}
use Rattle.opa_mean.specs.Given.{line_value}
use Rattle.opa_mean.proofs.ChangesAre.{no_difference}
use Rattle.opa_session.proofs.telling.lines.first_from_unknown.Goals as goal

pub returns-in-None : goal.returns-in-None
returns-in-None c = sym (ap (λ o. first_difference DAYS (line_value None) (line_value (option_copied o))) c.in-None.is ∙ no_difference DAYS (line_value None))
