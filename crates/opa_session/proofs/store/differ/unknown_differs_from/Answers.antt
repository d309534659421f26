use Rattle.std.proofs.Common.{sym, ap, ◌∙◌, None, is_some}
use Rattle.std.specs.Option.{option_copied}
use Rattle.opa_date.specs.declared.TheConstants.{DAYS}
use Rattle.opa_mean.specs.Changes.{first_difference}
use Rattle.opa_mean.specs.Given.{line_value}
use Rattle.opa_mean.proofs.reached.Differing.{none_where_same}
use Rattle.std.proofs.Common.{refl}
use Rattle.opa_session.proofs.store.differ.unknown_differs_from.Goals as goal

pub returns-in-None : goal.returns-in-None
returns-in-None c = sym (ap (λ o. is_some (first_difference DAYS (line_value None) (line_value (option_copied o)))) c.in-None.is ∙ ap is_some (none_where_same DAYS (line_value None) (line_value None) (λ d lt. refl)))
