use Rattle.std.proofs.Common.{ap, ◌∙◌}
use Rattle.opa_case.specs.Homes.{has_name}
use Rattle.opa_case.proofs.list_faults.has_name.Goals as goal

pub returns : goal.returns
returns c = c.contains_key.ensures ∙ ap (has_name c.args.names.now) c.as_str.ensures
