use Rattle.std.proofs.Common.{◌∙◌, ap}
use Rattle.std.specs.List.{list_any}
use Rattle.opa_report.proofs.day_sets.Setting.{has_by_pairs}
use Rattle.opa_report.proofs.day_sets.sets.has_some.Goals as goal

pub returns : goal.returns
returns c = has_by_pairs c.args.days.now c.one_on.result c.segments.ensures.form (c.one_on.ensures ∙ ap (list_any (λ p. p.1)) c.segments.ensures.value)
