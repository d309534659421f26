use Rattle.std.proofs.Common.{ap, ◌∙◌}
use Rattle.std.specs.FinMap as map
use Rattle.opa_cases.proofs.name_map.NamedLaws.{counted}
use Rattle.opa_cases.proofs.name_map.map.Named.len.Goals as goal

pub returns-clause-len : goal.returns-clause-len
returns-clause-len g c = c.len.ensures.len ∙ counted c.self.inside.entries.entries c.len.ensures.ordered ∙ ap map.len c.self.view_is
