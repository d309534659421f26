use Rattle.std.specs.FinMap.{get}
use Rattle.std.proofs.Common.{ap, ◌∙◌}
use Rattle.opa_case.specs.Cases.{CaseView}
use Rattle.opa_case.proofs.Whole.{all_short}
use Rattle.opa_case.proofs.case.Case.lists.Goals as goal

pub returns-clause-short : goal.returns-clause-short
returns-clause-short c r i names at = all_short names (c.self.invariant.2.short r i names (ap (λ (v : CaseView). get v.lists (r.0, i)) c.self.view_is ∙ at))
