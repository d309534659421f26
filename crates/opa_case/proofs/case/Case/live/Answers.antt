use Rattle.std.proofs.Common.{ap, ◌∙◌}
use Rattle.opa_case.specs.Live.{is_live}
use Rattle.opa_case.specs.Cases.{CaseView}
use Rattle.opa_case.proofs.Housing.{live_by_homes}
use Rattle.opa_case.proofs.case.Case.live.Goals as goal

pub returns : goal.returns
returns c = c.is_live.ensures ∙ live_by_homes _ _ c.self.invariant.0 c.args.inst.now ∙ ap (λ (v : CaseView). is_live v.live c.args.inst.now) c.self.view_is
