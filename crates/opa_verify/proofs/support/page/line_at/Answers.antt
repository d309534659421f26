use Rattle.std.proofs.Common.{[], Some, unwrap_or, ap, ◌∙◌}
use Rattle.std.specs.FinMap.{get}
use Rattle.opa_verify.specs.Listed.ShadeLines.{runs_at}
use Rattle.opa_verify.proofs.support.Ledging.{runs_shade}
use Rattle.opa_verify.proofs.support.page.line_at.Goals as goal

pub returns : goal.returns
returns c = λ d lt. c.in_ok-line.ensures d lt ∙ ap (λ rs. Some (runs_at rs d)) c.runs_at-runs.ensures ∙ ap Some (runs_shade (unwrap_or (get c.args.told.now.runs (c.args.attr.0, c.args.inst.now)) []) d)
