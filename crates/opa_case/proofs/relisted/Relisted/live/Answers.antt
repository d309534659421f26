use Rattle.std.specs.Prelude.{is_some}
use Rattle.std.proofs.Common.{ap, sym, ◌∙◌}
use Rattle.opa_case.proofs.Lively.{live_by_container}
use Rattle.opa_case.proofs.Overlaid.{copied_some}
use Rattle.opa_case.proofs.relisted.Relisted.live.Goals as goal

pub returns-else-is_global : goal.returns-else-is_global
returns-else-is_global c = c.is_some.ensures ∙ copied_some c.container_of.result ∙ ap is_some c.container_of.ensures ∙ live_by_container c.args.inst.now _ (sym c.is_global.ensures ∙ c.if-is_global.false)
