use Rattle.std.proofs.Common.{sym, ap, ◌∙◌}
use Rattle.std.specs.Prelude.{is_some}
use Rattle.opa_case.proofs.Lively.{live_by_container, some_copied}
use Rattle.opa_saved.proofs.living.LivingStanding.live.Goals as goal

pub returns-else-is_global : goal.returns-else-is_global
returns-else-is_global c =
    c.is_some.ensures ∙ sym (some_copied c.container_of.result) ∙ ap is_some c.container_of.ensures
    ∙ live_by_container c.args.inst.now c.args.self.now (sym c.is_global.ensures ∙ c.if-is_global.false)
