use Rattle.std.proofs.Common.{◌∙◌, Some, sym, ap}
use Rattle.opa_line.specs.Lines.{value_or}
use Rattle.opa_line.proofs.Zipping.{ok_weaker}
use Rattle.opa_value.specs.declared.value.Value.TheVariants.{Unknown}
use Rattle.opa_report.proofs.Seeing.{unseen}
use Rattle.opa_report.proofs.held.HeldSightSight.line.Goals as goal

pub returns-in-None : goal.returns-in-None
returns-in-None g c =
    let r = g.H.Held.rules c.args.self.now.held.now in let k = g.H.Held.held c.args.self.now.held.now in
    ok_weaker c.constant.result _ _ (λ line stands live own. unseen r k c.case-case.ensures.fits c.args.attr c.args.inst.now line (sym c.in-None.ensures.none) stands live own) c.constant.ensures.everywhere

pub returns-in-Some : goal.returns-in-Some
returns-in-Some g c = ok_weaker c.same_line.result _ _ (λ line stands live own. λ d lt. stands d lt ∙ ap Some (ap (value_or Unknown) (c.in-Some.ensures.value d lt))) c.same_line.ensures
