use Rattle.std.proofs.Common.{sym, ◌∙◌}
use Rattle.opa_session.proofs.infer.Accepted.{withdrawable}
use Rattle.opa_session.proofs.infer.coming.coming_withdrawal.Goals as goal

pub returns-clause-may : goal.returns-clause-may
returns-clause-may c =
    withdrawable c.args.base.now c.args.case.now c.requires.fits c.models_are_shapes.ensures c.step_fits.ensures c.args.attr c.args.inst.now c.requires.declared (sym c.in_default.is ∙ c.withdraw_refusal.ensures)
