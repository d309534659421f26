use Rattle.std.proofs.Common.{◌∙◌, ap}
use Rattle.opa_case.specs.Cases.{CaseView, list_of}
use Rattle.opa_report.proofs.Seeing.{members_live}
use Rattle.opa_report.proofs.held.HeldSightSight.members.Goals as goal

pub returns-clause-listed : goal.returns-clause-listed
returns-clause-listed g c =
    let r = g.H.Held.rules c.args.self.now.held.now in let k = g.H.Held.held c.args.self.now.held.now in
    members_live r k c.case-case.ensures.fits c.args.rel c.args.inst.now c.list_of.result (c.list_of.ensures ∙ ap (λ (q : CaseView). list_of q c.args.rel c.args.inst.now) c.case-case.ensures.case)
