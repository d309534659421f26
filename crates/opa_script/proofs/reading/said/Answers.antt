use Rattle.std.proofs.Common.{sym, subst}
use Rattle.std.specs.Prelude.{IfErr}
use Rattle.std.proofs.lemmas.Result.{IfErr-weaker, IfOk-weaker}
use Rattle.opa_words.specs.Pieces.{seen}
use Rattle.opa_script.specs.Commands.{IsRead, IsRefused}
use Rattle.opa_script.proofs.reading.said.Goals as goal

pub returns-in-Answer-clause-fault : goal.returns-in-Answer-clause-fault
returns-in-Answer-clause-fault c = subst (λ v. IfErr c.answer.result (IsRefused c.args.model.now v (seen c.args.rest))) (sym c.in-Answer.is) c.answer.ensures.fault

pub returns-in-Withdraw-clause-fault : goal.returns-in-Withdraw-clause-fault
returns-in-Withdraw-clause-fault c = subst (λ v. IfErr c.withdraw.result (IsRefused c.args.model.now v (seen c.args.rest))) (sym c.in-Withdraw.is) c.withdraw.ensures.fault

pub returns-in-SetList-clause-fault : goal.returns-in-SetList-clause-fault
returns-in-SetList-clause-fault c = subst (λ v. IfErr c.set_list.result (IsRefused c.args.model.now v (seen c.args.rest))) (sym c.in-SetList.is) c.set_list.ensures.fault

pub returns-in-Forget-clause-fault : goal.returns-in-Forget-clause-fault
returns-in-Forget-clause-fault c = subst (λ v. IfErr c.forget.result (IsRefused c.args.model.now v (seen c.args.rest))) (sym c.in-Forget.is) c.forget.ensures.fault

pub returns-in-Show-clause-fault : goal.returns-in-Show-clause-fault
returns-in-Show-clause-fault c = subst (λ v. IfErr c.show.result (IsRefused c.args.model.now v (seen c.args.rest))) (sym c.in-Show.is) c.show.ensures.fault

pub returns-in-Report-clause-fault : goal.returns-in-Report-clause-fault
returns-in-Report-clause-fault c = subst (λ v. IfErr c.report.result (IsRefused c.args.model.now v (seen c.args.rest))) (sym c.in-Report.is) c.report.ensures.fault

pub returns-in-Save-clause-ok : goal.returns-in-Save-clause-ok
returns-in-Save-clause-ok c = IfOk-weaker c.save.result _ _ (λ x h. subst (λ v. IsRead c.args.model.now v (seen c.args.rest) x) (sym c.in-Save.is) (h c.args.model.now)) c.save.ensures.ok

pub returns-in-Save-clause-fault : goal.returns-in-Save-clause-fault
returns-in-Save-clause-fault c = IfErr-weaker c.save.result _ _ (λ x h. subst (λ v. IsRefused c.args.model.now v (seen c.args.rest) x) (sym c.in-Save.is) (h c.args.model.now)) c.save.ensures.fault

pub returns-in-Load-clause-ok : goal.returns-in-Load-clause-ok
returns-in-Load-clause-ok c = IfOk-weaker c.load.result _ _ (λ x h. subst (λ v. IsRead c.args.model.now v (seen c.args.rest) x) (sym c.in-Load.is) (h c.args.model.now)) c.load.ensures.ok

pub returns-in-Load-clause-fault : goal.returns-in-Load-clause-fault
returns-in-Load-clause-fault c = IfErr-weaker c.load.result _ _ (λ x h. subst (λ v. IsRefused c.args.model.now v (seen c.args.rest) x) (sym c.in-Load.is) (h c.args.model.now)) c.load.ensures.fault

pub returns-in-Dismiss-clause-ok : goal.returns-in-Dismiss-clause-ok
returns-in-Dismiss-clause-ok c = IfOk-weaker c.dismiss.result _ _ (λ x h. subst (λ v. IsRead c.args.model.now v (seen c.args.rest) x) (sym c.in-Dismiss.is) (h c.args.model.now)) c.dismiss.ensures.ok

pub returns-in-Dismiss-clause-fault : goal.returns-in-Dismiss-clause-fault
returns-in-Dismiss-clause-fault c = IfErr-weaker c.dismiss.result _ _ (λ x h. subst (λ v. IsRefused c.args.model.now v (seen c.args.rest) x) (sym c.in-Dismiss.is) (h c.args.model.now)) c.dismiss.ensures.fault
