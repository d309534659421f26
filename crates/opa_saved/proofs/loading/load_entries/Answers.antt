use Rattle.std.proofs.Common.{◌<◌, ◌≤◌, sym, ap, subst, ◌∙◌, Some}
use Rattle.std.specs.FinMap.{len}
use Rattle.std.proofs.lemmas.Result.{err_from_is_err_and}
use Rattle.opa_case.specs.Cases.{CaseView, stored}
use Rattle.opa_case.specs.Live.{live_of}
use Rattle.opa_case.specs.Shapes.{shape_of}
use Rattle.opa_saved.specs.Building.{AreTaken, AreAnswerable}
use Rattle.opa_saved.specs.Loading.{lists_of_file}
use Rattle.opa_saved.specs.Whole.{seen}
use Rattle.opa_saved.proofs.FaultLaws.{file_taken, file_answerable, told_early, told_none, told_over}
use Rattle.opa_saved.proofs.MadeCases.{answers_start, no_answers, case_made, least_is}
use Rattle.opa_saved.proofs.loading.load_entries.Goals as goal

pub returns-in-Some-clause-fault : goal.returns-in-Some-clause-fault
returns-in-Some-clause-fault c other =
    let m = c.args.model.now in
    let f = seen c.args.entries in
    let is = c.in_ok-lists.ensures ∙ ap (lists_of_file m) c.deref.ensures.value in
    let least = least_is m c.args.ruled.now f c.in_ok-lists.lists is c.in_ok-living.living (c.in_ok-living.ensures ∙ c.in_ok-order.ensures) _ c.least_of.result (c.deref-2.ensures.value ∙ c.in_ok-refusals.ensures) c.least_of.ensures in
    told_early m c.args.ruled.now f c.in-Some.fault (sym least ∙ c.in-Some.is)

pub case_of_lists-requires : goal.case_of_lists-requires
case_of_lists-requires c =
    let m = c.args.model.now in
    let f = seen c.args.entries in
    let is = c.in_ok-lists.ensures ∙ ap (lists_of_file m) c.deref.ensures.value in
    let least = least_is m c.args.ruled.now f c.in_ok-lists.lists is c.in_ok-living.living (c.in_ok-living.ensures ∙ c.in_ok-order.ensures) _ c.least_of.result (c.deref-2.ensures.value ∙ c.in_ok-refusals.ensures) c.least_of.ensures in
    subst (AreTaken (shape_of m) c.args.ruled.now) (sym is) (file_taken m c.args.ruled.now f (sym least ∙ c.in_default.is))

pub put_answers-requires-clause-taken : goal.put_answers-requires-clause-taken
put_answers-requires-clause-taken c =
    let m = c.args.model.now in
    let f = seen c.args.entries in
    let is = c.in_ok-lists.ensures ∙ ap (lists_of_file m) c.deref.ensures.value in
    let least = least_is m c.args.ruled.now f c.in_ok-lists.lists is c.in_ok-living.living (c.in_ok-living.ensures ∙ c.in_ok-order.ensures) _ c.least_of.result (c.deref-2.ensures.value ∙ c.in_ok-refusals.ensures) c.least_of.ensures in
    let alive = ap (λ (x : CaseView). x.live) c.in_ok-case.ensures.is ∙ ap (λ l. live_of (shape_of m) (stored l)) is in
    subst (λ l. AreAnswerable m c.args.ruled.now l f.answers) (sym alive) (file_answerable m c.args.ruled.now f (sym least ∙ c.in_default.is))

pub put_answers-requires-clause-few : goal.put_answers-requires-clause-few
put_answers-requires-clause-few c = no_answers c.in_ok-case.case.answers (ap (λ (x : CaseView). x.answers) c.in_ok-case.ensures.is)

pub returns-in_err-put_answers-clause-fault : goal.returns-in_err-put_answers-clause-fault
returns-in_err-put_answers-clause-fault c =
    let p = err_from_is_err_and c.from_residual-in_err-put_answers.result c.from_residual-in_err-put_answers.ensures.1 in
    let m = c.args.model.now in
    let f = seen c.args.entries in
    let is = c.in_ok-lists.ensures ∙ ap (lists_of_file m) c.deref.ensures.value in
    let least = least_is m c.args.ruled.now f c.in_ok-lists.lists is c.in_ok-living.living (c.in_ok-living.ensures ∙ c.in_ok-order.ensures) _ c.least_of.result (c.deref-2.ensures.value ∙ c.in_ok-refusals.ensures) c.least_of.ensures in
    let start = answers_start m f.answers c.in_ok-case.case.answers (ap (λ (x : CaseView). x.answers) c.in_ok-case.ensures.is) in
    rw (p.1, p.2) (λ other. (let q = c.in_err-put_answers.ensures.over other in told_over m c.args.ruled.now f (sym least ∙ c.in_default.is) (subst (λ a. 100000 < len a) start q.1) ∙ ap Some (sym q.0)))

pub returns-clause-faultless : goal.returns-clause-faultless
returns-clause-faultless c =
    let m = c.args.model.now in
    let f = seen c.args.entries in
    let is = c.in_ok-lists.ensures ∙ ap (lists_of_file m) c.deref.ensures.value in
    let least = least_is m c.args.ruled.now f c.in_ok-lists.lists is c.in_ok-living.living (c.in_ok-living.ensures ∙ c.in_ok-order.ensures) _ c.least_of.result (c.deref-2.ensures.value ∙ c.in_ok-refusals.ensures) c.least_of.ensures in
    told_none m c.args.ruled.now f (sym least ∙ c.in_default.is)
    (subst (λ (x : CaseView). len x.answers ≤ 100000) (case_made m f c.in_ok-lists.lists is c.in_ok-case.case c.in_ok-case.ensures.is c.put_answers.new.case c.in_ok-put_answers.ensures.is) c.in_ok-put_answers.ensures.few)

pub returns-clause-case : goal.returns-clause-case
returns-clause-case c =
    let m = c.args.model.now in
    case_made m (seen c.args.entries) c.in_ok-lists.lists (c.in_ok-lists.ensures ∙ ap (lists_of_file m) c.deref.ensures.value) c.in_ok-case.case c.in_ok-case.ensures.is _ c.in_ok-put_answers.ensures.is
