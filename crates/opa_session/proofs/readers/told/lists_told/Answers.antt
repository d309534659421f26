use Rattle.std.proofs.Common.{sym, ◌∙◌, ap, subst}
use Rattle.std.specs.Prelude.{flat_map}
use Rattle.opa_case.specs.Cases.{CaseView}
use Rattle.opa_case.specs.Overlays.{relisted_case}
use Rattle.opa_case.specs.Touched.{AreTouched}
use Rattle.opa_session.specs.Readers.Renewing.{list_told}
use Rattle.opa_session.proofs.readers.ListsTold.{are_lists_told}
use Rattle.opa_session.proofs.readers.told.lists_told.Goals as goal

pub returns : goal.returns
returns c =
    let next = c.args.next.now in
    are_lists_told c.args.base.now next.case.now (relisted_case next) c.as_slice-keys.result.now
    (subst (λ keys. AreTouched next.case.now (relisted_case next) keys) (sym c.as_slice-keys.ensures) c.in_ok-touched.ensures) c.in_ok-told.told
    (c.in_ok-told.ensures ∙ ap (λ (v : CaseView). flat_map (λ x. list_told v (relisted_case next) (x.0.0, x.1)) c.as_slice-keys.result.now) c.requires)
