use Rattle.std.proofs.Common.{◌∙◌, ap}
use Rattle.std.specs.Option.{option_copied}
use Rattle.opa_case.specs.Cases.{list_of}
use Rattle.opa_case.specs.Overlays.{relisted_case}
use Rattle.opa_mean.specs.Sameness.{same_names}
use Rattle.opa_session.proofs.readers.ListsTold.{adds_differing, adds_none}
use Rattle.opa_session.proofs.readers.told.add_differing.Goals as goal

pub returns-then-same : goal.returns-then-same
returns-then-same c =
    adds_none c.args.held.now (relisted_case c.args.next.now) c.args.rel c.args.inst.now c.same_names-same.result c.args.told.now
    (c.same_names-same.ensures ∙ ap (λ o. same_names o (option_copied c.list_of-2.result)) c.list_of.ensures ∙ ap (same_names (list_of c.args.held.now c.args.rel c.args.inst.now)) c.list_of-2.ensures) c.if-same.true

pub returns-in_ok-push : goal.returns-in_ok-push
returns-in_ok-push c =
    adds_differing c.args.held.now (relisted_case c.args.next.now) c.args.rel c.args.inst.now c.same_names-same.result c.args.told.now c.push.new.self c.in_ok-inst.inst
    (c.same_names-same.ensures ∙ ap (λ o. same_names o (option_copied c.list_of-2.result)) c.list_of.ensures ∙ ap (same_names (list_of c.args.held.now c.args.rel c.args.inst.now)) c.list_of-2.ensures)
    c.if-same.false c.in_ok-inst.ensures c.in_ok-push.ensures.ok
