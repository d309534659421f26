use Rattle.std.proofs.Common.{◌∙◌, Some, refl, sym, ap}
use Rattle.std.specs.Option.{option_copied, option_map}
use Rattle.opa_verify.specs.Listed.Ways.{place_seen}
use Rattle.opa_verify.proofs.listed.Placed.{at_met, at_passed, at_missing, drop_beyond}
use Rattle.opa_verify.proofs.listed.places.place_by.Goals as goal

pub loop-inst-init : goal.loop-inst-init
loop-inst-init g c = refl

pub returns-in-Some-Some : goal.returns-in-Some-Some
returns-in-Some-Some g c =
    sym (at_met (g.K.Containers.containers c.args.listed.now) c.args.enclosing.now c.args.entity c.loop-inst.inst-index c.inst-item.result c.loop-inst-test.true c.inst-item.is c.in-Some-Some.found.now
    (sym c.up.ensures ∙ ap (option_map option_copied) (c.in-Some-Some.is ∙ ap Some c.in-Some-Some.field-0-is))) ∙ c.loop-inst.invariant

pub returns-in-None : goal.returns-in-None
returns-in-None g c =
    sym (at_missing (g.K.Containers.containers c.args.listed.now) c.args.enclosing.now c.args.entity c.loop-inst.inst-index c.inst-item.result c.loop-inst-test.true c.inst-item.is
    (sym c.up.ensures ∙ ap (option_map option_copied) c.in-None.is)) ∙ c.loop-inst.invariant

pub loop-inst-preserved : goal.loop-inst-preserved
loop-inst-preserved g c =
    at_passed (g.K.Containers.containers c.args.listed.now) c.args.enclosing.now c.args.entity c.loop-inst.inst-index c.inst-item.result c.loop-inst-test.true c.inst-item.is
    (sym c.up.ensures ∙ ap (option_map option_copied) (c.in-Some-None.is ∙ ap Some c.in-Some-None.field-0-is)) ∙ c.loop-inst.invariant

pub returns : goal.returns
returns g c =
    sym (ap (λ ys. place_seen (g.K.Containers.containers c.args.listed.now) ys c.args.entity) (drop_beyond c.args.enclosing.now c.loop-inst.inst-index c.loop-inst-test.false)) ∙ c.loop-inst.invariant
