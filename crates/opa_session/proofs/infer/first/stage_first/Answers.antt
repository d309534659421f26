use Rattle.std.proofs.Common.{sym, ◌∙◌}
use Rattle.opa_session.specs.Store.Stores.{kept_of, staged_of}
use Rattle.opa_session.proofs.infer.Firstly.{copied_some, next_again, next_first, next_may}
use Rattle.opa_session.proofs.infer.first.stage_first.Goals as goal

pub returns-then-is_some-clause-first : goal.returns-then-is_some-clause-first
returns-then-is_some-clause-first g c =
    let x = c.index-slots-place.result in
    next_again c.args.base.now c.args.case.now c.requires.fits c.args.slots.now c.requires.slots (kept_of c.args.store.now) (staged_of c.args.store.now) c.args.place c.requires.first x.0 x.1 c.requires.place (sym c.index-slots-place.is)
    (copied_some c.staged.result (staged_of c.args.store.now x.0 x.1) c.staged.ensures (sym c.is_some.ensures ∙ c.if-is_some.true))

pub derive-requires-clause-may : goal.derive-requires-clause-may
derive-requires-clause-may g c =
    let x = c.index-slots-place.result in
    next_may c.args.base.now c.args.case.now c.requires.fits c.args.slots.now c.requires.slots (kept_of c.args.store.now) (staged_of c.args.store.now) c.args.place c.requires.first x.0 x.1 c.requires.place (sym c.index-slots-place.is)
    (c.values_have_kinds.ensures c.args.base.now) _ c.requires.code c.in_ok-inst.inst c.in_ok-inst.ensures

pub returns-clause-first : goal.returns-clause-first
returns-clause-first g c =
    let x = c.index-slots-place.result in
    let d = c.in_ok-derive.ensures.derived in
    next_first c.args.base.now c.args.case.now c.requires.fits c.args.slots.now c.requires.slots (kept_of c.args.store.now) (staged_of c.args.store.now) c.args.place c.requires.first x.0 x.1 c.requires.place (sym c.index-slots-place.is)
    _ c.requires.code c.in_ok-inst.inst c.in_ok-inst.ensures d.0 d.1 (kept_of c.derive.new.self) (staged_of c.derive.new.self) c.in_ok-derive.ensures.kept d.2
