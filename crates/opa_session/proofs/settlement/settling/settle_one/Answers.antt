use Rattle.std.proofs.Common.{refl, sym, subst}
use Rattle.std.specs.Option.{option_copied}
use Rattle.opa_mean.specs.Reached.Settling.{shift}
use Rattle.opa_mean.specs.Reached.Slots.{slots_in}
use Rattle.opa_session.specs.Settlement.Tasks.{AreInOrder}
use Rattle.opa_session.proofs.settlement.Settles.{may_code, fewer, counted, listed_counted, after_same, after_changed, ranked_rest, in_order, stand_same, stand_changed}
use Rattle.opa_session.specs.Store.Stores.{StoreView, kept_of, staged_of}
use Rattle.opa_session.proofs.settlement.settling.settle_one.Goals as goal

pub derive-requires-clause-may : goal.derive-requires-clause-may
derive-requires-clause-may g c =
    may_code (shift c.args.base.now c.args.held.now (g.N.Next.next c.args.next.now)) (kept_of c.args.store.now) (g.R.Readers.readers c.args.readers.now) c.requires.can (staged_of c.args.store.now) c.args.task c.args.tasks.now c.requires.ranked c.requires.first c.requires.once c.requires.settling (g.D.Derive.stands_for c.args.code.now) c.requires.code

pub returns-in_err-differs-clause-order : goal.returns-in_err-differs-clause-order
returns-in_err-differs-clause-order g c =
    subst (λ (v : StoreView). AreInOrder c.args.base.now v.slots) (sym c.in_err-differs.ensures.unchanged) c.requires.before.order

pub returns-in_err-mark_live-clause-order : goal.returns-in_err-mark_live-clause-order
returns-in_err-mark_live-clause-order g c =
    in_order (shift c.args.base.now c.args.held.now (g.N.Next.next c.args.next.now)) (kept_of c.args.store.now) (g.R.Readers.readers c.args.readers.now) c.requires.can (staged_of c.args.store.now) c.args.task c.args.tasks.now c.requires.ranked c.requires.first c.requires.once c.requires.settling c.args.store.now.slots c.derive.new.self.slots (record { attr = c.args.task.attr; inst = c.args.task.inst }) refl c.in_ok-differs.ensures.slots c.requires.before

pub returns-in_err-mark_live-clause-counted : goal.returns-in_err-mark_live-clause-counted
returns-in_err-mark_live-clause-counted g c =
    let d = c.in_ok-differs.ensures.derived in counted (shift c.args.base.now c.args.held.now (g.N.Next.next c.args.next.now)) (kept_of c.args.store.now) (g.R.Readers.readers c.args.readers.now) c.requires.can (staged_of c.args.store.now) c.args.task c.args.tasks.now c.requires.ranked c.requires.first c.requires.once c.requires.settling (g.D.Derive.stands_for c.args.code.now) c.requires.code d.0 d.1 (staged_of c.derive.new.self) d.2 c.args.steps.now c.derive.new.steps c.in_ok-differs.ensures.counted

pub returns-in_ok-mark_live-clause-settling : goal.returns-in_ok-mark_live-clause-settling
returns-in_ok-mark_live-clause-settling g c =
    let d = c.in_ok-differs.ensures.derived in after_changed (shift c.args.base.now c.args.held.now (g.N.Next.next c.args.next.now)) (kept_of c.args.store.now) (g.R.Readers.readers c.args.readers.now) c.requires.can (staged_of c.args.store.now) c.args.task c.args.tasks.now c.requires.ranked c.requires.first c.requires.once c.requires.settling (g.D.Derive.stands_for c.args.code.now) c.requires.code d.0 d.1 (staged_of c.derive.new.self) d.2 c.in_ok-differs.differs d.3 c.if-differs.true (slots_in (option_copied c.of_line-reading.result)) c.of_line-reading.ensures c.mark_live.new.tasks c.in_ok-mark_live.ensures

pub returns-in_ok-mark_live-clause-ranked : goal.returns-in_ok-mark_live-clause-ranked
returns-in_ok-mark_live-clause-ranked g c =
    c.in_ok-mark_live.ensures.ranked (ranked_rest (shift c.args.base.now c.args.held.now (g.N.Next.next c.args.next.now)) (kept_of c.args.store.now) (g.R.Readers.readers c.args.readers.now) c.requires.can (staged_of c.args.store.now) c.args.task c.args.tasks.now c.requires.ranked c.requires.first c.requires.once c.requires.settling)

pub returns-in_ok-mark_live-clause-before : goal.returns-in_ok-mark_live-clause-before
returns-in_ok-mark_live-clause-before g c =
    stand_changed (shift c.args.base.now c.args.held.now (g.N.Next.next c.args.next.now)) (kept_of c.args.store.now) (g.R.Readers.readers c.args.readers.now) c.requires.can (staged_of c.args.store.now) c.args.task c.args.tasks.now c.requires.ranked c.requires.first c.requires.once c.requires.settling c.args.store.now.slots c.derive.new.self.slots (record { attr = c.args.task.attr; inst = c.args.task.inst }) refl c.in_ok-differs.ensures.slots c.requires.before (slots_in (option_copied c.of_line-reading.result)) c.of_line-reading.ensures c.mark_live.new.tasks c.in_ok-mark_live.ensures

pub returns-in_ok-mark_live-clause-order : goal.returns-in_ok-mark_live-clause-order
returns-in_ok-mark_live-clause-order g c =
    in_order (shift c.args.base.now c.args.held.now (g.N.Next.next c.args.next.now)) (kept_of c.args.store.now) (g.R.Readers.readers c.args.readers.now) c.requires.can (staged_of c.args.store.now) c.args.task c.args.tasks.now c.requires.ranked c.requires.first c.requires.once c.requires.settling c.args.store.now.slots c.derive.new.self.slots (record { attr = c.args.task.attr; inst = c.args.task.inst }) refl c.in_ok-differs.ensures.slots c.requires.before

pub returns-in_ok-mark_live-clause-fewer : goal.returns-in_ok-mark_live-clause-fewer
returns-in_ok-mark_live-clause-fewer g c =
    let d = c.in_ok-differs.ensures.derived in fewer (shift c.args.base.now c.args.held.now (g.N.Next.next c.args.next.now)) (kept_of c.args.store.now) (g.R.Readers.readers c.args.readers.now) c.requires.can (staged_of c.args.store.now) c.args.task c.args.tasks.now c.requires.ranked c.requires.first c.requires.once c.requires.settling (g.D.Derive.stands_for c.args.code.now) c.requires.code d.0 d.1 (staged_of c.derive.new.self) d.2

pub returns-in_ok-mark_live-clause-counted : goal.returns-in_ok-mark_live-clause-counted
returns-in_ok-mark_live-clause-counted g c =
    let d = c.in_ok-differs.ensures.derived in counted (shift c.args.base.now c.args.held.now (g.N.Next.next c.args.next.now)) (kept_of c.args.store.now) (g.R.Readers.readers c.args.readers.now) c.requires.can (staged_of c.args.store.now) c.args.task c.args.tasks.now c.requires.ranked c.requires.first c.requires.once c.requires.settling (g.D.Derive.stands_for c.args.code.now) c.requires.code d.0 d.1 (staged_of c.derive.new.self) d.2 c.args.steps.now c.derive.new.steps c.in_ok-differs.ensures.counted

pub returns-else-differs-clause-settling : goal.returns-else-differs-clause-settling
returns-else-differs-clause-settling g c =
    let d = c.in_ok-differs.ensures.derived in after_same (shift c.args.base.now c.args.held.now (g.N.Next.next c.args.next.now)) (kept_of c.args.store.now) (g.R.Readers.readers c.args.readers.now) c.requires.can (staged_of c.args.store.now) c.args.task c.args.tasks.now c.requires.ranked c.requires.first c.requires.once c.requires.settling (g.D.Derive.stands_for c.args.code.now) c.requires.code d.0 d.1 (staged_of c.derive.new.self) d.2 c.in_ok-differs.differs d.3 c.if-differs.false

pub returns-else-differs-clause-ranked : goal.returns-else-differs-clause-ranked
returns-else-differs-clause-ranked g c =
    ranked_rest (shift c.args.base.now c.args.held.now (g.N.Next.next c.args.next.now)) (kept_of c.args.store.now) (g.R.Readers.readers c.args.readers.now) c.requires.can (staged_of c.args.store.now) c.args.task c.args.tasks.now c.requires.ranked c.requires.first c.requires.once c.requires.settling

pub returns-else-differs-clause-before : goal.returns-else-differs-clause-before
returns-else-differs-clause-before g c =
    stand_same (shift c.args.base.now c.args.held.now (g.N.Next.next c.args.next.now)) (kept_of c.args.store.now) (g.R.Readers.readers c.args.readers.now) c.requires.can (staged_of c.args.store.now) c.args.task c.args.tasks.now c.requires.ranked c.requires.first c.requires.once c.requires.settling c.args.store.now.slots c.derive.new.self.slots (record { attr = c.args.task.attr; inst = c.args.task.inst }) refl c.in_ok-differs.ensures.slots c.requires.before

pub returns-else-differs-clause-order : goal.returns-else-differs-clause-order
returns-else-differs-clause-order g c =
    in_order (shift c.args.base.now c.args.held.now (g.N.Next.next c.args.next.now)) (kept_of c.args.store.now) (g.R.Readers.readers c.args.readers.now) c.requires.can (staged_of c.args.store.now) c.args.task c.args.tasks.now c.requires.ranked c.requires.first c.requires.once c.requires.settling c.args.store.now.slots c.derive.new.self.slots (record { attr = c.args.task.attr; inst = c.args.task.inst }) refl c.in_ok-differs.ensures.slots c.requires.before

pub returns-else-differs-clause-fewer : goal.returns-else-differs-clause-fewer
returns-else-differs-clause-fewer g c =
    let d = c.in_ok-differs.ensures.derived in fewer (shift c.args.base.now c.args.held.now (g.N.Next.next c.args.next.now)) (kept_of c.args.store.now) (g.R.Readers.readers c.args.readers.now) c.requires.can (staged_of c.args.store.now) c.args.task c.args.tasks.now c.requires.ranked c.requires.first c.requires.once c.requires.settling (g.D.Derive.stands_for c.args.code.now) c.requires.code d.0 d.1 (staged_of c.derive.new.self) d.2

pub returns-else-differs-clause-counted : goal.returns-else-differs-clause-counted
returns-else-differs-clause-counted g c =
    let d = c.in_ok-differs.ensures.derived in counted (shift c.args.base.now c.args.held.now (g.N.Next.next c.args.next.now)) (kept_of c.args.store.now) (g.R.Readers.readers c.args.readers.now) c.requires.can (staged_of c.args.store.now) c.args.task c.args.tasks.now c.requires.ranked c.requires.first c.requires.once c.requires.settling (g.D.Derive.stands_for c.args.code.now) c.requires.code d.0 d.1 (staged_of c.derive.new.self) d.2 c.args.steps.now c.derive.new.steps c.in_ok-differs.ensures.counted

pub returns-in_err-mark_live-clause-listed : goal.returns-in_err-mark_live-clause-listed
returns-in_err-mark_live-clause-listed g c =
    let d = c.in_ok-differs.ensures.derived in listed_counted (shift c.args.base.now c.args.held.now (g.N.Next.next c.args.next.now)) (kept_of c.args.store.now) (g.R.Readers.readers c.args.readers.now) c.requires.can (staged_of c.args.store.now) c.args.task c.args.tasks.now c.requires.ranked c.requires.first c.requires.once c.requires.settling (g.D.Derive.stands_for c.args.code.now) c.requires.code d.0 d.1 (staged_of c.derive.new.self) d.2 c.args.store.now.slots c.derive.new.self.slots (record { attr = c.args.task.attr; inst = c.args.task.inst }) c.in_ok-differs.ensures.slots

pub returns-in_ok-mark_live-clause-listed : goal.returns-in_ok-mark_live-clause-listed
returns-in_ok-mark_live-clause-listed g c =
    let d = c.in_ok-differs.ensures.derived in listed_counted (shift c.args.base.now c.args.held.now (g.N.Next.next c.args.next.now)) (kept_of c.args.store.now) (g.R.Readers.readers c.args.readers.now) c.requires.can (staged_of c.args.store.now) c.args.task c.args.tasks.now c.requires.ranked c.requires.first c.requires.once c.requires.settling (g.D.Derive.stands_for c.args.code.now) c.requires.code d.0 d.1 (staged_of c.derive.new.self) d.2 c.args.store.now.slots c.derive.new.self.slots (record { attr = c.args.task.attr; inst = c.args.task.inst }) c.in_ok-differs.ensures.slots

pub returns-else-differs-clause-listed : goal.returns-else-differs-clause-listed
returns-else-differs-clause-listed g c =
    let d = c.in_ok-differs.ensures.derived in listed_counted (shift c.args.base.now c.args.held.now (g.N.Next.next c.args.next.now)) (kept_of c.args.store.now) (g.R.Readers.readers c.args.readers.now) c.requires.can (staged_of c.args.store.now) c.args.task c.args.tasks.now c.requires.ranked c.requires.first c.requires.once c.requires.settling (g.D.Derive.stands_for c.args.code.now) c.requires.code d.0 d.1 (staged_of c.derive.new.self) d.2 c.args.store.now.slots c.derive.new.self.slots (record { attr = c.args.task.attr; inst = c.args.task.inst }) c.in_ok-differs.ensures.slots
