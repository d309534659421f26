use Rattle.std.proofs.Common.{ap}
use Rattle.opa_mean.specs.Reached.Settling.{shift}
use Rattle.opa_mean.specs.Reached.Slots.{pairs_of}
use Rattle.opa_session.specs.Store.Stores.{kept_of, staged_of}
use Rattle.opa_session.proofs.infer.Staged.{have_changes, moved}
use Rattle.opa_session.proofs.infer.ready.staged_changes.Goals as goal

pub new-new-requires-clause-current : goal.new-new-requires-clause-current
new-new-requires-clause-current g c =
    c.laid_are_current.ensures (shift c.args.base.now c.args.held.now (g.N.Next.next c.args.next.now)) (record { before = c.requires.before; after = c.requires.after }) (kept_of c.args.store.now) (staged_of c.args.store.now) c.requires.current c.requires.settled

pub changes_over-requires-clause-slots : goal.changes_over-requires-clause-slots
changes_over-requires-clause-slots g c =
    moved c.args.base.now c.new-new.result.base.now c.args.held.now c.new-old.result.case.now (g.N.Next.next c.args.next.now) (g.N.Next.next c.new-new.result.next.now) (pairs_of c.slots-slots.result.now)
    c.new-new.ensures.base c.new-old.ensures.case (ap (λ n. g.N.Next.next n) c.new-new.ensures.next)
    (have_changes c.dirty_have_changes.ensures c.args.base.now c.args.held.now (g.N.Next.next c.args.next.now) c.requires.before c.requires.after (staged_of c.args.store.now) c.requires.settled c.slots-slots.result.now c.slots-slots.ensures.listed)
