use Rattle.std.proofs.Common.{subst}
use Rattle.opa_case.specs.Cases.{CaseView}
use Rattle.opa_case.specs.Overlays.{relisted_case}
use Rattle.opa_mean.specs.Reached.Settling.{shift}
use Rattle.opa_session.specs.Readers.Indexes.{readers_in}
use Rattle.opa_session.specs.Readers.Touches.{AreRenewed}
use Rattle.opa_session.specs.Settlement.Tasks.{slots_of}
use Rattle.opa_session.proofs.readers.AllRenewed.{renewal_is}
use Rattle.opa_session.proofs.readers.index.Index.renewal.Goals as goal

pub returns : goal.returns
returns c =
    renewal_is (shift c.args.base.now c.args.next.now.case.now (relisted_case c.args.next.now)) c.requires.lists (readers_in c.args.self.now) c.requires.exact c.args.told.now c.requires.told (slots_of c.in_ok-tasks.tasks) c.in_ok-tasks.ensures (record { slots = c.in_ok-slots.slots })
    (subst (λ (held : CaseView). AreRenewed (shift c.args.base.now held (relisted_case c.args.next.now)) (slots_of c.in_ok-tasks.tasks) _ c.in_ok-slots.slots) c.requires.held c.in_ok-slots.ensures)
