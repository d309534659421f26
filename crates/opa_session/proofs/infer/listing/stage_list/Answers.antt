use Rattle.std.proofs.Common.{sym, subst}
use Rattle.opa_case.specs.Cases.{CaseView}
use Rattle.opa_case.specs.Overlays.{relisted_case}
use Rattle.opa_mean.specs.Reached.Settling.{AreSettled, CanSettle, shift}
use Rattle.opa_session.specs.Readers.Indexes.{readers_in}
use Rattle.opa_session.specs.Store.Stores.{StoreView, kept_of, staged_of}
use Rattle.opa_session.proofs.infer.listing.stage_list.Goals as goal

pub settle-requires-clause-can : goal.settle-requires-clause-can
settle-requires-clause-can g c =
    let next = c.args.next.now in
    let s = shift c.args.base.now next.case.now (relisted_case next) in
    subst (λ (v : CaseView). CanSettle (shift c.args.base.now v (relisted_case next)) (kept_of c.args.store.now) (readers_in c.args.readers.now)) (sym c.requires.case)
    (record { is = c.requires.lists.is; kinds = c.values_have_kinds.ensures c.args.base.now; current = c.requires.current; tell = c.held_can_tell.ensures s c.requires.lists.is c.requires.lists.stay (readers_in c.args.readers.now) c.requires.exact })

pub returns-clause-settled : goal.returns-clause-settled
returns-clause-settled g c =
    let next = c.args.next.now in
    let r = c.args.base.now in
    let settled : AreSettled (shift r next.case.now (relisted_case next)) (staged_of c.settle.new.store) = subst (λ (v : CaseView). AreSettled (shift r v (relisted_case next)) (staged_of c.settle.new.store)) c.requires.case c.in_ok-settle.ensures.settled in
    subst (λ (s : StoreView). AreSettled (shift r next.case.now (relisted_case next)) (staged_of s)) (sym c.note_places.ensures) settled
