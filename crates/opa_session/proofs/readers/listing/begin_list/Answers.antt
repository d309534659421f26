use Rattle.opa_case.specs.Overlays.{relisted_case}
use Rattle.opa_mean.specs.Reached.Settling.{shift}
use Rattle.opa_session.specs.Readers.Indexes.{readers_in}
use Rattle.opa_session.proofs.readers.Coming.{list_begun, list_ranked}
use Rattle.opa_session.proofs.readers.listing.begin_list.Goals as goal

pub returns-clause-begun : goal.returns-clause-begun
returns-clause-begun c =
    let next = c.args.next.now in
    list_begun (shift c.args.base.now next.case.now (relisted_case next)) c.requires.lists (readers_in c.args.index.now) c.requires.readers c.args.told.now c.requires.told next.went.items c.came-came.result.now next.inst.now c.came-came.ensures.turns
    c.new-tasks.result c.mark_came.new.tasks c.mark_told.new.tasks c.new-tasks.ensures c.in_ok-mark_came.ensures c.in_ok-mark_told.ensures

pub returns-clause-ranked : goal.returns-clause-ranked
returns-clause-ranked c =
    let next = c.args.next.now in
    list_ranked (shift c.args.base.now next.case.now (relisted_case next)) c.requires.lists (readers_in c.args.index.now) c.requires.readers c.args.told.now c.requires.told next.went.items c.came-came.result.now next.inst.now c.came-came.ensures.turns
    c.new-tasks.result c.mark_came.new.tasks c.mark_told.new.tasks c.new-tasks.ensures c.in_ok-mark_came.ensures c.in_ok-mark_told.ensures
