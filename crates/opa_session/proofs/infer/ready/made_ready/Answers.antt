use Rattle.opa_session.proofs.infer.Heard.{same_heard}
use Rattle.opa_session.proofs.infer.ready.made_ready.Goals as goal

pub returns-in_err-lists-clause-quiet : goal.returns-in_err-lists-clause-quiet
returns-in_err-lists-clause-quiet g c = same_heard _ _ _ c.readied.ensures.room

pub returns-clause-quiet : goal.returns-clause-quiet
returns-clause-quiet g c = same_heard _ _ _ c.readied.ensures.room

pub returns-clause-ready : goal.returns-clause-ready
returns-clause-ready g c = record {
  told = c.in_ok-changes.changes.items;
  changes = c.in_ok-changes.ensures;
  room = c.readied.ensures.room;
  can = c.in_ok-lists.ensures.can;
  watched = rw c.as_slice-2.ensures.value at c.in_ok-lists.ensures.lists;
  count_is = rw c.as_slice.ensures.value at c.in_ok-count.ensures;
}
