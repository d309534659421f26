use Rattle.std.proofs.Common.{map, sym, ap, subst}
use Rattle.opa_cells.specs.Rows.{seen}
use Rattle.opa_cells.specs.Unordered.{HasCells}
use Rattle.opa_session.proofs.readers.Renewed.{are_given}
use Rattle.opa_session.proofs.readers.given.given_changes.Goals as goal

pub returns : goal.returns
returns c =
    are_given c.args.base.now c.args.old.now c.args.new.now c.args.index.now c.in_ok-told.told c.in_ok-told.ensures c.as_slice.result.now c.add_lists.new.told
    (subst (HasCells c.args.index.now.lists) (sym (ap (map seen) c.as_slice.ensures.value)) c.in_ok-lists.ensures.all) c.in_ok-add_lists.ensures
