use Rattle.std.proofs.Common.{map, sym, ap, subst}
use Rattle.opa_cells.specs.Rows.{seen}
use Rattle.opa_cells.specs.Unordered.{HasCells}
use Rattle.opa_session.proofs.readers.Renewed.{are_answers_told}
use Rattle.opa_session.proofs.readers.given.answers_told.Goals as goal

pub returns : goal.returns
returns c =
    are_answers_told c.args.base.now c.args.old.now c.args.new.now c.answers_differ.ensures c.requires.before c.requires.after c.as_slice.result.now c.as_slice-2.result.now c.new-told.result c.add_answers.new.told c.add_newly.new.told
    (subst (HasCells c.args.old.now.answers) (sym (ap (map seen) c.as_slice.ensures.value)) c.in_ok-before.ensures.all) (subst (HasCells c.args.new.now.answers) (sym (ap (map seen) c.as_slice-2.ensures.value)) c.in_ok-after.ensures.all) c.new-told.ensures c.in_ok-add_answers.ensures c.in_ok-add_newly.ensures
