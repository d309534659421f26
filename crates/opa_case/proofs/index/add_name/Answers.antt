use Rattle.std.proofs.Common.{sym, ap, ◌∙◌, true}
use Rattle.std.specs.Option.{option_copied_mut}
use Rattle.opa_cells.proofs.Rowed.{on_ok, on_err}
use Rattle.opa_case.proofs.Indexed.{index_back, index_same}
use Rattle.opa_case.proofs.index.add_name.Goals as goal

pub returns-in-Some-clause-ok : goal.returns-in-Some-clause-ok
returns-in-Some-clause-ok c =
    let at = sym c.get_mut.ensures.value ∙ ap option_copied_mut c.in-Some.is in
    on_ok c.add_in_row.result (index_back c.args.index.now.entries (c.get_mut.follows.lender c.add_in_row.new.row).entries c.args.number c.args.name.now c.args.inst.now true c.in-Some.row.now c.add_in_row.new.row at (λ some. ((c.get_mut.follows.holds c.add_in_row.new.row).3 some).0)) c.add_in_row.ensures.ok

pub returns-in-Some-clause-err : goal.returns-in-Some-clause-err
returns-in-Some-clause-err c =
    let at = sym c.get_mut.ensures.value ∙ ap option_copied_mut c.in-Some.is in
    on_err c.add_in_row.result (index_same c.args.index.now.entries (c.get_mut.follows.lender c.add_in_row.new.row).entries c.args.number c.in-Some.row.now c.add_in_row.new.row at (λ some. ((c.get_mut.follows.holds c.add_in_row.new.row).3 some).0)) c.add_in_row.ensures.err
