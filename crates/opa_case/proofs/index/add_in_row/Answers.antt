use Rattle.std.proofs.Common.{sym, ap, ◌∙◌, true}
use Rattle.std.specs.Option.{option_copied_mut}
use Rattle.opa_cells.proofs.Rowed.{on_ok, on_err}
use Rattle.opa_case.proofs.Indexed.{row_back, row_same}
use Rattle.opa_case.proofs.index.add_in_row.Goals as goal

pub returns-in-Some-clause-ok : goal.returns-in-Some-clause-ok
returns-in-Some-clause-ok c =
    let at = sym c.get_mut.ensures.value ∙ ap option_copied_mut c.in-Some.is in
    on_ok c.add_source.result (row_back c.args.row.now.entries (c.get_mut.follows.lender c.add_source.new.sources).entries c.args.name.now c.args.inst.now true c.in-Some.sources.now c.add_source.new.sources at (λ some. ((c.get_mut.follows.holds c.add_source.new.sources).3 some).0)) c.add_source.ensures.ok

pub returns-in-Some-clause-err : goal.returns-in-Some-clause-err
returns-in-Some-clause-err c =
    let at = sym c.get_mut.ensures.value ∙ ap option_copied_mut c.in-Some.is in
    on_err c.add_source.result (row_same c.args.row.now.entries (c.get_mut.follows.lender c.add_source.new.sources).entries c.args.name.now c.in-Some.sources.now c.add_source.new.sources at (λ some. ((c.get_mut.follows.holds c.add_source.new.sources).3 some).0)) c.add_source.ensures.err
