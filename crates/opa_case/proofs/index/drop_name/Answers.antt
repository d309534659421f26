use Rattle.std.proofs.Common.{sym, ap, ◌∙◌, false}
use Rattle.std.specs.Option.{option_copied_mut}
use Rattle.opa_case.proofs.Indexed.{index_back}
use Rattle.opa_case.proofs.index.drop_name.Goals as goal

pub returns-in-Some : goal.returns-in-Some
returns-in-Some c =
    let at = sym c.get_mut.ensures.value ∙ ap option_copied_mut c.in-Some.is in
    index_back c.args.index.now.entries (c.get_mut.follows.lender c.drop_in_row.new.row).entries c.args.number c.args.name.now c.args.inst.now false c.in-Some.row.now c.drop_in_row.new.row at (λ some. ((c.get_mut.follows.holds c.drop_in_row.new.row).3 some).0) c.drop_in_row.ensures
