use Rattle.std.proofs.Common.{sym, ap, ◌∙◌, false}
use Rattle.std.specs.Option.{option_copied_mut}
use Rattle.opa_case.specs.Listed.{is_in_row}
use Rattle.opa_case.proofs.Indexed.{row_back, row_none, Row, source_left}
use Rattle.opa_case.proofs.index.drop_source.Goals as goal

pub returns-in-Some : goal.returns-in-Some
returns-in-Some c =
    let at = sym c.get_mut.ensures.value ∙ ap option_copied_mut c.in-Some.is in
    row_back c.args.row.now.entries (c.get_mut.follows.lender c.remove.new.self).entries c.args.name.now c.args.inst.now false c.in-Some.sources.now c.remove.new.self at (λ some. ((c.get_mut.follows.holds c.remove.new.self).3 some).0) (source_left c.in-Some.sources.now.entries c.remove.new.self.entries c.args.inst.now c.remove.ensures.updates.0)

pub returns-in_default : goal.returns-in_default
returns-in_default c n j =
    let none = sym c.get_mut.ensures.value ∙ ap option_copied_mut c.in_default.is in
    ap (λ (m : Row). is_in_row m.entries n j) c.get_mut.follows.holds-at-none ∙ row_none c.args.row.now.entries c.args.name.now c.args.inst.now none n j
