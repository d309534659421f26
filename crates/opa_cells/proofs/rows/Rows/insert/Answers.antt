use Rattle.std.proofs.Common.{sym, ap, subst, ◌∙◌, Some, not, is_some}
use Rattle.std.specs.Prelude.{IsSome}
use Rattle.std.specs.Option.{option_copied_mut}
use Rattle.std.specs.FinMap as map
use Rattle.opa_cells.proofs.Rowed.{at_row, row_set, set_inserted, row_kept, inserted, if_ok, on_ok, on_err}
use Rattle.opa_cells.proofs.Numbered.{row_found, rows_set}
use Rattle.opa_cells.proofs.rows.Rows.insert.Goals as goal

pub returns-in-Some-clause-ok : goal.returns-in-Some-clause-ok
returns-in-Some-clause-ok g c =
    let rs = c.self.inside.rows.entries in
    let rs' = (c.get_mut.follows.lender c.insert.new.self).entries in
    let at = sym (c.get_mut.ensures.value ∙ row_found c.self.inside.rows.entries c.args.number) ∙ ap option_copied_mut c.in-Some.is in
    on_ok c.insert.result (λ is.
    inserted rs rs' c.args.number c.args.inst c.args.value (row_set rs rs' c.args.number c.args.inst c.in-Some.row.now c.insert.new.self (Some c.args.value) at (λ some. rows_set rs rs' c.args.number (Some c.insert.new.self) (((c.get_mut.follows.holds c.insert.new.self).3 (subst (λ o. IsSome o) (sym (row_found rs c.args.number)) some)).0)) (set_inserted c.in-Some.row.now c.insert.new.self c.args.inst c.args.value is))
    ∙ ap (λ m. map.insert m (c.args.number, c.args.inst) c.args.value) c.self.view_is) c.insert.ensures.ok

pub returns-in-Some-clause-err : goal.returns-in-Some-clause-err
returns-in-Some-clause-err g c =
    let rs = c.self.inside.rows.entries in
    let rs' = (c.get_mut.follows.lender c.insert.new.self).entries in
    let at = sym (c.get_mut.ensures.value ∙ row_found c.self.inside.rows.entries c.args.number) ∙ ap option_copied_mut c.in-Some.is in
    on_err c.insert.result (λ same.
    row_kept rs rs' c.args.number c.in-Some.row.now c.insert.new.self at (λ some. rows_set rs rs' c.args.number (Some c.insert.new.self) (((c.get_mut.follows.holds c.insert.new.self).3 (subst (λ o. IsSome o) (sym (row_found rs c.args.number)) some)).0)) same ∙ c.self.view_is) c.insert.ensures.err

pub returns-in-Some-clause-new : goal.returns-in-Some-clause-new
returns-in-Some-clause-new g c =
    let rs = c.self.inside.rows.entries in
    let at = sym (c.get_mut.ensures.value ∙ row_found c.self.inside.rows.entries c.args.number) ∙ ap option_copied_mut c.in-Some.is in
    if_ok c.insert.result (λ new told. told ∙ ap (λ o. not (is_some o)) (at_row rs c.args.number c.args.inst _ (sym at) ∙ ap (λ m. map.get m (c.args.number, c.args.inst)) c.self.view_is)) c.insert.ensures.new

pub returns-in-None-clause-new : goal.returns-in-None-clause-new
returns-in-None-clause-new g c =
    let rs = c.self.inside.rows.entries in
    let none = sym (c.get_mut.ensures.value ∙ row_found c.self.inside.rows.entries c.args.number) ∙ ap option_copied_mut c.in-None.is in
    if_ok c.put_row.result (λ new told. told ∙ ap (λ o. not (is_some o)) (at_row rs c.args.number c.args.inst _ (sym none) ∙ ap (λ m. map.get m (c.args.number, c.args.inst)) c.self.view_is)) c.put_row.ensures.new
