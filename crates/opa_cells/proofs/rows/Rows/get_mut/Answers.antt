use Rattle.std.specs.Prelude.{IsSome}
use Rattle.std.specs.Option.{option_copied_mut}
use Rattle.std.specs.FinMap as map
use Rattle.std.proofs.Common.{sym, ap, subst, ◌∙◌, Some, refl, inr}
use Rattle.opa_cells.specs.Rows.{with_rows}
use Rattle.opa_cells.proofs.Rowed.{at_row, row_set, row_kept, inserted, set_inserted}
use Rattle.opa_cells.proofs.Lends.{lent}
use Rattle.opa_cells.proofs.Numbered.{row_found, rows_set}
use Rattle.opa_cells.proofs.rows.Rows.get_mut.Goals as goal

pub returns-in-Some : goal.returns-in-Some
returns-in-Some g c =
    let rs = c.self.inside.rows.entries in
    let row = c.in-Some.row.now in
    let inner = c.get_mut-in-Some in
    let at = sym (c.get_mut.ensures.value ∙ row_found c.self.inside.rows.entries c.args.number) ∙ ap option_copied_mut c.in-Some.is in (
      lent inner.result _ (λ w. map.insert c.args.self.now (c.args.number, c.args.inst.now) w) _ _
          (λ some w. inserted rs (c.get_mut.follows.lender (map.insert row c.args.inst.now w)).entries c.args.number c.args.inst.now w
          (row_set rs (c.get_mut.follows.lender (map.insert row c.args.inst.now w)).entries c.args.number c.args.inst.now row (map.insert row c.args.inst.now w) (Some w) at
          (λ known. rows_set rs (c.get_mut.follows.lender (map.insert row c.args.inst.now w)).entries c.args.number (Some (map.insert row c.args.inst.now w)) (((c.get_mut.follows.holds (map.insert row c.args.inst.now w)).3 (subst (λ o. IsSome o) (sym (row_found rs c.args.number)) known)).0))
          (set_inserted row (map.insert row c.args.inst.now w) c.args.inst.now w refl))
          ∙ ap (λ m. map.insert m (c.args.number, c.args.inst.now) w) c.self.view_is)
          (λ none. row_kept rs (c.get_mut.follows.lender row).entries c.args.number row row at
          (λ known. rows_set rs (c.get_mut.follows.lender row).entries c.args.number (Some row) (((c.get_mut.follows.holds row).3 (subst (λ o. IsSome o) (sym (row_found rs c.args.number)) known)).0)) refl ∙ c.self.view_is),
      record { writes_back = tt; value = inner.ensures.value ∙ at_row rs c.args.number c.args.inst.now _ (sym at) ∙ ap (λ m. map.get m (c.args.number, c.args.inst.now)) c.self.view_is },
    )

pub returns-in-None : goal.returns-in-None
returns-in-None g c =
    let rs = c.self.inside.rows.entries in
    let at = sym (c.get_mut.ensures.value ∙ row_found c.self.inside.rows.entries c.args.number) ∙ ap option_copied_mut c.in-None.is in
    (ap inr (ap (λ m. with_rows m.entries) c.get_mut.follows.holds-at-none ∙ c.self.view_is), record { writes_back = tt; value = at_row rs c.args.number c.args.inst.now _ (sym at) ∙ ap (λ m. map.get m (c.args.number, c.args.inst.now)) c.self.view_is })
