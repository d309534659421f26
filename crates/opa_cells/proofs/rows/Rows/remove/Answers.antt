use Rattle.std.specs.Prelude.{is_some, IsSome}
use Rattle.std.proofs.Common.{sym, ap, subst, ◌∙◌, Some, None}
use Rattle.std.specs.Option.{option_copied_mut}
use Rattle.std.specs.FinMap as map
use Rattle.opa_cells.specs.Rows.{with_rows}
use Rattle.opa_cells.proofs.Rowed.{at_row, row_set, set_removed, no_row, removed}
use Rattle.opa_cells.proofs.Numbered.{row_found, rows_set}
use Rattle.opa_cells.proofs.rows.Rows.remove.Goals as goal
use Rattle.opa_cells.proofs.rows.Rows.remove.Goals.{in-Some, in-None}

pub returns-clause-was : goal.returns-clause-was
returns-clause-was g c =
    let rs = c.self.inside.rows.entries in
    let before = ap (λ m. map.get m (c.args.number, c.args.inst.now)) c.self.view_is in
    elim c.match-get_mut.branch [
      | in-Some w ↦
          let at = sym (c.get_mut.ensures.value ∙ row_found rs c.args.number) ∙ ap option_copied_mut w.in-Some.is in
          w.result-is ∙ w.remove.ensures.was ∙ ap is_some (at_row rs c.args.number c.args.inst.now _ (sym at) ∙ before)
      | in-None w ↦
          let none = sym (c.get_mut.ensures.value ∙ row_found rs c.args.number) ∙ ap option_copied_mut w.in-None.is in
          w.result-is ∙ ap is_some (at_row rs c.args.number c.args.inst.now _ (sym none) ∙ before)
    ]

pub returns-clause-removed : goal.returns-clause-removed
returns-clause-removed g c =
    let rs = c.self.inside.rows.entries in
    let before = ap (λ m. map.remove m (c.args.number, c.args.inst.now)) c.self.view_is in
    elim c.match-get_mut.branch [
      | in-Some w ↦
          let rs' = (c.get_mut.follows.lender w.remove.new.self).entries in
          let at = sym (c.get_mut.ensures.value ∙ row_found rs c.args.number) ∙ ap option_copied_mut w.in-Some.is in
          ap (λ t. with_rows t.rows.entries) w.self-inside-is
          ∙ removed rs rs' c.args.number c.args.inst.now (row_set rs rs' c.args.number c.args.inst.now w.in-Some.row.now w.remove.new.self None at (λ some. rows_set rs rs' c.args.number (Some w.remove.new.self) (((c.get_mut.follows.holds w.remove.new.self).3 (subst (λ o. IsSome o) (sym (row_found rs c.args.number)) some)).0)) (set_removed w.in-Some.row.now w.remove.new.self c.args.inst.now w.remove.ensures.removed)) ∙ before
      | in-None w ↦
          let none = sym (c.get_mut.ensures.value ∙ row_found rs c.args.number) ∙ ap option_copied_mut w.in-None.is in
          ap (λ t. with_rows t.rows.entries) w.self-inside-is ∙ ap (λ m. with_rows m.entries) c.get_mut.follows.holds-at-none
          ∙ removed rs rs c.args.number c.args.inst.now (no_row rs c.args.number c.args.inst.now none) ∙ before
    ]
