use Rattle.std.specs.Prelude.{map as items}
use Rattle.std.proofs.Common.{ap, sym, ◌∙◌}
use Rattle.std.specs.FinMap.{same_entries_map}
use Rattle.opa_cells.specs.Rows.{seen}
use Rattle.opa_case.proofs.comparing.are_same.Goals as goal

pub returns : goal.returns
returns c = λ t.
    same_entries_map c.args.one.now c.args.other.now
    (sym (ap (items seen) c.as_slice.ensures.value ∙ c.in_ok-cells.ensures) ∙ c.are_cells-same.ensures t ∙ ap (items seen) c.as_slice-2.ensures.value ∙ c.in_ok-others.ensures)
