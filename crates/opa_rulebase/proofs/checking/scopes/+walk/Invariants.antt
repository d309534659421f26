use Rattle.std.proofs.Common.{◌≡◌, take}
use Rattle.std.specs.List.{list_all}
use Rattle.opa_tree.specs.Scopes.{is_reached}
use Rattle.opa_rulebase.specs.Checking.RowScopes.{row_reached}
use Rattle.opa_rulebase.proofs.checking.scopes.+walk.Given as goal

abbrev pub invariant-all_reached-loop-part : goal.invariant-all_reached-loop-part
invariant-all_reached-loop-part l = l.all ≡ list_all (λ e. is_reached l.model e l.enclosing) (take l.part-index l.parts)

abbrev pub invariant-rows_reached-loop-row : goal.invariant-rows_reached-loop-row
invariant-rows_reached-loop-row l = l.all ≡ list_all (λ row. row_reached l.model l.enclosing row) (take l.row-index l.rows)
