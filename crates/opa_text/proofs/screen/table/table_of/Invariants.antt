use Rattle.std.proofs.Common.{◌≤◌, length}
use Rattle.opa_text.proofs.screen.TableLaws.{HasFrom}
use Rattle.opa_text.proofs.screen.table.table_of.Given as goal

-- the screens from this place on are in the table
abbrev pub invariant-loop-left : goal.invariant-loop-left
invariant-loop-left l = HasFrom l.model.screens l.left l.table × (l.left ≤ length l.model.screens)

abbrev pub decreases-loop-left : goal.decreases-loop-left
decreases-loop-left l = l.left
