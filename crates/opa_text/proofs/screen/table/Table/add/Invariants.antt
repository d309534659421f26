use Rattle.std.proofs.Common.{length}
use Rattle.opa_text.proofs.screen.TableLaws.{AddsOn}
use Rattle.opa_text.proofs.screen.table.Table.add.Given as goal

abbrev pub invariant-loop-item : goal.invariant-loop-item
invariant-loop-item l = AddsOn l.fn.items l.rest l.number l.initial.self l.self

abbrev pub decreases-loop-item : goal.decreases-loop-item
decreases-loop-item l = length l.rest
