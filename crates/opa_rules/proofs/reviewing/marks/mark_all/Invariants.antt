use Rattle.std.proofs.Common.{take}
use Rattle.opa_rules.specs.Reviewing.Marks.{AddsMarks}
use Rattle.opa_rules.proofs.reviewing.marks.mark_all.Given as goal

abbrev pub invariant-loop-attr : goal.invariant-loop-attr
invariant-loop-attr l = AddsMarks l.initial.marks.items (take l.attr-index l.attrs) l.marks.items
