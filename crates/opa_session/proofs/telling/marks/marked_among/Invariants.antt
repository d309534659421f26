use Rattle.std.proofs.Common.{◌≡◌, take}
use Rattle.opa_case.specs.Shapes.{shape_of}
use Rattle.opa_session.specs.Telling.Among.{marked_among}
use Rattle.opa_session.proofs.telling.marks.marked_among.Given as goal

abbrev pub invariant-loop-attr : goal.invariant-loop-attr
invariant-loop-attr l = l.all ≡ marked_among (shape_of l.model) l.live l.marks (take l.attr-index l.attrs)
