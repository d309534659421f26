use Rattle.std.proofs.Common.{◌≡◌, take}
use Rattle.opa_tree.proofs.copies.+copy.Given as goal

abbrev pub invariant-copies_of-loop-part : goal.invariant-copies_of-loop-part
invariant-copies_of-loop-part l = l.copies ≡ take l.part-index l.parts

abbrev pub invariant-copies_of_rows-loop-row : goal.invariant-copies_of_rows-loop-row
invariant-copies_of_rows-loop-row l = l.copies ≡ take l.row-index l.rows
