use Rattle.std.proofs.Common.{◌≡◌, ◌++◌, take}
use Rattle.std.specs.Prelude.{flat_map}
use Rattle.opa_tree.specs.Mentions.{mentioned, row_mentioned}
use Rattle.opa_tree.proofs.mention.+walk.Given as goal

abbrev pub invariant-gather_all-loop-part : goal.invariant-gather_all-loop-part
invariant-gather_all-loop-part l = l.attrs ≡ l.initial.attrs ++ flat_map mentioned (take l.part-index l.parts)

abbrev pub invariant-gather_rows-loop-row : goal.invariant-gather_rows-loop-row
invariant-gather_rows-loop-row l = l.attrs ≡ l.initial.attrs ++ flat_map row_mentioned (take l.row-index l.rows)
