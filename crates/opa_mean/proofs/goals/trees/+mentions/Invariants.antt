use Rattle.std.proofs.Common.{◌≡◌, drop}
use Rattle.std.specs.Prelude.{flat_map}
use Rattle.std.specs.List.{list_all}
use Rattle.opa_tree.specs.Mentions.{mentioned, row_mentioned}
use Rattle.opa_mean.specs.Goals.Tables.{told_free}
use Rattle.opa_mean.proofs.goals.trees.+mentions.Given as goal

abbrev pub invariant-all_mention_free-loop-part : goal.invariant-all_mention_free-loop-part
invariant-all_mention_free-loop-part l = list_all (told_free l.free) (flat_map mentioned l.parts) ≡ list_all (told_free l.free) (flat_map mentioned (drop l.part-index l.parts))

abbrev pub invariant-rows_mention_free-loop-row : goal.invariant-rows_mention_free-loop-row
invariant-rows_mention_free-loop-row l = list_all (told_free l.free) (flat_map row_mentioned l.rows) ≡ list_all (told_free l.free) (flat_map row_mentioned (drop l.row-index l.rows))
