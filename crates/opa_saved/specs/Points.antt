-- Sets of points.
use Rattle.std.specs.Prelude.{Bool, is_some}
use Rattle.std.specs.BTreeMap.{BTreeMap}
use Rattle.std.specs.BTreeMap as tree
use Rattle.opa_saved.specs.declared.entries.Point.{Point}
use Rattle.opa_saved.specs.Forms.{point_cmp}

abbrev pub has_point : BTreeMap Point (Unit {0}) → Point → Bool
has_point points p = is_some (tree.get point_cmp points p)
