use Rattle.std.specs.Prelude.{◌≡◌, ◌≤◌, true, length, drop, map}
use Rattle.std.specs.List.{list_any}
use Rattle.opa_saved.specs.declared.entries.Point.{Point}
use Rattle.opa_saved.specs.Forms.{is_point, differ}
use Rattle.opa_saved.specs.Points.{has_point}
use Rattle.opa_saved.proofs.points.are_apart.Given as goal

abbrev pub invariant-loop-at : goal.invariant-loop-at
invariant-loop-at g l = record {
  later : (q : Point) → has_point l.later q ≡ list_any (is_point q) (map g.E.AtPoint.point (drop l.at l.entries));
  apart : differ (map g.E.AtPoint.point (drop l.at l.entries)) ≡ true;
  within : l.at ≤ length l.entries;
}

abbrev pub decreases-loop-at : goal.decreases-loop-at
decreases-loop-at g l = l.at
