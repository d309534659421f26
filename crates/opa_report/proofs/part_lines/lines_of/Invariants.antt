use Rattle.std.proofs.Common.{◌≡◌, length, take}
use Rattle.std.specs.List.{AllByRecursion}
use Rattle.opa_report.specs.Keeping.{AreKept, StayKept}
use Rattle.opa_report.specs.Spreading.{AreLines}
use Rattle.opa_report.specs.declared.found.Found.{Found}
use Rattle.opa_report.proofs.part_lines.lines_of.Given as goal

abbrev pub invariant-loop-tree : goal.invariant-loop-tree
invariant-loop-tree g l =
    (length l.lines ≡ l.tree-index)
    × (AllByRecursion (g.S.Sight.live l.sight) l.enclosing → (found : Found) → AreKept (g.S.Sight.shape l.sight) (g.S.Sight.look l.sight) found l.initial.kept → AreLines (g.S.Sight.shape l.sight) (g.S.Sight.look l.sight) l.enclosing (take l.tree-index l.trees) l.lines)
    × (AllByRecursion (g.S.Sight.live l.sight) l.enclosing → StayKept (g.S.Sight.shape l.sight) (g.S.Sight.look l.sight) l.initial.kept l.kept)
