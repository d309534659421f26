use Rattle.std.proofs.Common.{◌∷◌}
use Rattle.std.specs.List.{AllByRecursion}
use Rattle.opa_cells.specs.Instances.{named}
use Rattle.opa_mean.specs.Meaning.{value}
use Rattle.opa_mean.specs.Uses.{uses}
use Rattle.opa_report.specs.Spreading.{is_truth}
use Rattle.opa_report.proofs.Going.{AreLeft}
use Rattle.opa_report.proofs.spread.undecided_member_days.Given as goal

abbrev pub invariant-loop-name : goal.invariant-loop-name
invariant-loop-name g l =
    (AllByRecursion (λ n. g.S.Sight.live l.sight (named l.target n)) l.names → AllByRecursion (g.S.Sight.live l.sight) l.enclosing
    → AreLeft (λ d n. is_truth l.truth (value (g.S.Sight.shape l.sight) (g.S.Sight.look l.sight) l.tree (named l.target n ∷ l.enclosing) d)) (λ d n. uses (g.S.Sight.shape l.sight) (g.S.Sight.look l.sight) l.tree (named l.target n ∷ l.enclosing) d) l.names l.days l.name-index l.undecided)
    × g.S.Sight.are_lines l.sight l.tree l.lines
