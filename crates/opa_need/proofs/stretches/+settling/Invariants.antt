use Rattle.std.proofs.Common.{take, ◌∷◌, ◌+◌, ◌-◌, ◌≤◌}
use Rattle.std.specs.Prelude.{flat_map}
use Rattle.opa_cells.specs.Instances.{named}
use Rattle.opa_need.specs.Finding.{AreFound}
use Rattle.opa_need.specs.Lasting.{AreLasting}
use Rattle.opa_need.specs.Steps.{AreRuns, IsSettled, parts_needs, part_needs, last_needs, member_needs}
use Rattle.opa_need.proofs.SettledParts.{AreLeft}
use Rattle.opa_need.proofs.stretches.+settling.Given as goal

abbrev pub invariant-settled_parts-loop-part : goal.invariant-settled_parts-loop-part
invariant-settled_parts-loop-part g l =
    (AreRuns (g.H.Held.rules l.held) (g.H.Held.held l.held) l.found l.runs → AreFound l.found (parts_needs (g.H.Held.rules l.held) (g.H.Held.held l.held) l.parts l.enclosing l.day)
    → IsSettled (parts_needs (g.H.Held.rules l.held) (g.H.Held.held l.held) (take l.part-index l.parts) l.enclosing) l.found l.day l.least) × AreLasting (g.H.Held.rules l.held) (g.H.Held.held l.held) l.found l.runs l.noted.items

abbrev pub invariant-settled_days-loop-at : goal.invariant-settled_days-loop-at
invariant-settled_days-loop-at g l =
    (l.first ≤ l.at) × (AreRuns (g.H.Held.rules l.held) (g.H.Held.held l.held) l.found l.runs → AreFound l.found (last_needs (g.H.Held.rules l.held) (g.H.Held.held l.held) l.count l.part l.enclosing l.day)
    → IsSettled (part_needs (g.H.Held.rules l.held) (g.H.Held.held l.held) l.part l.enclosing) l.found l.first l.at) × AreLasting (g.H.Held.rules l.held) (g.H.Held.held l.held) l.found l.runs l.noted.items

abbrev pub decreases-settled_days-loop-at : goal.decreases-settled_days-loop-at
decreases-settled_days-loop-at g l = (l.day + 1) - l.at

abbrev pub invariant-settled_members-loop-name : goal.invariant-settled_members-loop-name
invariant-settled_members-loop-name g l =
    (AreRuns (g.H.Held.rules l.held) (g.H.Held.held l.held) l.found l.runs → AreFound l.found (flat_map (λ n. member_needs (g.H.Held.rules l.held) (g.H.Held.held l.held) l.quant l.parts (named l.target n ∷ l.enclosing) l.day) l.names)
    → IsSettled (λ d. flat_map (λ n. member_needs (g.H.Held.rules l.held) (g.H.Held.held l.held) l.quant l.parts (named l.target n ∷ l.enclosing) d) (take l.name-index l.names)) l.found l.day l.least) × AreLasting (g.H.Held.rules l.held) (g.H.Held.held l.held) l.found l.runs l.noted.items

abbrev pub invariant-settled_rows-loop-row : goal.invariant-settled_rows-loop-row
invariant-settled_rows-loop-row g l = AreLeft (g.H.Held.rules l.held) (g.H.Held.held l.held) l.rows l._last l.enclosing l.row-index l.day l.least × AreLasting (g.H.Held.rules l.held) (g.H.Held.held l.held) l.found l.runs l.noted.items
