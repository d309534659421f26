-- What a list moves that is set or forgotten.
use Rattle.std.specs.Prelude.{◌≡◌, Bool, List, Option, None, Some, Result, unwrap_or}
use Rattle.opa_model.specs.declared.ids.RelId.{RelId}
use Rattle.opa_cells.specs.declared.instance.InstanceId.{InstanceId}
use Rattle.opa_case.specs.declared.change.Refusal.{Refusal}
use Rattle.opa_case.specs.declared.moves.Moves.{Moves}
use Rattle.opa_case.specs.Cases.{CaseView}
use Rattle.opa_case.specs.Homes.{AreCounts}
use Rattle.opa_case.specs.Live.{Names}
use Rattle.opa_case.specs.Relists.{relisted}
use Rattle.opa_case.specs.Shapes.{Shape}
use Rattle.opa_case.specs.Steps.{set_list, forget}
use Rattle.opa_case.specs.Turns.{Turns}

-- what a list makes of a case that is set, or forgotten where there are no names
abbrev pub relist : Shape → List Bool → CaseView → RelId → InstanceId → Option Names → Result CaseView Refusal
relist s ruled c r i None = forget s c r i
relist s ruled c r i (Some names) = set_list s ruled c r i names

-- By the list these go and these come, so many are live then, and the lists of `every` relations are these, or stay.
pub record AreMovesOf (s : Shape) (c : CaseView) (r : RelId) (i : InstanceId) (o : Option Names) (m : Moves) : Type 0 where
  pub turns : Turns c.live (relisted s c r i o).live m.went.items m.came.items i
  pub counts : AreCounts m.counts (relisted s c r i o).live
  pub every : unwrap_or m.every c.every ≡ (relisted s c r i o).every
