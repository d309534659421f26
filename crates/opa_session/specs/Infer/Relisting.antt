-- A list that is set, or forgotten, and what is ready before it is written.
use Rattle.std.specs.Prelude.{◌≡◌, Option, Result, Ok}
use Rattle.opa_model.specs.declared.ids.RelId.{RelId}
use Rattle.opa_cells.specs.declared.instance.InstanceId.{InstanceId}
use Rattle.opa_case.specs.Cases.{CaseView}
use Rattle.opa_case.specs.Live.{Names}
use Rattle.opa_case.specs.Moves.{relist, AreMovesOf}
use Rattle.opa_case.specs.Relists.{relisted}
use Rattle.opa_case.specs.Shapes.{shape_of}
use Rattle.opa_case.specs.declared.change.Refusal.{Refusal}
use Rattle.opa_case.specs.declared.moves.Moves.{Moves}
use Rattle.opa_case.specs.declared.question.Question.{Question}
use Rattle.opa_mean.specs.Reached.Settling.{AreSettled, IsShift, Lines, Waiting, shift}
use Rattle.opa_session.specs.Readers.Renewals.{IsRenewal}
use Rattle.opa_session.specs.declared.readers.renewal.Renewal.{Renewal}
use Rattle.opa_tree.specs.declared.rulebase.Rulebase.{Rulebase}

-- what a list makes of the case where it is set, and where it is forgotten
abbrev pub relists : Rulebase → CaseView → RelId → InstanceId → Option Names → Result CaseView Refusal
relists r c q i o = relist (shape_of r.model) r.ruled c q i o

-- the case with the list, or without it
abbrev pub coming : Rulebase → CaseView → RelId → InstanceId → Option Names → CaseView
coming r c q i o = relisted (shape_of r.model) c q i o

-- The list is accepted; the slots that are dirty in the case that comes were derived and staged, and it is known what the list
-- moves, and how the readers are renewed.
pub record IsPrepared (r : Rulebase) (c : CaseView) (q : RelId) (i : InstanceId) (o : Option Names) (readers : Question → Waiting) (staged : Lines) (moves : Moves) (renewal : Renewal) : Type 0 where
  pub comes : relists r c q i o ≡ Ok (coming r c q i o)
  pub is : IsShift (shift r c (coming r c q i o))
  pub moved : AreMovesOf (shape_of r.model) c q i o moves
  pub settled : AreSettled (shift r c (coming r c q i o)) staged
  pub renews : IsRenewal (shift r c (coming r c q i o)) readers renewal
