-- What is found of a slot, and what is ready before a change is made.
use Rattle.std.specs.Prelude.{◌≡◌, ℕ, List, length, is_some, Option, Some}
use Rattle.std.specs.List.{AllZip}
use Rattle.opa_date.specs.declared.TheConstants.{DAYS}
use Rattle.opa_line.specs.Lines.{StandsFor}
use Rattle.opa_model.specs.declared.ids.AttrId.{AttrId}
use Rattle.opa_cells.specs.declared.instance.InstanceId.{InstanceId}
use Rattle.opa_case.specs.Cases.{CaseView, Answer}
use Rattle.opa_listen.specs.declared.change.Change.{Change}
use Rattle.opa_listen.specs.Listening.{ListenerView}
use Rattle.opa_listen.specs.Telling.{CanKeep, HasRoomOf, each_watched}
use Rattle.opa_tree.specs.declared.rulebase.Rulebase.{Rulebase}
use Rattle.opa_mean.specs.Rulebases.{value_at}
use Rattle.opa_mean.specs.Slots.{is_slot}
use Rattle.opa_session.specs.Infer.Sessions.{AreChanges}

-- a line exactly where there is a slot, and then the right one
pub record IsFound (r : Rulebase) (c : CaseView) (a : AttrId) (i : InstanceId) (found : Option Answer) : Type 0 where
  pub there : is_some found ≡ is_slot r c a i
  pub right : (line : Answer) → found ≡ Some line → StandsFor DAYS (value_at r c a i) line

-- For each listener the changes that it watches, for which it has room; nothing else of it differs.
pub record IsReady (r : Rulebase) (c c' : CaseView) (before after : List ListenerView) (lists : List (List Change)) (count : ℕ) : Type 0 where
  pub told : List Change
  pub changes : AreChanges r c c' told
  pub room : AllZip HasRoomOf before after
  pub can : AllZip CanKeep lists after
  pub watched : lists ≡ each_watched told after
  pub count_is : count ≡ length told
