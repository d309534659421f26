-- The first lines, derived in the order of slots.
use Rattle.std.specs.Prelude.{◌≡◌, true, is_some, List, Some, Contains}
use Rattle.opa_date.specs.declared.TheConstants.{DAYS}
use Rattle.opa_line.specs.Lines.{StandsFor}
use Rattle.opa_model.specs.declared.ids.AttrId.{AttrId}
use Rattle.opa_cells.specs.declared.instance.InstanceId.{InstanceId}
use Rattle.opa_case.specs.Cases.{CaseView, Answer}
use Rattle.opa_mean.specs.Reached.Settling.{Lines, NoLines}
use Rattle.opa_mean.specs.Rulebases.{value_at}
use Rattle.opa_mean.specs.Slots.{is_slot}
use Rattle.opa_tree.specs.declared.rulebase.Rulebase.{Rulebase}

-- Nothing is kept; what is staged are right lines of slots, and these slots have one.
pub record AreFirst (r : Rulebase) (c : CaseView) (done : List (AttrId × InstanceId)) (kept staged : Lines) : Type 0 where
  pub none : NoLines kept
  pub right : (a : AttrId) (i : InstanceId) (line : Answer) → staged a i ≡ Some line → StandsFor DAYS (value_at r c a i) line
  pub slots : (a : AttrId) (i : InstanceId) → is_some (staged a i) ≡ true → is_slot r c a i ≡ true
  pub all : (a : AttrId) (i : InstanceId) → Contains done (a, i) → is_some (staged a i) ≡ true
