-- What holds of every case, whatever is declared: all stands at live instances and is within the limits, no name is empty, and each answer says something.
use Rattle.std.specs.Prelude.{◌≡◌, true, false, nat_lt, length}
use Rattle.std.specs.List.{list_any}
use Rattle.std.specs.FinMap.{len}
use Rattle.opa_model.specs.declared.ids.AttrId.{AttrId}
use Rattle.opa_model.specs.declared.ids.RelId.{RelId}
use Rattle.opa_cells.specs.declared.instance.InstanceId.{InstanceId}
use Rattle.opa_case.specs.Live.{Names}
use Rattle.opa_case.specs.Cases.{CaseView, Answer, IsLive, are_names}
use Rattle.opa_case.specs.Steps.{is_unknown_answer}
use Rattle.opa_case.specs.Fits.{Known, Answered}
use Rattle.opa_io.specs.declared.limits.TheConstants.{MOST_INSTANCE_NAME, MOST_POINTS, MOST_ANSWERS, MOST_INSTANCES}

pub record IsWhole (c : CaseView) : Type 0 where
  -- each key's instance is live
  pub listed : (r : RelId) (i : InstanceId) (names : Names) → Known c.lists r i names → IsLive c i
  pub answered : (a : AttrId) (i : InstanceId) (line : Answer) → Answered c.answers a i line → IsLive c i
  -- no name is empty, stands twice or has more than 100 bytes
  pub names : (r : RelId) (i : InstanceId) (names : Names) → Known c.lists r i names → are_names names ≡ true
  pub short : (r : RelId) (i : InstanceId) (names : Names) → Known c.lists r i names → list_any (λ n. nat_lt MOST_INSTANCE_NAME (length n)) names ≡ false
  -- no answer is unknown on every day or has more than 1,000 pairs
  pub told : (a : AttrId) (i : InstanceId) (line : Answer) → Answered c.answers a i line → is_unknown_answer line ≡ false
  pub few : (a : AttrId) (i : InstanceId) (line : Answer) → Answered c.answers a i line → nat_lt MOST_POINTS (length line) ≡ false
  pub answers : nat_lt MOST_ANSWERS (len c.answers) ≡ false
  pub instances : nat_lt MOST_INSTANCES (length c.live) ≡ false
