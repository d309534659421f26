-- Texts and names without control characters.
use Rattle.std.specs.Prelude.{◌≡◌, ℕ, Bool, true, ◌==◌, ◌||◌, not, nat_lt, List}
use Rattle.std.specs.List.{list_all, list_any}
use Rattle.opa_value.specs.declared.value.Value.{Value}
use Rattle.opa_value.specs.declared.value.Value.TheVariants as value
use Rattle.opa_model.specs.declared.ids.AttrId.{AttrId}
use Rattle.opa_model.specs.declared.ids.RelId.{RelId}
use Rattle.opa_cells.specs.declared.instance.InstanceId.{InstanceId}
use Rattle.opa_case.specs.declared.change.ChangeCommand.{ChangeCommand}
use Rattle.opa_case.specs.declared.change.ChangeCommand.TheVariants.{Answer as SetAnswer, Withdraw, SetList, Forget}
use Rattle.opa_case.specs.Live.{Names}
use Rattle.opa_case.specs.Cases.{CaseView, Answer}
use Rattle.opa_case.specs.Fits.{Known, Answered}

-- the byte is a control character: below U+0020, or U+007F
abbrev pub is_control : ℕ → Bool
is_control b = nat_lt b 32 || b == 127

abbrev pub is_clean_text : List ℕ → Bool
is_clean_text text = not (list_any is_control text)

abbrev pub is_clean_value : Value → Bool
is_clean_value value.Unknown = true
is_clean_value value.Uncertain = true
is_clean_value (value.Bool b) = true
is_clean_value (value.Num n) = true
is_clean_value (value.Words t) = is_clean_text t
is_clean_value (value.Day d) = true

abbrev pub are_clean_names : Names → Bool
are_clean_names names = list_all is_clean_text names

abbrev pub is_clean_answer : Answer → Bool
is_clean_answer line = list_all (λ p. is_clean_value p.1) line

-- Each live instance but the global one is named in a list, so that the instances' names are among these.
pub record IsClean (c : CaseView) : Type 0 where
  pub names : (r : RelId) (i : InstanceId) (names : Names) → Known c.lists r i names → are_clean_names names ≡ true
  pub texts : (a : AttrId) (i : InstanceId) (line : Answer) → Answered c.answers a i line → is_clean_answer line ≡ true

abbrev pub is_clean_command : ChangeCommand → Bool
is_clean_command (SetAnswer a i line) = is_clean_answer line
is_clean_command (Withdraw a i) = true
is_clean_command (SetList r i names) = are_clean_names names
is_clean_command (Forget r i) = true
