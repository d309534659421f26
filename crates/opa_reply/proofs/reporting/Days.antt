-- The days that a line has as values.
use Rattle.std.proofs.Common.{◌≡◌, ◌∙◌, ℕ, List, Some, sym, subst}
use Rattle.opa_date.specs.declared.TheConstants.{DAYS}
use Rattle.opa_value.specs.declared.value.Value.{Value}
use Rattle.opa_line.specs.Lines.{StandsFor}
use Rattle.opa_model.specs.declared.ids.AttrId.{AttrId}
use Rattle.opa_cells.specs.declared.instance.InstanceId.{InstanceId}
use Rattle.opa_case.specs.Cases.{CaseView}
use Rattle.opa_mean.specs.Rulebases.{IsOf, value_at}
use Rattle.opa_mean.specs.Kinds.Laws.{ValuesHaveKinds, kind_of}
use Rattle.opa_text.specs.Texts.{HasDays, IsOfCalendar}
use Rattle.opa_tree.specs.declared.rulebase.Rulebase.{Rulebase}
use Rattle.opa_text.proofs.ValueDays.{value_days}

pub value_is : ValuesHaveKinds → (r : Rulebase) (c : CaseView) → IsOf r c → (a : AttrId) (i : InstanceId) (d : ℕ) → IsOfCalendar (value_at r c a i d)
value_is kinds r c is a i d = value_days (kind_of r a) (value_at r c a i d) (kinds r c is a i d)

some_is : (u v : Value) → Some u ≡ Some v → u ≡ v
some_is u v e = cc e

pub has_days : ValuesHaveKinds → (r : Rulebase) (c : CaseView) → IsOf r c
    → (a : AttrId) (i : InstanceId) (l : List (ℕ × Value)) → StandsFor DAYS (value_at r c a i) l → HasDays l
has_days kinds r c is a i l stands d v less at = subst IsOfCalendar (some_is _ _ (sym (stands d less) ∙ at)) (value_is kinds r c is a i d)
