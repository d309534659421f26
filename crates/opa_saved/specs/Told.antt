-- What a case tells by its look-ups.
use Rattle.std.specs.Prelude.{◌≡◌, ℕ, zero, suc, List, [], ◌++◌, Some, Bool, flat_map, cond}
use Rattle.std.specs.List.{AllByRecursion}
use Rattle.std.specs.FinMap.{get}
use Rattle.serde_json.specs.Data.{Data}
use Rattle.opa_value.specs.declared.value.Value.{Value}
use Rattle.opa_model.specs.declared.lists.Lists.{Lists}
use Rattle.opa_cells.specs.declared.instance.InstanceId.{InstanceId}
use Rattle.opa_case.specs.Live.{members}
use Rattle.opa_case.specs.Cases.{CaseView, Answer, list_of}
use Rattle.opa_case.specs.Shapes.{relation_or, shape_of}
use Rattle.opa_case.specs.Fits.{Fits}
use Rattle.opa_text.specs.Texts.{IsOfCalendar}
use Rattle.opa_saved.specs.Saved.{entry_of, list_entry, rel}

-- the days that answers have as values are of the calendar
abbrev pub AreOfCalendar : List (ℕ × Value) → Type 0
AreOfCalendar l = AllByRecursion (λ (p : ℕ × Value). IsOfCalendar p.1) l

abbrev pub HasDays : CaseView → Type 0
HasDays c = (n : ℕ) (i : InstanceId) (l : Answer) → get c.answers (n, i) ≡ Some l → AreOfCalendar l

-- the case fits the model, whatever has a rule
abbrev pub FitsModel : Lists → CaseView → Type 0
FitsModel m c = (ruled : List Bool) × Fits (shape_of m) ruled c

-- the lists of a relation that isn't declared with `every`, as they are looked up
abbrev pub lists_told : Lists → CaseView → ℕ → List Data
lists_told m c n =
    cond (relation_or m (rel n)).every []
    (flat_map (λ i. entry_of (list_entry (relation_or m (rel n)).phrase i) (list_of c (rel n) i)) (members (relation_or m (rel n)).source.0 c.live))

unfoldable pub told_upto : Lists → CaseView → ℕ → List Data
told_upto m c zero = []
told_upto m c (suc n) = told_upto m c n ++ lists_told m c n
