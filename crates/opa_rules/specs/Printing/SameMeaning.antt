-- What the same rules conclude.
use Rattle.std.specs.Prelude.{ℕ, ◌≡◌}
use Rattle.opa_model.specs.declared.ids.AttrId.{AttrId}
use Rattle.opa_cells.specs.declared.instance.InstanceId.{InstanceId}
use Rattle.opa_case.specs.Cases.{CaseView}
use Rattle.opa_tree.specs.declared.rulebase.Rulebase.{Rulebase}
use Rattle.opa_mean.specs.Rulebases.{value_at}
use Rattle.opa_rules.specs.Printing.Same.{IsSame}

-- Rulebases that are the same give each attribute the same value, at every instance and day of every case.
abbrev pub SameMeaning : Type 0
SameMeaning = (base other : Rulebase) → IsSame base other → (c : CaseView) (a : AttrId) (i : InstanceId) (d : ℕ) → value_at base c a i d ≡ value_at other c a i d
