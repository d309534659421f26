-- What is known of items that come one after another.
use Rattle.std.specs.Prelude.{◌≡◌, ℕ, ◌<◌, Bool, true, false, List, [], ◌∷◌, ◌++◌, Option, None, Some, filter, length, take}
use Rattle.opa_date.specs.declared.TheConstants.{DAYS}
use Rattle.opa_value.specs.declared.value.Value.{Value}
use Rattle.opa_value.specs.Truth.{is_true}
use Rattle.opa_tree.specs.declared.kinds.Quant.{Quant}
use Rattle.opa_tree.specs.declared.kinds.Quant.TheVariants as quant
use Rattle.opa_window.specs.Folds.{total}
use Rattle.opa_code.specs.OverLines.Lines.{values_at}
use Rattle.opa_code.specs.OverLines.Tallies.{IsTally, AreSmall, is_most, marks_of, peak, beats_number, beats_day, number_in, day_in}
use Rattle.opa_code.specs.declared.over_lines.gathering.Gathering.{Gathering}
use Rattle.opa_code.specs.declared.over_lines.gathering.Gathering.TheVariants as gathering
use Rattle.opa_code.specs.declared.over_lines.items.Items.{Items}

-- two lists of values with one tally
pub record Alike (vs ws : List Value) : Type 0 where
  pub marks : marks_of vs ≡ marks_of ws
  pub trues : length (filter is_true vs) ≡ length (filter is_true ws)
  pub total : total vs ≡ total ws
  pub size : length vs ≡ length ws
  pub number : (most : Bool) → peak (beats_number most) number_in vs ≡ peak (beats_number most) number_in ws
  pub day : (most : Bool) → peak (beats_day most) day_in vs ≡ peak (beats_day most) day_in ws

-- The items have these values at each day: some are constant and counted, and the lines of the others are kept. The order
-- counts only for the first.
pub record Gathered (values : ℕ → List Value) (held : Items) : Type 0 where
  pub constants : List Value
  pub tallied : IsTally (is_most held.gathering) constants held.constant
  pub alike : (d : ℕ) → d < DAYS → Alike (constants ++ values_at held.dated d) (values d)
  pub plain : held.dated ≡ [] → (d : ℕ) → d < DAYS → constants ≡ values d
  pub first : (d : ℕ) → d < DAYS → values_at held.first d ≡ take 1 (values d)

-- there is room for one item more
abbrev pub HasRoom : Items → Type 0
HasRoom held = AreSmall held.constant.sums

-- one item with this value at each day is added
pub record IsAdded (value : ℕ → Value) (old new : Items) : Type 0 where
  pub gathering : new.gathering ≡ old.gathering
  pub gathered : (values : ℕ → List Value) → Gathered values old → Gathered (λ d. values d ++ value d ∷ []) new

-- the first item is kept
abbrev pub KeepsFirst : (ℕ → Value) → List (List (ℕ × Value)) → List (List (ℕ × Value)) → Type 0
KeepsFirst value old new = (d : ℕ) (vs : List Value) → d < DAYS → values_at old d ≡ take 1 vs → values_at new d ≡ take 1 (vs ++ value d ∷ [])

-- what a quantifier gathers from the items, if it doesn't only count them or take the first
abbrev pub gathers : Quant → Option Gathering
gathers quant.ForAll = Some gathering.All
gathers quant.Exists = Some gathering.Any
gathers quant.CountIf = Some gathering.CountIf
gathers quant.Sum = Some gathering.Sum
gathers quant.SumIf = Some gathering.Sum
gathers quant.Maximum = Some (gathering.Best true)
gathers quant.Minimum = Some (gathering.Best false)
gathers _ = None
