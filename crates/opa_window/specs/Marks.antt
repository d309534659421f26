-- What a value may be marked as, and whether such a value was seen on the last days.
use Rattle.std.specs.Prelude.{ℕ, Bool}
use Rattle.std.specs.List.{list_any}
use Rattle.opa_value.specs.declared.value.Value.{Value}
use Rattle.opa_value.specs.Truth.{is_false, is_true, is_unknown, is_uncertain}
use Rattle.opa_window.specs.declared.marks.Mark.{Mark}
use Rattle.opa_window.specs.declared.marks.Mark.TheVariants.{False, True, Unknown, Uncertain}
use Rattle.opa_window.specs.Days.{last_days}

abbrev pub has_mark : Mark → Value → Bool
has_mark False v = is_false v
has_mark True v = is_true v
has_mark Unknown v = is_unknown v
has_mark Uncertain v = is_uncertain v

-- it was so on one of the n days that end with day d
abbrev pub seen : ℕ → (ℕ → Bool) → ℕ → Bool
seen n so d = list_any (λ b. b) (last_days n so d)
