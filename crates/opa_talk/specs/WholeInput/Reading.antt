-- A whole input is read.
use Rattle.std.specs.Prelude.{ℕ, ◌≡◌, ◌≤◌, ◌+◌, Bool, true, false, List, [], length}
use Rattle.std.specs.declared.option.Option.{Option}
use Rattle.std.specs.Io.KnownBytes.{Consumes, IsAtEnd}
use Rattle.opa_io.specs.Outside.{Rose}
use Rattle.opa_talk.specs.declared.whole_input.stop.Stop.{Stop}
use Rattle.opa_talk.specs.declared.whole_input.stop.Stop.TheVariants as stop

-- these are the bytes that were left, at most so many, and none is left
pub record ReadsAll (most : ℕ) (left left' : Option (List ℕ)) (bytes : List ℕ) : Type 0 where
  pub took : Consumes left left' bytes
  pub within : length bytes ≤ most
  pub ended : IsAtEnd left'

-- reading stops where the source fails or memory runs out, or behind the byte after the most
abbrev pub StopsReading : ℕ → Option (List ℕ) → Option (List ℕ) → Stop → Type 0
StopsReading most left left' stop.Input = (read : List ℕ) × Consumes left left' read × (length read ≤ most)
StopsReading most left left' stop.Memory = (read : List ℕ) × Consumes left left' read × (length read ≤ most)
StopsReading most left left' stop.Limit = (read : List ℕ) × Consumes left left' read × (length read ≡ most + 1)

abbrev pub HasStopCause : ℕ → ℕ → Stop → Type 0
HasStopCause before now stop.Input = Rose before now
HasStopCause before now stop.Memory = Unit {0}
HasStopCause before now stop.Limit = Unit {0}

-- ---- on the way there

-- one more byte was asked for: the input is at its end, or the byte was read
abbrev pub Probes : Option (List ℕ) → Option (List ℕ) → Bool → Type 0
Probes left left' true = Consumes left left' [] × IsAtEnd left'
Probes left left' false = (read : List ℕ) × Consumes left left' read × (length read ≡ 1)
