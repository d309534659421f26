-- Bytes that a sink holds back.
use Rattle.std.specs.Prelude.{ℕ, List, drop}
use Rattle.std.specs.declared.option.Option.{Option}
use Rattle.std.specs.Io.KnownBytes.{append_known}

-- what was written, and then the bytes from a place on, which are held back
abbrev pub with_rest : Option (List ℕ) → ℕ → List ℕ → Option (List ℕ)
with_rest known passed bytes = append_known known (drop passed bytes)
