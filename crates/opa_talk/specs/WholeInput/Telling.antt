-- A text is written, and what the files open under a name.
use Rattle.std.specs.Prelude.{ℕ, ◌≡◌, ◌⊎◌, List, IfSome, Result}
use Rattle.std.specs.declared.option.Option.{Option}
use Rattle.std.specs.Io.KnownBytes.{Appends}
use Rattle.opa_io.specs.Outside.{Files, Rose, AppendsFront}
use Rattle.opa_io.specs.declared.fault.Status.{Status}
use Rattle.opa_io.specs.declared.fault.Status.TheVariants as status

-- the text was written, or at a fault of the sink a front of it
abbrev pub IsTold : Status → List ℕ → Option (List ℕ) → Option (List ℕ) → ℕ → ℕ → Status → Type 0
IsTold good text written written' before now result =
    ((result ≡ good) × Appends written written' text) ⊎ ((result ≡ status.WriteFault) × Rose before now × AppendsFront written written' text)
