-- An input that is read piece by piece.
use Rattle.std.proofs.Common.{◌≡◌, ◌≤◌, ◌<◌, ◌+◌, ℕ, Bool, false, List, ◌++◌, length, length-append, ap, arith}
use Rattle.std.specs.declared.option.Option.{Option}
use Rattle.std.specs.Io.KnownBytes.{Consumes}
use Rattle.opa_io.proofs.Appended.{Consumes-append}
use Rattle.opa_talk.specs.declared.whole_input.stop.Stop.TheVariants as stop
use Rattle.opa_talk.specs.WholeInput.Reading.{StopsReading, Probes}

module _ (most : ℕ) (a b c : Option (List ℕ)) (xs : List ℕ) (took : Consumes a b xs) where
  -- there is no memory for a piece that was read
  pub without_memory : (ys : List ℕ) → Consumes b c ys → length xs + length ys ≤ most → StopsReading most a c stop.Memory
  without_memory ys took' within = (xs ++ ys, Consumes-append a b c xs ys took took', omega (arith, length-append xs ys, within))

  -- the byte after the most was read
  pub over_the_limit : (ended : Bool) → ended ≡ false → length xs ≡ most → Probes b c ended → StopsReading most a c stop.Limit
  over_the_limit ended is full probed =
      let p : Probes b c false = rw is at probed in
      (xs ++ p.0, Consumes-append a b c xs p.0 took p.1, omega (arith, length-append xs p.0, p.2, full))
