use Rattle.std.proofs.Common.{◌≡◌, ◌+◌, length}
use Rattle.std.specs.List.{All}
use Rattle.opa_words.specs.Places.{IsWithin}
use Rattle.opa_rules.specs.Faults.Unknown.{inner}
use Rattle.opa_rules.proofs.faults.unknown.inner.Given as goal

abbrev pub invariant-loop-rest : goal.invariant-loop-rest
invariant-loop-rest l = record {
  count : l.count + inner l.text l.rest ≡ inner l.text l.tokens;
  room : l.count + length l.rest ≡ length l.tokens;
  within : All (IsWithin l.text) l.rest;
}

abbrev pub decreases-loop-rest : goal.decreases-loop-rest
decreases-loop-rest l = length l.rest
