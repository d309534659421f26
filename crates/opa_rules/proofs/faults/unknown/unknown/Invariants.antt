use Rattle.std.proofs.Common.{◌≡◌, length}
use Rattle.std.specs.List.{All}
use Rattle.opa_words.specs.Places.{IsWithin}
use Rattle.opa_rules.specs.Faults.Unknown.{unknown}
use Rattle.opa_rules.proofs.faults.unknown.unknown.Given as goal

abbrev pub invariant-loop-later : goal.invariant-loop-later
invariant-loop-later l = record {
  same : unknown l.phrases l.text l.skip l.rest ≡ unknown l.phrases l.text l.skipped l.tokens;
  within : All (IsWithin l.text) l.rest;
}

abbrev pub decreases-loop-later : goal.decreases-loop-later
decreases-loop-later l = length l.rest
