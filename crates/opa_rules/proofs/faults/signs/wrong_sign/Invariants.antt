use Rattle.std.proofs.Common.{◌≡◌, length}
use Rattle.std.specs.List.{All}
use Rattle.opa_words.specs.Places.{IsWithin}
use Rattle.opa_rules.specs.Faults.Signs.{wrong_sign}
use Rattle.opa_rules.proofs.faults.signs.wrong_sign.Given as goal

abbrev pub invariant-loop-later : goal.invariant-loop-later
invariant-loop-later l = record {
  same : wrong_sign l.part l.text l.rest ≡ wrong_sign l.part l.text l.tokens;
  within : All (IsWithin l.text) l.rest;
}

abbrev pub decreases-loop-later : goal.decreases-loop-later
decreases-loop-later l = length l.rest
