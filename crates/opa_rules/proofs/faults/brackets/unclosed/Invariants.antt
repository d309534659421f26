use Rattle.std.proofs.Common.{◌≡◌, length}
use Rattle.std.specs.List.{All}
use Rattle.opa_words.specs.Places.{IsWithin}
use Rattle.opa_rules.specs.Faults.Brackets.{unclosed}
use Rattle.opa_rules.proofs.faults.brackets.unclosed.Given as goal

abbrev pub invariant-loop-token : goal.invariant-loop-token
invariant-loop-token l = record {
  same : unclosed l.text l.signs.opening.now l.signs.closing.now l.rest ≡ unclosed l.text l.signs.opening.now l.signs.closing.now l.tokens;
  within : All (IsWithin l.text) l.rest;
}

abbrev pub decreases-loop-token : goal.decreases-loop-token
decreases-loop-token l = length l.rest
