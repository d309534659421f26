use Rattle.std.proofs.Common.{◌≡◌, ◌≤◌, ◌+◌, length}
use Rattle.std.specs.List.{All}
use Rattle.opa_words.specs.Places.{IsWithin}
use Rattle.opa_rules.specs.Faults.Brackets.{stray}
use Rattle.opa_rules.proofs.faults.brackets.stray.Given as goal

abbrev pub invariant-loop-token : goal.invariant-loop-token
invariant-loop-token l = record {
  same : stray l.text l.signs.opening.now l.signs.closing.now l.count l.rest ≡ stray l.text l.signs.opening.now l.signs.closing.now 0 l.tokens;
  within : All (IsWithin l.text) l.rest;
  room : l.count + length l.rest ≤ length l.tokens;
}

abbrev pub decreases-loop-token : goal.decreases-loop-token
decreases-loop-token l = length l.rest
