use Rattle.std.proofs.Common.{◌≡◌, length}
use Rattle.std.specs.List.{All}
use Rattle.opa_words.specs.Places.{IsWithin}
use Rattle.opa_words.specs.Reserved.{ends_badly}
use Rattle.opa_words.proofs.reserved.ends_badly.Given as goal

abbrev pub invariant-loop-rest : goal.invariant-loop-rest
invariant-loop-rest l = record {
  same : ends_badly l.text l.rest ≡ ends_badly l.text l.tokens;
  within : All (IsWithin l.text) l.rest;
}

abbrev pub decreases-loop-rest : goal.decreases-loop-rest
decreases-loop-rest l = length l.rest
