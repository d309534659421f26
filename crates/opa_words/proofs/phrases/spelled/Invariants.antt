use Rattle.std.proofs.Common.{◌≡◌, ◌+◌, length}
use Rattle.std.specs.List.{All}
use Rattle.std.specs.Option.{option_map}
use Rattle.opa_words.specs.Places.{IsWithin}
use Rattle.opa_words.specs.Phrases.{spelled}
use Rattle.opa_words.proofs.phrases.spelled.Given as goal

abbrev pub invariant-loop-later : goal.invariant-loop-later
invariant-loop-later l = record {
  same : option_map (λ n. l.count + n) (spelled l.text l.later l.rest) ≡ spelled l.text l.tokens l.phrase;
  within : All (IsWithin l.text) l.later;
  count : l.count + length l.later ≡ length l.tokens;
}

abbrev pub decreases-loop-later : goal.decreases-loop-later
decreases-loop-later l = length l.later
