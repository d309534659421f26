use Rattle.std.proofs.Common.{◌≡◌, ◌+◌, length}
use Rattle.opa_words.specs.Phrases.{longer, longest_from}
use Rattle.opa_words.proofs.phrases.longest_of.Given as goal

abbrev pub invariant-loop-rest : goal.invariant-loop-rest
invariant-loop-rest l = record {
  best : longer l.best (longest_from l.text l.tokens l.count l.rest) ≡ longest_from l.text l.tokens 0 l.phrases;
  count : l.count + length l.rest ≡ length l.phrases;
}

abbrev pub decreases-loop-rest : goal.decreases-loop-rest
decreases-loop-rest l = length l.rest
