use Rattle.std.proofs.Common.{◌≡◌, ◌++◌, length}
use Rattle.opa_words.proofs.phrases.copied.Given as goal

abbrev pub invariant-loop-rest : goal.invariant-loop-rest
invariant-loop-rest l = l.list ++ l.rest ≡ l.texts

abbrev pub decreases-loop-rest : goal.decreases-loop-rest
decreases-loop-rest l = length l.rest
