use Rattle.std.proofs.Common.{◌≡◌, ◌++◌, length}
use Rattle.opa_rulebase.specs.Loading.{phrases_of}
use Rattle.opa_rulebase.proofs.accepting.phrases.Given as goal

abbrev pub invariant-loop-attr : goal.invariant-loop-attr
invariant-loop-attr l = l.all ++ phrases_of l.model l.rest ≡ phrases_of l.model l.circle

abbrev pub decreases-loop-attr : goal.decreases-loop-attr
decreases-loop-attr l = length l.rest
