use Rattle.std.proofs.Common.{◌≡◌, length}
use Rattle.opa_sentence.specs.Cursors.{seen}
use Rattle.opa_sentence.specs.Phrases.{past_words}
use Rattle.opa_sentence.proofs.cursor.Cursor.past_words.Given as goal

abbrev pub invariant-loop-class : goal.invariant-loop-class
invariant-loop-class l = past_words (seen l.rest) ≡ past_words (seen l.self)

abbrev pub decreases-loop-class : goal.decreases-loop-class
decreases-loop-class l = length (seen l.rest)
