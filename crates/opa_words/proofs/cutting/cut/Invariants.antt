use Rattle.std.proofs.Common.{◌≡◌, ◌+◌, length}
use Rattle.std.specs.Str.{chars}
use Rattle.opa_words.specs.Characters.{width}
use Rattle.opa_words.proofs.CutLaws.{Keeps}
use Rattle.opa_words.proofs.cutting.cut.Given as goal

abbrev pub invariant-loop-c : goal.invariant-loop-c
invariant-loop-c l = record {
  keeps : Keeps (l.start.at + width (chars l.start.rest.now)) (chars l.start.rest.now) l.tokens.items (chars l.here.rest.now);
  place : l.here.at + width (chars l.here.rest.now) ≡ l.start.at + width (chars l.start.rest.now);
}

abbrev pub decreases-loop-c : goal.decreases-loop-c
decreases-loop-c l = length (chars l.here.rest.now)
