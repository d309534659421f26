use Rattle.std.proofs.Common.{◌≡◌, ◌+◌, ◌≤◌, length}
use Rattle.std.specs.Str.{chars}
use Rattle.opa_words.specs.Characters.{width}
use Rattle.opa_words.specs.Scan.{past_quote}
use Rattle.opa_words.proofs.cursor.Cursor.past_quote.Given as goal

abbrev pub invariant-loop-c : goal.invariant-loop-c
invariant-loop-c l = record {
  rest : past_quote (chars l.here.rest.now) ≡ past_quote (chars l.self.rest.now);
  place : l.here.at + width (chars l.here.rest.now) ≡ l.self.at + width (chars l.self.rest.now);
  shorter : length (chars l.here.rest.now) ≤ length (chars l.self.rest.now);
}

abbrev pub decreases-loop-c : goal.decreases-loop-c
decreases-loop-c l = length (chars l.here.rest.now)
