use Rattle.std.proofs.Common.{◌≡◌, ◌+◌, ◌≤◌, length}
use Rattle.std.specs.Str.{chars}
use Rattle.opa_words.specs.Characters.{width, is_digit}
use Rattle.opa_words.specs.Scan.{past}
use Rattle.opa_words.proofs.cursor.Cursor.digits.Given as goal

abbrev pub invariant-loop-next : goal.invariant-loop-next
invariant-loop-next l = record {
  rest : past is_digit (chars l.here.rest.now) ≡ past is_digit (chars l.self.rest.now);
  place : l.here.at + width (chars l.here.rest.now) ≡ l.self.at + width (chars l.self.rest.now);
  shorter : length (chars l.here.rest.now) ≤ length (chars l.self.rest.now);
}

abbrev pub decreases-loop-next : goal.decreases-loop-next
decreases-loop-next l = length (chars l.here.rest.now)
