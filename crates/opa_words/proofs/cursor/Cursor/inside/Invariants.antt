use Rattle.std.proofs.Common.{◌≡◌, ◌+◌, ◌≤◌, length, false}
use Rattle.std.specs.Prelude.{IfSome}
use Rattle.std.specs.Option.{option_map, option_or}
use Rattle.std.specs.Str.{chars}
use Rattle.opa_words.specs.Characters.{width}
use Rattle.opa_words.specs.Scan.{inside}
use Rattle.opa_words.proofs.cursor.Cursor.inside.Given as goal

abbrev pub invariant-loop-after : goal.invariant-loop-after
invariant-loop-after l = record {
  rest : option_or (inside false (chars l.here.rest.now)) (option_map (λ c. chars c.rest.now) l.end) ≡ inside false (chars l.self.rest.now);
  place : l.here.at + width (chars l.here.rest.now) ≡ l.self.at + width (chars l.self.rest.now);
  shorter : length (chars l.here.rest.now) ≤ length (chars l.self.rest.now);
  end : IfSome l.end (λ c. c.at + width (chars c.rest.now) ≡ l.self.at + width (chars l.self.rest.now));
  end_shorter : IfSome l.end (λ c. length (chars c.rest.now) ≤ length (chars l.self.rest.now));
}

abbrev pub decreases-loop-after : goal.decreases-loop-after
decreases-loop-after l = length (chars l.here.rest.now)
