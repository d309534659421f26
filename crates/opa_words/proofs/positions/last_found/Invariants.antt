use Rattle.std.proofs.Common.{◌≡◌, take}
use Rattle.std.specs.HashMap.{get_by_text}
use Rattle.opa_words.specs.Reserved.{phrase_text}
use Rattle.opa_words.specs.Phrases.{IsLastFound}
use Rattle.opa_words.proofs.positions.last_found.Given as goal

abbrev pub invariant-loop-before : goal.invariant-loop-before
invariant-loop-before l = record {
  joined : l.joined.bytes ≡ phrase_text l.text (take l.before l.tokens);
  best : IsLastFound (get_by_text l.positions) l.text l.tokens l.before l.best;
}
