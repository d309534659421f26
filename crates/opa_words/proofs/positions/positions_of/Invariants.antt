use Rattle.std.proofs.Common.{take}
use Rattle.std.specs.HashMap.{get_by_text}
use Rattle.opa_words.specs.Phrases.{FindsFirst}
use Rattle.opa_words.proofs.positions.positions_of.Given as goal

abbrev pub invariant-loop-position : goal.invariant-loop-position
invariant-loop-position l = FindsFirst (get_by_text l.positions) (take l.position l.texts)
