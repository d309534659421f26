use Rattle.std.proofs.Common.{take}
use Rattle.std.specs.HashMap.{get_by_text}
use Rattle.opa_words.specs.Phrases.{FindsFirst}
use Rattle.opa_decl.proofs.places.places_of.Given as goal

abbrev pub invariant-loop-place : goal.invariant-loop-place
invariant-loop-place l = FindsFirst (get_by_text l.places) (take l.place l.texts)
