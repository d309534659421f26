use Rattle.std.proofs.Common.{◌≡◌, take}
use Rattle.std.specs.String.{string_bytes}
use Rattle.opa_words.specs.Reserved.{phrase_text}
use Rattle.opa_words.proofs.reserved.phrase_text.Given as goal

abbrev pub invariant-loop-before : goal.invariant-loop-before
invariant-loop-before l = string_bytes l.out ≡ phrase_text l.text (take l.before l.tokens)
