use Rattle.std.proofs.Common.{◌≡◌, ◌++◌, length}
use Rattle.std.specs.String.{string_bytes}
use Rattle.opa_words.specs.Names.{printed_name, printed_characters}
use Rattle.opa_words.proofs.names.printed_name.Given as goal

abbrev pub invariant-loop-c : goal.invariant-loop-c
invariant-loop-c l = string_bytes l.out ++ printed_characters l.rest ≡ printed_name l.name

abbrev pub decreases-loop-c : goal.decreases-loop-c
decreases-loop-c l = length l.rest
