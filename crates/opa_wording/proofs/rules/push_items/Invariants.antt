use Rattle.std.proofs.Common.{◌≡◌, ◌++◌, map, length}
use Rattle.std.specs.String.{string_bytes}
use Rattle.opa_wording.specs.Lines.{line_text}
use Rattle.opa_wording.specs.Rules.{items}
use Rattle.opa_wording.proofs.rules.push_items.Given as goal

abbrev pub invariant-loop-part : goal.invariant-loop-part
invariant-loop-part l = string_bytes l.out ++ items l.indent l.joint (map (line_text l.model) l.rest) ≡ string_bytes l.initial.out ++ items l.indent l.joint (map (line_text l.model) l.parts)

abbrev pub decreases-loop-part : goal.decreases-loop-part
decreases-loop-part l = length l.rest
