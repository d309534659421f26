use Rattle.std.proofs.Common.{◌≡◌, ◌++◌, drop, flat_map}
use Rattle.opa_verbs.specs.Phrasing.{texts_of, operand_phrases}
use Rattle.opa_rules.proofs.faults.known.with_operands.Given as goal

abbrev pub invariant-loop-place : goal.invariant-loop-place
invariant-loop-place l = l.all ++ flat_map (texts_of l.model) (drop l.place l.model.attributes) ≡ l.fn.texts ++ operand_phrases l.model
