use Rattle.std.proofs.Common.{◌≡◌, ◌++◌, drop, flat_map}
use Rattle.opa_parse.specs.Naming.{meanings_from, operand_meanings}
use Rattle.opa_verbs.specs.Phrasing.{texts_of, operand_phrases}
use Rattle.opa_parse.proofs.names.operands_of.Given as goal

abbrev pub invariant-loop-place : goal.invariant-loop-place
invariant-loop-place l = record {
  texts : l.operands.texts ++ flat_map (texts_of l.model) (drop l.place l.model.attributes) ≡ operand_phrases l.model;
  meanings : l.operands.meanings ++ meanings_from l.model l.place (drop l.place l.model.attributes) ≡ operand_meanings l.model;
}
