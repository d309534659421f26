use Rattle.std.proofs.Common.{◌≡◌, ◌∙◌, ap, sym, map, false}
use Rattle.std.specs.Prelude.{Option}
use Rattle.std.specs.Option.{option_map_or}
use Rattle.opa_model.specs.declared.things.Relation.{Relation}
use Rattle.opa_tree.specs.Kinds.{typed, quant_can}
use Rattle.opa_rulebase.specs.Checking.KindSets.{typing_of}
use Rattle.opa_rulebase.proofs.checking.kinds.over_kinds.Goals as goal

pub returns-in-Some : goal.returns-in-Some
returns-in-Some c = c.quant_kinds.ensures ∙ ap (λ (o : Option Relation). typed (λ k. option_map_or (λ x. quant_can c.args.quant x.one (map typing_of c.args.sets.now) k) o false)) c.in-Some.ensures

pub returns-in-None : goal.returns-in-None
returns-in-None c = c.none.ensures ∙ ap (λ (o : Option Relation). typed (λ k. option_map_or (λ x. quant_can c.args.quant x.one (map typing_of c.args.sets.now) k) o false)) c.in-None.ensures
