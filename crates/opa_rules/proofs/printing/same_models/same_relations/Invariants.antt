use Rattle.std.proofs.Common.{◌≡◌, take}
use Rattle.opa_rules.proofs.printing.same_models.same_relations.Given as goal

abbrev pub invariant-loop-n : goal.invariant-loop-n
invariant-loop-n l = take l.n l.model.relations ≡ take l.n l.other.relations
