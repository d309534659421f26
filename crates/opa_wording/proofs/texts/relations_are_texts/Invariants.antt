use Rattle.std.proofs.Common.{[], ◌∷◌, drop, flat_map, All}
use Rattle.std.specs.Str.{IsUtf8}
use Rattle.opa_model.specs.declared.things.Relation.{Relation}
use Rattle.opa_wording.proofs.texts.relations_are_texts.Given as goal

abbrev pub invariant-loop-place : goal.invariant-loop-place
invariant-loop-place l = All IsUtf8 (flat_map (λ (r : Relation). r.phrase ∷ []) (drop l.place l.model.relations)) → All IsUtf8 (flat_map (λ (r : Relation). r.phrase ∷ []) l.model.relations)
