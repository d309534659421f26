use Rattle.std.proofs.Common.{ap, sym, ◌∙◌, ◌==◌, eq-eqb}
use Rattle.std.specs.FinMap.{get}
use Rattle.opa_model.specs.declared.things.Attribute.{Attribute}
use Rattle.opa_case.specs.Shapes.{shape_of}
use Rattle.opa_case.proofs.Taken.{one_taken}
use Rattle.opa_case.proofs.dropping.drop_answer.Goals as goal

pub returns-then-attribute_of-inst : goal.returns-then-attribute_of-inst
returns-then-attribute_of-inst c a j =
    let s = shape_of c.args.model.now in
    let i = c.args.inst.now in
    ap (λ m. get m (a, j)) c.remove.ensures
    ∙ one_taken c.args.answers.now c.args.attr.0 i (λ n. (s.attribute (record { 0 = n })).entity.0 == i.entity.0)
    (eq-eqb (s.attribute c.args.attr).entity.0 i.entity.0 (sym (ap (λ (t : Attribute). t.entity.0) c.attribute_of.ensures.value) ∙ c.if-attribute_of-inst.true)) a j
