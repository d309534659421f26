use Rattle.std.proofs.Common.{arith}
use Rattle.opa_case.specs.Shapes.{shape_of}
use Rattle.opa_case.proofs.Shaped.{shape_is}
use Rattle.opa_saved.proofs.PutLaws.{nothing_held, nothing_only}
use Rattle.opa_saved.proofs.build.case_of_lists.Goals as goal

pub loop-entity-init : goal.loop-entity-init
loop-entity-init c =
    let m = c.args.model.now in
    record {
      some = nothing_held (shape_of m) c.args.ruled.now (shape_is m c.entity_count-count.ensures.form) c.args.lists.now c.new-case.result c.new-case.ensures;
      only = nothing_only (shape_of m) c.new-case.result c.new-case.ensures;
      before = λ d i pos lt. absurd (omega (arith, pos, lt));
      within = c.entity_count-count.ensures.form.has_global;
    }
