use Rattle.std.proofs.Common.{ap, sym, ◌∙◌, ◌++◌, ◌+◌, ◌-◌, arith}
use Rattle.opa_case.specs.Shapes.{shape_of}
use Rattle.opa_case.specs.Turns.{gone_at}
use Rattle.opa_case.proofs.Going.{gone_none, gone_next, gone_nothing}
use Rattle.opa_case.proofs.turn.gone_with.Goals as goal

pub loop-entity-init : goal.loop-entity-init
loop-entity-init g c = record { filled = c.new-gone.ensures.items ∙ gone_none (shape_of c.args.model.now) (g.L.Lists.lists c.args.lists.now) c.args.target c.args.seeds.now; within = c.entity_count-count.ensures.form.has_global }

pub loop-entity-preserved : goal.loop-entity-preserved
loop-entity-preserved g c =
    let s = shape_of c.args.model.now in
    let l = g.L.Lists.lists c.args.lists.now in
    let e = c.loop-entity.entity in
    record {
      filled = c.in_ok-add_gone.ensures ∙ ap (λ o. o ++ gone_at s l c.args.target c.args.seeds.now (e + 1) o) c.loop-entity.invariant.filled ∙ gone_next s l c.args.target c.args.seeds.now e;
      within = omega (arith, c.loop-entity-test.true, c.entity_count-count.ensures.count);
    }

pub returns-then-is_empty : goal.returns-then-is_empty
returns-then-is_empty g c =
    let s = shape_of c.args.model.now in
    c.new.ensures.items ∙ gone_nothing s (g.L.Lists.lists c.args.lists.now) c.args.target c.args.seeds.now (s.count - 1) (sym c.is_empty.ensures ∙ c.if-is_empty.true)
