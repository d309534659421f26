use Rattle.std.specs.Prelude.{None, Bool, cond}
use Rattle.std.specs.FinMap.{get}
use Rattle.std.specs.Option.{option_copied}
use Rattle.std.proofs.Common.{ap, sym, ◌∙◌}
use Rattle.opa_case.specs.Shapes.{shape_of}
use Rattle.opa_case.proofs.Overlaid.{answers_then}
use Rattle.opa_case.proofs.relisted.Relisted.answer_of.Goals as goal

pub returns-then-live : goal.returns-then-live
returns-then-live c =
    let n = c.args.self.now in
    c.answer_of.ensures.value
    ∙ sym (answers_then (shape_of n.model.now) n.case.now n.rel n.inst.now (option_copied n.names) c.args.attr c.args.inst.now
    ∙ ap (λ (b : Bool). cond b (get n.case.now.answers (c.args.attr.0, c.args.inst.now)) None) (sym c.live.ensures ∙ c.if-live.true))

pub returns-else-live : goal.returns-else-live
returns-else-live c =
    let n = c.args.self.now in
    sym (answers_then (shape_of n.model.now) n.case.now n.rel n.inst.now (option_copied n.names) c.args.attr c.args.inst.now
    ∙ ap (λ (b : Bool). cond b (get n.case.now.answers (c.args.attr.0, c.args.inst.now)) None) (sym c.live.ensures ∙ c.if-live.false))
