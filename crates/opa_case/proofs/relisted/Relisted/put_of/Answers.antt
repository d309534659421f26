use Rattle.std.specs.Prelude.{Bool, cond}
use Rattle.std.specs.FinMap.{get}
use Rattle.std.specs.Option.{option_copied}
use Rattle.std.proofs.Common.{ap, sym, ◌∙◌}
use Rattle.opa_case.proofs.Overlaid.{put_list}
use Rattle.opa_case.proofs.relisted.Relisted.put_of.Goals as goal

pub returns-then-is_at : goal.returns-then-is_at
returns-then-is_at c =
    let n = c.args.self.now in
    sym (put_list n.case.now.lists n.rel n.inst.now (option_copied n.names) c.args.rel c.args.inst.now
    ∙ ap (λ (b : Bool). cond b (option_copied n.names) (get n.case.now.lists (c.args.rel.0, c.args.inst.now))) (sym c.is_at.ensures ∙ c.if-is_at.true))

pub returns-else-is_at : goal.returns-else-is_at
returns-else-is_at c =
    let n = c.args.self.now in
    c.stored_of.ensures
    ∙ sym (put_list n.case.now.lists n.rel n.inst.now (option_copied n.names) c.args.rel c.args.inst.now
    ∙ ap (λ (b : Bool). cond b (option_copied n.names) (get n.case.now.lists (c.args.rel.0, c.args.inst.now))) (sym c.is_at.ensures ∙ c.if-is_at.false))
