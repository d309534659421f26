use Rattle.std.specs.Option.{option_copied}
use Rattle.std.proofs.Common.{ap, sym, ◌∙◌}
use Rattle.opa_case.specs.Shapes.{shape_of}
use Rattle.opa_case.proofs.Overlaid.{lists_then, none_found, some_found, none_kept}
use Rattle.opa_case.proofs.relisted.Relisted.stored_of.Goals as goal

pub returns-in_default : goal.returns-in_default
returns-in_default c =
    let n = c.args.self.now in
    none_found _ _ _ (lists_then (shape_of n.model.now) n.case.now n.rel n.inst.now (option_copied n.names) c.args.rel c.args.inst.now) (sym c.put_of.ensures ∙ ap option_copied c.in_default.is)

pub returns-then-stays : goal.returns-then-stays
returns-then-stays c =
    let n = c.args.self.now in
    some_found _ _ _ _ (lists_then (shape_of n.model.now) n.case.now n.rel n.inst.now (option_copied n.names) c.args.rel c.args.inst.now) (sym c.put_of.ensures ∙ ap option_copied c.in-Some.is) (sym c.stays.ensures ∙ c.if-stays.true)

pub returns-else-stays : goal.returns-else-stays
returns-else-stays c =
    let n = c.args.self.now in
    none_kept _ _ _ (lists_then (shape_of n.model.now) n.case.now n.rel n.inst.now (option_copied n.names) c.args.rel c.args.inst.now) (sym c.stays.ensures ∙ c.if-stays.false)
