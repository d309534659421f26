use Rattle.std.proofs.Common.{ap, sym, subst, ◌∙◌}
use Rattle.std.specs.Prelude.{is_some}
use Rattle.std.specs.FinMap.{get}
use Rattle.std.specs.Option.{option_copied}
use Rattle.opa_model.specs.declared.ids.RelId.{RelId}
use Rattle.opa_cells.specs.Rows.{cells_at}
use Rattle.opa_case.specs.Fewer.{AreFewer}
use Rattle.opa_case.specs.Steps.{rel, changed}
use Rattle.opa_case.proofs.Fewer.{few_elsewhere, few_here}
use Rattle.opa_case.proofs.Lively.{some_copied}
use Rattle.opa_case.proofs.changed.ChangedLists.are_fewer.Goals as goal

pub returns-then-rel-self : goal.returns-then-rel-self
returns-then-rel-self c h =
    let s = c.args.self.now in
    few_elsewhere s.lists.now s.rel s.inst.now (option_copied s.names) c.args.rel c.args.count c.len_of-known.result c.if-rel-self.true c.len_of-known.ensures h

pub returns : goal.returns
returns c h =
    let s = c.args.self.now in
    subst (λ (q : RelId). AreFewer (changed s.lists.now s.rel s.inst.now (option_copied s.names)) q c.args.count) (ap rel (sym c.if-rel-self.false))
    (few_here s.lists.now s.rel s.inst.now (option_copied s.names) c.args.count c.len_of-known.result c.is_some-before.result c.is_some.result
    (c.len_of-known.ensures ∙ ap (cells_at s.lists.now) c.if-rel-self.false)
    (c.is_some-before.ensures ∙ sym (some_copied c.get.result) ∙ ap is_some c.get.ensures ∙ ap (λ n. is_some (get s.lists.now (n, s.inst.now))) c.if-rel-self.false)
    (c.is_some.ensures ∙ sym (some_copied s.names)) (sym c.is_less.ensures ∙ h))
