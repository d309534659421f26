use Rattle.std.proofs.Common.{ap, sym, ◌∙◌, ◌==◌, eq-eqb}
use Rattle.std.specs.FinMap.{get}
use Rattle.opa_case.specs.Shapes.{shape_of}
use Rattle.opa_case.specs.Steps.{rel}
use Rattle.opa_case.specs.declared.declared.Bond.{Bond}
use Rattle.opa_case.proofs.Taken.{one_taken}
use Rattle.opa_case.proofs.dropping.drop_own.Goals as goal

pub returns-then-bond_of-inst : goal.returns-then-bond_of-inst
returns-then-bond_of-inst c q j =
    let s = shape_of c.args.model.now in
    let i = c.args.inst.now in
    ap (λ m. get m (q, j)) c.remove.ensures
    ∙ one_taken c.args.lists.now c.args.number i (λ n. s.source (rel n) == i.entity.0)
    (eq-eqb (s.source (rel c.args.number)) i.entity.0 (sym (ap (λ (b : Bond). b.source) c.bond_of.ensures.value) ∙ c.if-bond_of-inst.true)) q j
