use Rattle.std.proofs.Common.{◌<◌, ◌≤◌, List, arith, length, subst, sym}
use Rattle.opa_model.specs.declared.ids.AttrId.{AttrId}
use Rattle.opa_rules.specs.Reviewing.Marks.{AreSpread}
use Rattle.opa_rules.proofs.reviewing.RowLaws.{whole_take}
use Rattle.opa_rules.proofs.reviewing.SeenLaws.{one_spread}
use Rattle.opa_rules.proofs.reviewing.looking.pass_on_level.Goals as goal

pub loop-attr-preserved : goal.loop-attr-preserved
loop-attr-preserved c =
    let lt : c.loop-attr.attr-index < length c.args.level.now = omega (arith, c.loop-attr-test.true) in
    one_spread c.args.base.now c.args.level.now c.loop-attr.attr-index _ c.args.marks.now.items c.loop-attr.marks.items c.pass_on.new.marks.items lt c.loop-attr.invariant c.in_ok-pass_on.ensures

pub returns : goal.returns
returns c = λ n all start.
    let past : length c.args.level.now ≤ c.loop-attr.attr-index = omega (arith, c.loop-attr-test.false) in
    subst (λ (xs : List AttrId). AreSpread c.args.base.now n xs c.loop-attr.marks.items) (sym (whole_take c.loop-attr.attr-index c.args.level.now past)) (c.loop-attr.invariant n all start)
