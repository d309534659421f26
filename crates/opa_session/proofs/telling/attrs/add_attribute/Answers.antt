use Rattle.std.proofs.Common.{false, Some, refl}
use Rattle.opa_mean.specs.Given.{base_of}
use Rattle.opa_session.specs.declared.telling.told_attrs.ToldAttrs.{ToldAttrs}
use Rattle.opa_session.proofs.telling.Taking.{told_again, told_more}
use Rattle.opa_session.proofs.telling.attrs.add_attribute.Goals as goal

pub returns-then-is_last : goal.returns-then-is_last
returns-then-is_last c = λ slots s same are _.
    let new : ToldAttrs = record { attrs = c.args.told.now.attrs; last = c.args.told.now.last; single = false } in
    told_again (base_of c.args.base.now) slots s c.args.told.now new c.args.attr same are (c.is_last.ensures c.if-is_last.true) refl refl refl

pub returns : goal.returns
returns c = λ slots s same are _.
    let new : ToldAttrs = record { attrs = c.push.new.self; last = Some c.args.attr; single = c.args.told.now.single } in
    told_more (base_of c.args.base.now) slots s c.args.told.now new c.args.attr same are (c.is_behind.ensures c.if-not-is_behind.false) c.in_ok-push.ensures.ok refl refl
