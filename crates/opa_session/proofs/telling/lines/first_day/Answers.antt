use Rattle.std.proofs.Common.{◌∙◌}
use Rattle.std.specs.Option.{option_copied}
use Rattle.opa_date.specs.declared.TheConstants.{DAYS}
use Rattle.opa_mean.specs.Given.{line_value}
use Rattle.opa_mean.specs.Holding.{held_value}
use Rattle.opa_mean.proofs.Holdings.{held_line}
use Rattle.opa_session.proofs.telling.Firsts.{same_first}
use Rattle.opa_session.proofs.telling.lines.first_day.Goals as goal

pub returns : goal.returns
returns g c =
    let a = c.args.attr in let i = c.args.inst.now in
    let r = g.H.Lined.rules c.args.old.now in let k = g.H.Lined.over c.args.old.now in
    let s = g.K.Lined.rules c.args.new.now in let m = g.K.Lined.over c.args.new.now in
    c.in_ok-day.ensures ∙ same_first DAYS (line_value (option_copied c.line-before.result)) (held_value r k a i) (line_value (option_copied c.line-after.result)) (held_value s m a i)
    (held_line r k a i c.line-before.result c.line-before.ensures.value c.line-before.ensures.none) (held_line s m a i c.line-after.result c.line-after.ensures.value c.line-after.ensures.none)
