use Rattle.std.proofs.Common.{rules, of_calls, sym, ap, subst}
use Rattle.opa_value.specs.declared.value.Value.TheVariants.{Unknown}
use Rattle.opa_line.specs.Lines.{value_or}
use Rattle.opa_line.proofs.Zipping.{ok_weaker}
use Rattle.opa_code.specs.OverLines.Extremes.{IsOneBest}
use Rattle.opa_code.proofs.over_lines.lines.one_best.Goals as goal

pub returns : goal.returns
returns c = ok_weaker c.map.result _ _ (λ l h d lt. let x = h d lt in let m = x.1 in let p = m.says in
    let e : IsOneBest m.first.now x.0 = search (rules, of_calls, p) in
    (x.0, subst (λ v. IsOneBest v x.0) (sym (ap (value_or Unknown) m.left)) e, x.2)) c.map.ensures
