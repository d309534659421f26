use Rattle.std.proofs.Common.{rules, of_calls, ◌∷◌, [], sym, ap, subst}
use Rattle.opa_value.specs.declared.value.Value.TheVariants.{Unknown}
use Rattle.opa_line.specs.Lines.{value_or}
use Rattle.opa_line.proofs.Zipping.{ok_weaker}
use Rattle.opa_window.specs.Days.{day_value}
use Rattle.opa_code.specs.OverLines.Extremes.{AreBests}
use Rattle.opa_code.proofs.over_lines.lines.two_bests.Goals as goal

pub returns : goal.returns
returns c = ok_weaker c.zip.result _ _ (λ l h d lt. let e = h d lt in let j = e.1 in let p = j.says in
    let of_two : AreBests c.args.most (j.first.now ∷ j.second.now ∷ []) e.0 = search (rules, of_calls, p) in
    (e.0, subst (λ w. AreBests c.args.most (day_value c.args.x.now d ∷ w ∷ []) e.0) (sym (ap (value_or Unknown) j.right)) (subst (λ v. AreBests c.args.most (v ∷ j.second.now ∷ []) e.0) (sym (ap (value_or Unknown) j.left)) of_two), e.2)) c.zip.ensures
