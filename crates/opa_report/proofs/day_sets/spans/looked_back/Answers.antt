use Rattle.std.proofs.Common.{◌∙◌, ap, subst, arith}
use Rattle.opa_date.specs.declared.TheConstants.{DAYS}
use Rattle.opa_line.specs.Lines.{StandsFor}
use Rattle.opa_line.proofs.Zipping.{ok_weaker}
use Rattle.opa_report.specs.DaySets.Spans.{one_has, back_spans}
use Rattle.opa_report.proofs.day_sets.Spanning.{looks_back}
use Rattle.opa_report.proofs.day_sets.spans.looked_back.Goals as goal

pub returns : goal.returns
returns c = ok_weaker c.of_spans.result _ _ (λ l h. looks_back c.args.count c.args.days.now l (omega arith) c.segments.ensures.form
    (subst (λ s. StandsFor DAYS (one_has s) l) (c.deref.ensures.value ∙ c.in_ok-spans.ensures ∙ ap (back_spans c.args.count) c.segments.ensures.value) h)) c.of_spans.ensures
