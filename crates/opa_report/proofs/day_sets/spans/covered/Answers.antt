use Rattle.std.proofs.Common.{◌∙◌, ap, subst, map}
use Rattle.opa_date.specs.declared.TheConstants.{DAYS}
use Rattle.opa_line.specs.Lines.{StandsFor}
use Rattle.opa_line.proofs.Zipping.{ok_weaker}
use Rattle.opa_report.specs.DaySets.Spans.{one_has}
use Rattle.opa_report.proofs.day_sets.Spanning.{covers}
use Rattle.opa_report.proofs.day_sets.spans.covered.Goals as goal

pub returns : goal.returns
returns c = ok_weaker c.of_spans.result _ _ (λ l h. covers c.args.spans.now l c.segments.ensures.form
    (subst (λ s. StandsFor DAYS (one_has s) l) (c.deref.ensures.value ∙ c.in_ok-each.ensures ∙ ap (map (λ p. p.1)) c.segments.ensures.value) h)) c.of_spans.ensures
