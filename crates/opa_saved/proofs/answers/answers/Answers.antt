use Rattle.std.proofs.Common.{◌++◌, map, ap, ◌∙◌, arith}
use Rattle.serde_json.specs.View.{view}
use Rattle.opa_saved.specs.Saved.{answers_of}
use Rattle.opa_saved.proofs.LineFacts.{one_more}
use Rattle.opa_saved.proofs.SavedLaws.{answers_none, answers_next}
use Rattle.opa_saved.proofs.answers.answers.Goals as goal

pub loop-n-init : goal.loop-n-init
loop-n-init c = record { written = ap (map view) c.new-out.ensures.items ∙ answers_none c.args.model.now c.args.case.now; lines = λ n lt. absurd (omega (arith, lt)) }

pub loop-n-preserved : goal.loop-n-preserved
loop-n-preserved c = record {
  written = c.in_ok-add_attribute.ensures.data ∙ ap (λ x. x ++ answers_of c.args.model.now c.args.case.now c.loop-n.n) c.loop-n.invariant.written ∙ answers_next c.args.model.now c.args.case.now c.loop-n.n;
  lines = one_more c.args.model.now c.args.case.now c.loop-n.n c.loop-n.invariant.lines c.in_ok-add_attribute.ensures.lines;
}
